use Rattle.std.proofs.Common.{◌≡◌, ◌++◌, map, take}
use Rattle.osek_machine.proofs.starts.add_words.Given as goal
use Rattle.osek_machine.specs.CellWords.{cut_word}

abbrev pub invariant-loop-name : goal.invariant-loop-name
invariant-loop-name l = l.words.items ≡ l.initial.words.items ++ map cut_word (take l.name-index l.names)
