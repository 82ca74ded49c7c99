use Rattle.std.proofs.Common.{◌≡◌, ◌++◌, map, take}
use Rattle.osek_machine.proofs.starts.all_words.Given as goal
use Rattle.osek_machine.specs.CellWords.{cut_word}
use Rattle.step_ir.specs.Points.{own_cells}

abbrev pub invariant-loop-entity : goal.invariant-loop-entity
invariant-loop-entity l =
    l.words.items ≡ map cut_word (l.fn.code.globals ++ own_cells (take l.entity-index l.entities))
