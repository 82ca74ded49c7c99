use Rattle.std.proofs.Common.{◌≡◌, drop}
use Rattle.std.specs.Prelude.{map}
use Rattle.lower_law.specs.Statements.{block}
use Rattle.lower_pieces.specs.Firsts.{first_thing}
use Rattle.lower_pieces.specs.Trees.{statement_of}
use Rattle.lower_pieces.proofs.entries.+first_thing.Given as goal

-- the first is in what is left
abbrev pub invariant-loop-s : goal.invariant-loop-s
invariant-loop-s l = first_thing (block (map statement_of l.b)) ≡ first_thing (block (map statement_of (drop l.s-index l.b)))
