use Rattle.std.proofs.Common.{◌≡◌, ◌+◌, drop}
use Rattle.lower_law.specs.Translated.{cell_count}
use Rattle.lower_pieces.proofs.translation.cell_count.Given as goal

-- with what is left of the variables
abbrev pub invariant-loop-global : goal.invariant-loop-global
invariant-loop-global l = cell_count l.globals ≡ l.total + cell_count (drop l.global-index l.globals)
