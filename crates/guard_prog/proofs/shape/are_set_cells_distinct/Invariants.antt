use Rattle.std.proofs.Common.{◌≡◌, length}
use Rattle.guard_prog.specs.WellShaped.{are_distinct_by}
use Rattle.guard_prog.proofs.shape.are_set_cells_distinct.Given as goal

-- what was passed over has no cell twice, so the rest decides
abbrev pub invariant-loop-set : goal.invariant-loop-set
invariant-loop-set l = are_distinct_by (λ x. x.cell) l.rest ≡ are_distinct_by (λ x. x.cell) l.sets

abbrev pub decreases-loop-set : goal.decreases-loop-set
decreases-loop-set l = length l.rest
