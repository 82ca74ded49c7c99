use Rattle.std.proofs.Common.{◌≡◌, length}
use Rattle.guard_prog.specs.WellShaped.{are_distinct_by}
use Rattle.guard_prog.proofs.shape.are_labels_distinct.Given as goal

-- what was passed over has no label twice, so the rest decides
abbrev pub invariant-loop-alternative : goal.invariant-loop-alternative
invariant-loop-alternative l = are_distinct_by (λ x. x.label) l.rest ≡ are_distinct_by (λ x. x.label) l.alternatives

abbrev pub decreases-loop-alternative : goal.decreases-loop-alternative
decreases-loop-alternative l = length l.rest
