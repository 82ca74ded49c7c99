use Rattle.std.proofs.Common.{◌≡◌, ◌∷◌, take}
use Rattle.turn_unroll.proofs.labels.with_other.Given as goal

abbrev pub invariant-loop-i : goal.invariant-loop-i
invariant-loop-i l = l.row ≡ l.other ∷ take l.i l.labels
