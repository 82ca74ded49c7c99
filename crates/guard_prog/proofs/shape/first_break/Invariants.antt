use Rattle.std.proofs.Common.{◌≡◌, ℕ, ◌<◌, true}
use Rattle.guard_prog.specs.WellShaped.{point_fits}
use Rattle.guard_prog.proofs.shape.first_break.Given as goal

-- the points before this one break no condition
abbrev pub invariant-loop-i : goal.invariant-loop-i
invariant-loop-i l = (k : ℕ) → k < l.i → point_fits l.draft k ≡ true
