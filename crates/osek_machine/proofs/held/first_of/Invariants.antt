use Rattle.std.proofs.Common.{ℕ, ◌<◌, slice_get}
use Rattle.osek_machine.proofs.held.first_of.Given as goal
use Rattle.osek_machine.specs.Held.{IsEntity}

abbrev pub invariant-loop-i : goal.invariant-loop-i
invariant-loop-i l = (k : ℕ) → k < l.i → IsEntity (slice_get l.held k) l.entity → ⊥
