use Rattle.std.proofs.Common.{ℕ, ◌<◌, ◌≤◌, slice_get}
use Rattle.osek_machine.proofs.ready.highest.Given as goal
use Rattle.osek_machine.specs.Ready.{level_of}

abbrev pub invariant-loop-i : goal.invariant-loop-i
invariant-loop-i l =
    (l.best < l.i) × (l.i ≤ l.i-end)
    × ((k : ℕ) → k < l.best → level_of (slice_get l.ready k) < level_of (slice_get l.ready l.best))
    × ((k : ℕ) → k < l.i → level_of (slice_get l.ready k) ≤ level_of (slice_get l.ready l.best))
