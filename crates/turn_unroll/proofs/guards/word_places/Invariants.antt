use Rattle.std.proofs.Common.{◌≡◌, ◌<◌, ℕ, true, false, get_or, length}
use Rattle.turn_unroll.proofs.guards.word_places.Given as goal

abbrev pub invariant-loop-i : goal.invariant-loop-i
invariant-loop-i l = record { count : length l.places.items ≡ l.i; marks : (k : ℕ) → k < l.i → k < l.bits → get_or l.places.items k false ≡ true }
