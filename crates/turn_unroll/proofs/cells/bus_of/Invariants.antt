use Rattle.std.proofs.Common.{◌≡◌, ◌<◌, ℕ, length}
use Rattle.turn_law.specs.Symbol.{nth}
use Rattle.turn_unroll.proofs.cells.bus_of.Given as goal

abbrev pub invariant-loop-i : goal.invariant-loop-i
invariant-loop-i l = record { count : length l.lits ≡ 32; same : (k : ℕ) → k < l.i → nth l.lits k ≡ nth l.row k }
