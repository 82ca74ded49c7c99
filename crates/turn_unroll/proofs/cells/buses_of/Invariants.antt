use Rattle.std.proofs.Common.{◌≡◌, take}
use Rattle.turn_unroll.proofs.cells.buses_of.Given as goal

abbrev pub invariant-loop-i : goal.invariant-loop-i
invariant-loop-i l = l.buses ≡ take l.i l.items
