use Rattle.std.proofs.Common.{◌≤◌, take}
use Rattle.turn_unroll.specs.Places.{bits_below}
use Rattle.turn_unroll.proofs.guards.most_bits.Given as goal

abbrev pub invariant-loop-i : goal.invariant-loop-i
invariant-loop-i l = record { below : bits_below (take l.i l.opened) l.most; few : l.most ≤ 32 }
