use Rattle.std.proofs.Common.{take}
use Rattle.turn_unroll.specs.Ways.{TakesWays}
use Rattle.turn_unroll.proofs.ways.ways_taken.Given as goal

abbrev pub invariant-loop-i : goal.invariant-loop-i
invariant-loop-i l = TakesWays l.fn.circuit l.circuit l.labels (take l.i l.opened) l.ways.items
