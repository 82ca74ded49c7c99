use Rattle.std.proofs.Common.{take}
use Rattle.turn_unroll.specs.Demands.{SeesLabels}
use Rattle.turn_unroll.proofs.labels.see.Given as goal

abbrev pub invariant-loop-i : goal.invariant-loop-i
invariant-loop-i l = SeesLabels l.fn.circuit l.circuit l.fn.demands l.demands (take l.i l.labels) l.seen
