use Rattle.turn_unroll.specs.Starts.{AreRowsAt}
use Rattle.turn_unroll.proofs.start.start_slots.Given as goal

abbrev pub invariant-loop-d : goal.invariant-loop-d
invariant-loop-d l = AreRowsAt l.first l.points l.d l.rows
