use Rattle.turn_unroll.specs.Rows.{GivesSlots}
use Rattle.turn_unroll.proofs.stack.put_left.Given as goal

abbrev pub invariant-loop-d : goal.invariant-loop-d
invariant-loop-d l = GivesSlots l.fn.circuit l.circuit l.push l.depth l.leave l.slots l.rows l.d
