use Rattle.turn_unroll.proofs.Starting.{IsRowTo}
use Rattle.turn_unroll.proofs.start.row_at.Given as goal

abbrev pub invariant-loop-i : goal.invariant-loop-i
invariant-loop-i l = IsRowTo l.i l.at l.row
