use Rattle.turn_unroll.specs.Rows.{GivesLit, found_below}
use Rattle.turn_unroll.proofs.stack.popped_at.Given as goal

abbrev pub invariant-loop-d : goal.invariant-loop-d
invariant-loop-d l = GivesLit l.fn.circuit l.circuit l.some (λ v. found_below v l.from l.slots l.i l.d)
