use Rattle.turn_unroll.specs.Rows.{GivesRow, depth_made}
use Rattle.turn_unroll.proofs.stack.next_depth.Given as goal

abbrev pub invariant-loop-d : goal.invariant-loop-d
invariant-loop-d l = GivesRow l.fn.circuit l.circuit l.row l.d (λ v d. depth_made v l.push l.pop l.depth d)
