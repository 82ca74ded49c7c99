use Rattle.std.proofs.Common.{arith, subst}
use Rattle.turn_unroll.specs.Starts.{AreRowsAt}
use Rattle.turn_unroll.proofs.Starting.{rows_more_at, rows_none}
use Rattle.turn_unroll.proofs.start.start_slots.Goals as goal

pub loop-d-init : goal.loop-d-init
loop-d-init c = rows_none c.args.first.now c.args.points _ c.new-rows.ensures

pub loop-d-preserved : goal.loop-d-preserved
loop-d-preserved c = rows_more_at c.args.first.now c.args.points c.loop-d.d _ _ _ _ c.loop-d.invariant c.point_at.ensures c.in_ok-row_at.ensures c.in_ok-push.ensures.ok

pub returns : goal.returns
returns c = subst (λ n. AreRowsAt c.args.first.now c.args.points n c.loop-d.rows) (omega arith) c.loop-d.invariant
