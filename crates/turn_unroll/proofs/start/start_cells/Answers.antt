use Rattle.std.proofs.Common.{arith, refl, ◌≡◌, get_or}
use Rattle.turn_unroll.proofs.Starting.{cells_none, cells_push, cells_whole, get_same}
use Rattle.turn_unroll.proofs.start.start_cells.Goals as goal

pub loop-q-init : goal.loop-q-init
loop-q-init c = cells_none c.args.starts.now _ c.new-cells.ensures

pub loop-q-preserved : goal.loop-q-preserved
loop-q-preserved c = cells_push c.args.starts.now c.loop-q.q _ _ _ _ (omega arith) (get_same c.args.starts.now c.loop-q.q 0 (omega arith)) c.loop-q.invariant c.constant.ensures c.in_ok-push.ensures.ok

pub returns : goal.returns
returns c = cells_whole c.args.starts.now c.loop-q.q _ (omega arith) c.loop-q.invariant
