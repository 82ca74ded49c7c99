use Rattle.one_stack.proofs.Stepping.{item_put}
use Rattle.one_stack.proofs.starts.put_stack.Goals as goal

pub loop-x-preserved : goal.loop-x-preserved
loop-x-preserved c = item_put _ c.loop-x.x _ _ _ _ c.in_ok-push.ensures.ok c.times_on.ensures.count c.loop-x.invariant
