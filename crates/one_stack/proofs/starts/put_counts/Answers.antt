use Rattle.one_stack.proofs.Stepping.{item_put}
use Rattle.one_stack.proofs.starts.put_counts.Goals as goal

pub loop-t-preserved : goal.loop-t-preserved
loop-t-preserved c = item_put _ c.loop-t.t _ _ _ _ c.in_ok-push.ensures.ok c.requests.ensures c.loop-t.invariant
