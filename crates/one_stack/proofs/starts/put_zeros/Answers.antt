use Rattle.std.proofs.Common.{refl}
use Rattle.one_stack.proofs.Stepping.{item_put}
use Rattle.one_stack.proofs.starts.put_zeros.Goals as goal

pub loop-q-preserved : goal.loop-q-preserved
loop-q-preserved c = item_put _ c.loop-q._q _ _ _ _ c.in_ok-push.ensures.ok refl c.loop-q.invariant
