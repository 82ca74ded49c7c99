use Rattle.one_stack.proofs.Stepping.{list_put}
use Rattle.one_stack.proofs.starts.put_requests.Goals as goal

pub loop-l-preserved : goal.loop-l-preserved
loop-l-preserved c = list_put _ c.loop-l.l _ _ _ c.in_ok-put_level.ensures c.loop-l.invariant
