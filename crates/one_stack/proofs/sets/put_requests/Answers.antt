use Rattle.std.proofs.Common.{arith}
use Rattle.one_stack.proofs.Stepping.{put_more, put_ended}
use Rattle.one_stack.proofs.sets.put_requests.Goals as goal

pub loop-l-preserved : goal.loop-l-preserved
loop-l-preserved c = put_more _ c.loop-l.l _ _ _ (omega arith) c.in_ok-put_level.ensures c.loop-l.invariant

pub returns : goal.returns
returns c = put_ended _ c.loop-l.l _ _ (omega arith) c.loop-l.invariant
