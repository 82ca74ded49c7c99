use Rattle.std.proofs.Common.{arith}
use Rattle.one_stack.proofs.Stepping.{put_more, put_ended}
use Rattle.one_stack.proofs.sets.put_kept.Goals as goal

pub loop-e-preserved : goal.loop-e-preserved
loop-e-preserved c = put_more _ c.loop-e.e _ _ _ (omega arith) c.in_ok-put_kept_of.ensures c.loop-e.invariant

pub returns : goal.returns
returns c = put_ended _ c.loop-e.e _ _ (omega arith) c.loop-e.invariant
