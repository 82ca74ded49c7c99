use Rattle.std.proofs.Common.{arith}
use Rattle.one_stack.proofs.Stepping.{put_down, put_ended}
use Rattle.one_stack.proofs.sets.put_counts.Goals as goal

pub loop-t-preserved : goal.loop-t-preserved
loop-t-preserved c = put_down _ _ c.loop-t.t _ _ _ _ (omega arith) c.in_ok-put_slot.ensures c.in_ok-value.ensures c.loop-t.invariant

pub returns : goal.returns
returns c = put_ended _ c.loop-t.t _ _ (omega arith) c.loop-t.invariant
