use Rattle.std.proofs.Common.{arith}
use Rattle.one_stack.proofs.Stepping.{put_down, put_ended}
use Rattle.one_stack.proofs.sets.put_stack.Goals as goal

pub loop-x-preserved : goal.loop-x-preserved
loop-x-preserved c = put_down _ _ c.loop-x.x _ _ _ _ (omega arith) c.in_ok-put_slot.ensures c.on_set.ensures c.loop-x.invariant

pub returns : goal.returns
returns c = put_ended _ c.loop-x.x _ _ (omega arith) c.loop-x.invariant
