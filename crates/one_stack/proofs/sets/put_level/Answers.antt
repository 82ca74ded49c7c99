use Rattle.std.proofs.Common.{arith}
use Rattle.one_stack.proofs.Stepping.{put_down, put_ended}
use Rattle.one_stack.proofs.sets.put_level.Goals as goal

pub loop-i-preserved : goal.loop-i-preserved
loop-i-preserved c = put_down _ _ c.loop-i.i _ _ _ _ (omega arith) c.in_ok-put_slot.ensures c.in_ok-value.ensures c.loop-i.invariant

pub returns : goal.returns
returns c = put_ended _ c.loop-i.i _ _ (omega arith) c.loop-i.invariant
