use Rattle.std.proofs.Common.{arith}
use Rattle.one_stack.proofs.Stepping.{put_down, put_ended}
use Rattle.one_stack.proofs.sets.put_held.Goals as goal

pub loop-r-preserved : goal.loop-r-preserved
loop-r-preserved c = put_down _ _ c.loop-r.r _ _ _ _ (omega arith) c.in_ok-put_slot.ensures c.held_set.ensures c.loop-r.invariant

pub returns : goal.returns
returns c = put_ended _ c.loop-r.r _ _ (omega arith) c.loop-r.invariant
