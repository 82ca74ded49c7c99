use Rattle.std.proofs.Common.{arith}
use Rattle.turn_unroll.proofs.Making.{other_none, other_more, other_all}
use Rattle.turn_unroll.proofs.labels.with_other.Goals as goal

pub loop-i-init : goal.loop-i-init
loop-i-init c = other_none _ _ c.args.other c.args.labels.now c.new-row.ensures c.in_ok-push.ensures.ok

pub loop-i-preserved : goal.loop-i-preserved
loop-i-preserved c = other_more _ _ c.args.other c.args.labels.now c.loop-i.i _ (omega arith) c.loop-i.invariant c.label_place.ensures c.in_ok-push-2.ensures.ok

pub returns : goal.returns
returns c = other_all _ c.args.other c.args.labels.now c.loop-i.i (omega arith) c.loop-i.invariant
