use Rattle.std.proofs.Common.{arith, refl}
use Rattle.turn_unroll.specs.Ways.{offers_of}
use Rattle.turn_unroll.proofs.Offering.{point_none, point_more, point_all}
use Rattle.turn_unroll.proofs.offers.push_point.Goals as goal

pub loop-i-init : goal.loop-i-init
loop-i-init c = point_none _ c.args.point c.args.alternatives.now

pub loop-i-preserved : goal.loop-i-preserved
loop-i-preserved c = point_more _ _ _ c.args.point c.args.alternatives.now c.loop-i.i _ _ c.index-alternatives-i.is (omega arith) c.loop-i.invariant refl c.in_ok-push.ensures.items

pub returns : goal.returns
returns c = point_all _ _ c.args.point c.args.alternatives.now c.loop-i.i (omega arith) c.loop-i.invariant
