use Rattle.std.proofs.Common.{arith, refl}
use Rattle.turn_unroll.proofs.Offering.{greatest_none, greatest_more, greatest_all}
use Rattle.turn_unroll.proofs.offers.greatest_label.Goals as goal

pub loop-i-init : goal.loop-i-init
loop-i-init c = greatest_none c.args.offers.now

pub loop-i-preserved : goal.loop-i-preserved
loop-i-preserved c = greatest_more c.args.offers.now c.loop-i.i _ _ c.index-offers-i.result (omega arith) c.loop-i.invariant c.max-most.ensures

pub returns : goal.returns
returns c = greatest_all c.args.offers.now c.loop-i.i _ (omega arith) c.loop-i.invariant
