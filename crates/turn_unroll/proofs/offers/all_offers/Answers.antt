use Rattle.std.proofs.Common.{◌≡◌, ◌++◌, arith, refl, ap, ◌∙◌, subst}
use Rattle.guard_prog.specs.Drafts.{plain_alternatives}
use Rattle.turn_law.specs.Unrolled.{offers_from, offers_here}
use Rattle.turn_unroll.specs.Ways.{offers_of}
use Rattle.turn_unroll.proofs.Offering.{points_none, points_more, points_all}
use Rattle.turn_unroll.proofs.offers.all_offers.Goals as goal

pub loop-i-init : goal.loop-i-init
loop-i-init c = points_none _ c.items-points.result.now c.new-all.ensures.items

pub returns : goal.returns
returns c = points_all _ c.items-points.result.now c.loop-i.i (omega arith) c.loop-i.invariant ∙ ap (offers_from 0) c.items-points.ensures

pub loop-i-preserved : goal.loop-i-preserved
loop-i-preserved c =
    points_more c.loop-i.all.items c.push_point.new.all.items c.items-points.result.now c.loop-i.i c.loop-i.i c.index-points-i.result c.index-points-i.is refl (omega arith) c.loop-i.invariant
    (subst (λ as'. offers_of c.push_point.new.all.items ≡ offers_of c.loop-i.all.items ++ offers_here c.loop-i.i (plain_alternatives as')) c.items.ensures c.in_ok-push_point.ensures)
