use Rattle.std.proofs.Common.{arith, ap, length}
use Rattle.turn_unroll.proofs.Opening.{label_at, marked_all, marked_back, marked_none}
use Rattle.turn_unroll.proofs.guards.label_places.Goals as goal

pub loop-i-init : goal.loop-i-init
loop-i-init c = marked_none _ c.args.count c.args.opened.now (c.in_ok-places.ensures.items_if_clones_equal (λ y e. e))

pub mark-requires-clause-label : goal.mark-requires-clause-label
mark-requires-clause-label c = (label_at c.args.count c.args.opened.now c.loop-i.i _ c.index-opened-i.is (omega arith) c.requires).0

pub mark-requires-clause-within : goal.mark-requires-clause-within
mark-requires-clause-within c = let h = (label_at c.args.count c.args.opened.now c.loop-i.i _ c.index-opened-i.is (omega arith) c.requires).1 in omega (arith, ap length c.deref_mut.ensures.value, c.loop-i.invariant.count)

pub loop-i-preserved : goal.loop-i-preserved
loop-i-preserved c =
    let h = label_at c.args.count c.args.opened.now c.loop-i.i _ c.index-opened-i.is (omega arith) c.requires in
    marked_back _ _ _ _ c.args.count _ c.args.opened.now c.loop-i.i _ c.index-opened-i.is (omega arith) h.0 h.1 c.deref_mut.ensures.value c.deref_mut.ensures.len c.mark.ensures c.loop-i.invariant

pub returns : goal.returns
returns c = marked_all _ c.args.count c.args.opened.now c.loop-i.i (omega arith) c.loop-i.invariant
