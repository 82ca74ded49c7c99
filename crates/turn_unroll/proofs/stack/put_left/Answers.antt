use Rattle.std.proofs.Common.{arith, subst, sym}
use Rattle.clause_form.specs.Literals.{IsOf}
use Rattle.clause_form.proofs.Rising.{AreOf-more, IsOf-more}
use Rattle.turn_unroll.proofs.Making.{nth_of, rows_more, slots_all, slots_more, slots_none, truth_more}
use Rattle.turn_unroll.proofs.stack.put_left.Goals as goal

pub loop-d-init : goal.loop-d-init
loop-d-init c = slots_none _ c.args.push c.args.depth.now c.args.leave.now c.args.slots.now _ c.new-rows.ensures

pub and-requires-clause-a : goal.and-requires-clause-a
and-requires-clause-a c = IsOf-more _ _ c.args.push c.loop-d.invariant.extends.grows c.requires.push

pub and-requires-clause-b : goal.and-requires-clause-b
and-requires-clause-b c = subst (IsOf _) (sym c.place.ensures) (nth_of _ c.args.depth.now _ (truth_more _ _ _ c.requires.truth c.loop-d.invariant.extends) (AreOf-more _ _ c.args.depth.now c.loop-d.invariant.extends.grows c.requires.depth))

pub slot_after-requires-clause-truth : goal.slot_after-requires-clause-truth
slot_after-requires-clause-truth c = truth_more _ _ _ (truth_more _ _ _ c.requires.truth c.loop-d.invariant.extends) c.in_ok-chosen.ensures.extends

pub slot_after-requires-clause-slots : goal.slot_after-requires-clause-slots
slot_after-requires-clause-slots c = rows_more _ _ c.args.slots.now c.in_ok-chosen.ensures.extends.grows (rows_more _ _ c.args.slots.now c.loop-d.invariant.extends.grows c.requires.slots)

pub slot_after-requires-clause-leave : goal.slot_after-requires-clause-leave
slot_after-requires-clause-leave c = AreOf-more _ _ c.args.leave.now c.in_ok-chosen.ensures.extends.grows (AreOf-more _ _ c.args.leave.now c.loop-d.invariant.extends.grows c.requires.leave)

pub loop-d-preserved : goal.loop-d-preserved
loop-d-preserved c = slots_more _ _ _ _ c.args.push c.args.depth.now c.args.leave.now c.args.slots.now _ _ c.loop-d.d _ _ _ c.loop-d.invariant c.place.ensures c.in_ok-chosen.ensures c.in_ok-slot_after.ensures c.in_ok-push.ensures.ok

pub returns : goal.returns
returns c = slots_all _ _ c.args.push c.args.depth.now c.args.leave.now c.args.slots.now _ c.loop-d.d _ (omega arith) c.loop-d.invariant
