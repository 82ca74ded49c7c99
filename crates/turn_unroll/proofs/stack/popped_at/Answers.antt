use Rattle.std.proofs.Common.{arith, refl, subst, sym}
use Rattle.clause_form.specs.Literals.{IsOf}
use Rattle.clause_form.proofs.Rising.{AreOf-more, IsOf-more}
use Rattle.turn_unroll.proofs.Making.{found_more, found_all, never_gives, nth_of, slot_of, truth_more, rows_more}
use Rattle.turn_unroll.proofs.stack.popped_at.Goals as goal

pub loop-d-init : goal.loop-d-init
loop-d-init c = never_gives _ _ c.requires.truth refl

pub and-requires-clause-a : goal.and-requires-clause-a
and-requires-clause-a c = subst (IsOf c.loop-d.circuit.variables) (sym c.place_in.ensures) (nth_of _ c.args.from.now _ (truth_more _ _ _ c.requires.truth c.loop-d.invariant.extends) (AreOf-more _ _ c.args.from.now c.loop-d.invariant.extends.grows c.requires.from))

pub and-requires-clause-b : goal.and-requires-clause-b
and-requires-clause-b c = subst (IsOf c.loop-d.circuit.variables) (sym c.slot_place.ensures) (slot_of _ c.args.slots.now _ _ (truth_more _ _ _ c.requires.truth c.loop-d.invariant.extends) (rows_more _ _ c.args.slots.now c.loop-d.invariant.extends.grows c.requires.slots))

pub or-requires-clause-a : goal.or-requires-clause-a
or-requires-clause-a c = IsOf-more _ _ _ c.in_ok-here.ensures.extends.grows c.loop-d.invariant.inside

pub loop-d-preserved : goal.loop-d-preserved
loop-d-preserved c = found_more _ _ _ _ c.args.from.now c.args.slots.now c.args.i c.loop-d.d _ _ _ _ _ c.loop-d.invariant c.place_in.ensures c.slot_place.ensures c.in_ok-here.ensures c.in_ok-some.ensures

pub returns : goal.returns
returns c = found_all _ _ c.args.from.now c.args.slots.now c.args.i c.loop-d.d _ _ (omega arith) c.loop-d.invariant
