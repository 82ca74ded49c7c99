use Rattle.std.proofs.Common.{arith, subst, sym, ◌||◌, length}
use Rattle.clause_form.specs.Literals.{IsOf}
use Rattle.clause_form.proofs.Rising.{AreOf-more, IsOf-more}
use Rattle.turn_law.specs.Symbol.{row_true}
use Rattle.turn_unroll.specs.Rows.{found_below}
use Rattle.turn_unroll.proofs.Making.{gives_none, gives_more, gives_all, nth_of, or_gives, rows_more, truth_more}
use Rattle.turn_unroll.proofs.stack.or_popped.Goals as goal

pub loop-i-init : goal.loop-i-init
loop-i-init c = gives_none _ _ (λ v i. row_true v c.args.lead.now i || found_below v c.args.from.now c.args.slots.now i (length c.args.from.now)) c.new-row.ensures

pub popped_at-requires-clause-truth : goal.popped_at-requires-clause-truth
popped_at-requires-clause-truth c = truth_more _ _ _ c.requires.truth c.loop-i.invariant.extends

pub popped_at-requires-clause-from : goal.popped_at-requires-clause-from
popped_at-requires-clause-from c = AreOf-more _ _ c.args.from.now c.loop-i.invariant.extends.grows c.requires.from

pub popped_at-requires-clause-slots : goal.popped_at-requires-clause-slots
popped_at-requires-clause-slots c = rows_more _ _ c.args.slots.now c.loop-i.invariant.extends.grows c.requires.slots

pub or-requires-clause-a : goal.or-requires-clause-a
or-requires-clause-a c = subst (IsOf _) (sym c.place_in.ensures) (nth_of _ c.args.lead.now _ (truth_more _ _ _ (truth_more _ _ _ c.requires.truth c.loop-i.invariant.extends) c.in_ok-popped.ensures.extends) (AreOf-more _ _ c.args.lead.now c.in_ok-popped.ensures.extends.grows (AreOf-more _ _ c.args.lead.now c.loop-i.invariant.extends.grows c.requires.lead)))

pub loop-i-preserved : goal.loop-i-preserved
loop-i-preserved c = gives_more _ _ _ _ _ c.loop-i.i (λ v i. row_true v c.args.lead.now i || found_below v c.args.from.now c.args.slots.now i (length c.args.from.now)) _ c.loop-i.invariant (or_gives _ _ _ _ _ _ c.args.lead.now c.loop-i.i _ c.place_in.ensures c.in_ok-popped.ensures c.in_ok-or.ensures) c.in_ok-push.ensures.ok

pub returns : goal.returns
returns c = gives_all _ _ _ _ _ (λ v i. row_true v c.args.lead.now i || found_below v c.args.from.now c.args.slots.now i (length c.args.from.now)) (omega arith) c.loop-i.invariant
