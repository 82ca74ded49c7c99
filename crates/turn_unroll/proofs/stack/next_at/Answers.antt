use Rattle.std.proofs.Common.{arith, subst, sym, ap, length, ◌∙◌}
use Rattle.std.proofs.lemmas.Result.{IfOk-weaker}
use Rattle.clause_form.specs.Literals.{AreOf}
use Rattle.clause_form.proofs.Rising.{AreOf-more, IsOf-more}
use Rattle.turn_unroll.proofs.Making.{rows_more, truth_more}
use Rattle.turn_unroll.proofs.Waying.{tops_made}
use Rattle.turn_unroll.proofs.stack.next_at.Goals as goal

pub popping-requires-clause-truth : goal.popping-requires-clause-truth
popping-requires-clause-truth c = truth_more _ _ _ c.requires.truth c.in_ok-lead.ensures.extends

pub popping-requires-clause-pop : goal.popping-requires-clause-pop
popping-requires-clause-pop c = IsOf-more _ _ c.args.pop c.in_ok-lead.ensures.extends.grows c.requires.pop

pub popping-requires-clause-depth : goal.popping-requires-clause-depth
popping-requires-clause-depth c = AreOf-more _ _ c.args.depth.now c.in_ok-lead.ensures.extends.grows c.requires.depth

pub or_popped-requires-clause-truth : goal.or_popped-requires-clause-truth
or_popped-requires-clause-truth c = truth_more _ _ _ (truth_more _ _ _ c.requires.truth c.in_ok-lead.ensures.extends) c.in_ok-from.ensures.extends

pub or_popped-requires-clause-lead : goal.or_popped-requires-clause-lead
or_popped-requires-clause-lead c = subst (AreOf _) (sym c.deref.ensures.value) (AreOf-more _ _ _ c.in_ok-from.ensures.extends.grows c.in_ok-lead.ensures.inside)

pub or_popped-requires-clause-from : goal.or_popped-requires-clause-from
or_popped-requires-clause-from c = subst (AreOf _) (sym c.deref-2.ensures.value) c.in_ok-from.ensures.inside

pub or_popped-requires-clause-slots : goal.or_popped-requires-clause-slots
or_popped-requires-clause-slots c = rows_more _ _ c.args.slots.now c.in_ok-from.ensures.extends.grows (rows_more _ _ c.args.slots.now c.in_ok-lead.ensures.extends.grows c.requires.slots)

pub returns : goal.returns
returns c = IfOk-weaker _ _ _ (λ r m. tops_made _ _ _ _ c.args.ways.now c.args.pop c.args.depth.now c.args.slots.now _ _ _ _ r c.args.points _ c.deref.ensures.value c.deref-2.ensures.value c.in_ok-lead.ensures c.in_ok-from.ensures c.len.ensures m) c.or_popped.ensures
