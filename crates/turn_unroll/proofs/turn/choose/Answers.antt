use Rattle.std.proofs.Common.{arith, refl, subst, sym}
use Rattle.clause_form.proofs.Rising.{AreOf-more}
use Rattle.turn_unroll.specs.Places.{AreMarked, IsMarkedWord}
use Rattle.turn_unroll.proofs.Making.{truth_more}
use Rattle.turn_unroll.proofs.Picking.{picked_made}
use Rattle.turn_unroll.proofs.turn.choose.Goals as goal

pub free_row-requires-2 : goal.free_row-requires-2
free_row-requires-2 c = truth_more _ _ _ c.requires.truth c.in_ok-labels.ensures.extends

pub see-requires-clause-truth : goal.see-requires-clause-truth
see-requires-clause-truth c = truth_more _ _ _ (truth_more _ _ _ c.requires.truth c.in_ok-labels.ensures.extends) c.in_ok-word.ensures.extends

pub see-requires-clause-labels : goal.see-requires-clause-labels
see-requires-clause-labels c = AreOf-more _ _ _ c.in_ok-word.ensures.extends.grows c.in_ok-labels.ensures.inside

pub see-requires-clause-demands : goal.see-requires-clause-demands
see-requires-clause-demands c = AreOf-more _ _ c.args.demands.now c.in_ok-word.ensures.extends.grows (AreOf-more _ _ c.args.demands.now c.in_ok-labels.ensures.extends.grows c.requires.demands)

pub returns : goal.returns
returns c = picked_made _ _ _ _ _ _ _ _ _ _ _ _ _ _ _ _ (subst (AreMarked c.args.count c.args.opened.now) (sym c.deref.ensures.value) c.in_ok-label_places.ensures) (subst (IsMarkedWord c.args.opened.now) (sym c.deref-2.ensures.value) c.in_ok-word_places.ensures) c.in_ok-labels.ensures c.in_ok-word.ensures c.in_ok-seen.ensures c.negated.ensures.negation c.in_ok-with_other.ensures refl
