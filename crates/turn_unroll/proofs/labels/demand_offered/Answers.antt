use Rattle.std.proofs.Common.{arith, subst, sym, ap, length, ◌∙◌, ◌<◌}
use Rattle.clause_form.specs.Literals.{AreOf}
use Rattle.clause_form.proofs.Rising.{AreOf-more}
use Rattle.turn_unroll.specs.declared.ways.Side.TheVariants.{Label}
use Rattle.turn_unroll.specs.Ways.{AreBelow, choices_of}
use Rattle.turn_unroll.proofs.Demanding.{on_ok}
use Rattle.turn_unroll.proofs.Making.{truth_more}
use Rattle.turn_unroll.proofs.Waying.{offered_made}
use Rattle.turn_unroll.proofs.labels.demand_offered.Goals as goal

pub named_row-requires-clause-fits : goal.named_row-requires-clause-fits
named_row-requires-clause-fits c = subst (λ n. AreBelow Label n (choices_of c.args.opened.now)) (sym c.len.ensures) c.requires.fits

pub demand_each-requires-clause-truth : goal.demand_each-requires-clause-truth
demand_each-requires-clause-truth c = truth_more _ _ _ c.requires.truth c.in_ok-offered.ensures.extends

pub demand_each-requires-clause-labels : goal.demand_each-requires-clause-labels
demand_each-requires-clause-labels c = AreOf-more _ _ c.args.labels.now c.in_ok-offered.ensures.extends.grows c.requires.labels

pub demand_each-requires-clause-offered : goal.demand_each-requires-clause-offered
demand_each-requires-clause-offered c = subst (AreOf _) (sym c.deref.ensures.value) c.in_ok-offered.ensures.inside

pub demand_each-requires-clause-some : goal.demand_each-requires-clause-some
demand_each-requires-clause-some c = subst (λ k. 0 < k) (sym (ap length c.deref.ensures.value ∙ c.in_ok-offered.ensures.count ∙ c.len.ensures)) c.requires.some

pub demand_each-requires-clause-demands : goal.demand_each-requires-clause-demands
demand_each-requires-clause-demands c = AreOf-more _ _ c.args.demands.now c.in_ok-offered.ensures.extends.grows c.requires.demands

pub returns : goal.returns
returns c = on_ok c.demand_each.result _ _ (λ d. offered_made _ _ _ _ _ c.args.labels.now _ _ c.args.opened.now _ c.len.ensures c.deref.ensures.value c.in_ok-offered.ensures d) c.demand_each.ensures
