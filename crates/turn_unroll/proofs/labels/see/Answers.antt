use Rattle.std.proofs.Common.{arith, refl, subst, sym}
use Rattle.clause_form.specs.Literals.{IsOf}
use Rattle.clause_form.proofs.Rising.{AreOf-more, IsOf-more}
use Rattle.turn_law.specs.Symbol.{no as never}
use Rattle.turn_unroll.proofs.Demanding.{sees_none, sees_more, sees_all}
use Rattle.turn_unroll.proofs.Making.{never_gives, nth_of, truth_more}
use Rattle.turn_unroll.proofs.labels.see.Goals as goal

pub loop-i-init : goal.loop-i-init
loop-i-init c = sees_none _ _ c.args.labels.now _ c.requires.demands (never_gives _ _ c.requires.truth refl)

pub demand_apart-requires-clause-truth : goal.demand_apart-requires-clause-truth
demand_apart-requires-clause-truth c = truth_more _ _ _ c.requires.truth c.loop-i.invariant.demands.extends

pub demand_apart-requires-clause-b : goal.demand_apart-requires-clause-b
demand_apart-requires-clause-b c = subst (IsOf c.loop-i.circuit.variables) (sym c.place-label.ensures) (nth_of _ c.args.labels.now c.loop-i.i (truth_more _ _ _ c.requires.truth c.loop-i.invariant.demands.extends) (AreOf-more _ _ c.args.labels.now c.loop-i.invariant.demands.extends.grows c.requires.labels))

pub or-requires-clause-a : goal.or-requires-clause-a
or-requires-clause-a c = IsOf-more _ _ c.loop-i.seen c.in_ok-demand_apart.ensures.extends.grows c.loop-i.invariant.inside

pub or-requires-clause-b : goal.or-requires-clause-b
or-requires-clause-b c = IsOf-more _ _ c.place-label.result c.in_ok-demand_apart.ensures.extends.grows (subst (IsOf c.loop-i.circuit.variables) (sym c.place-label.ensures) (nth_of _ c.args.labels.now c.loop-i.i (truth_more _ _ _ c.requires.truth c.loop-i.invariant.demands.extends) (AreOf-more _ _ c.args.labels.now c.loop-i.invariant.demands.extends.grows c.requires.labels)))

pub loop-i-preserved : goal.loop-i-preserved
loop-i-preserved c = sees_more _ _ _ _ _ _ _ c.args.labels.now _ c.place-label.result _ never c.loop-i.i (omega arith) c.place-label.ensures c.loop-i.invariant c.in_ok-demand_apart.ensures c.in_ok-seen.ensures

pub returns : goal.returns
returns c = sees_all _ _ _ _ c.args.labels.now _ c.loop-i.i (omega arith) c.loop-i.invariant
