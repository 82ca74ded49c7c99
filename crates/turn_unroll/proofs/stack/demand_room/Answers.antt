use Rattle.std.proofs.Common.{arith, refl, subst, sym}
use Rattle.clause_form.specs.Literals.{IsOf}
use Rattle.clause_form.proofs.Rising.{AreOf-more, IsOf-more}
use Rattle.turn_unroll.proofs.Demanding.{on_ok, room_made}
use Rattle.turn_unroll.proofs.Making.{nth_of, truth_more}
use Rattle.turn_unroll.proofs.stack.demand_room.Goals as goal

pub demand_apart-requires-clause-truth : goal.demand_apart-requires-clause-truth
demand_apart-requires-clause-truth c = truth_more _ _ _ c.requires.truth c.in_ok-end.ensures.extends

pub demand_apart-requires-clause-a : goal.demand_apart-requires-clause-a
demand_apart-requires-clause-a c = IsOf-more _ _ c.args.push c.in_ok-end.ensures.extends.grows c.requires.push

pub demand_apart-requires-clause-b : goal.demand_apart-requires-clause-b
demand_apart-requires-clause-b c = subst (IsOf _) (sym c.place.ensures) (nth_of _ c.args.depth.now _ (truth_more _ _ _ c.requires.truth c.in_ok-end.ensures.extends) (AreOf-more _ _ c.args.depth.now c.in_ok-end.ensures.extends.grows c.requires.depth))

pub demand_apart-requires-clause-demands : goal.demand_apart-requires-clause-demands
demand_apart-requires-clause-demands c = AreOf-more _ _ c.args.demands.now c.in_ok-end.ensures.extends.grows c.requires.demands

pub demand_apart-requires-2-clause-truth : goal.demand_apart-requires-2-clause-truth
demand_apart-requires-2-clause-truth c = truth_more _ _ _ (truth_more _ _ _ c.requires.truth c.in_ok-end.ensures.extends) c.in_ok-demand_apart.ensures.extends

pub demand_apart-requires-2-clause-a : goal.demand_apart-requires-2-clause-a
demand_apart-requires-2-clause-a c = IsOf-more _ _ _ c.in_ok-demand_apart.ensures.extends.grows c.in_ok-end.ensures.inside

pub demand_apart-requires-2-clause-b : goal.demand_apart-requires-2-clause-b
demand_apart-requires-2-clause-b c = subst (IsOf _) (sym c.place-2.ensures) (nth_of _ c.args.depth.now _ (truth_more _ _ _ (truth_more _ _ _ c.requires.truth c.in_ok-end.ensures.extends) c.in_ok-demand_apart.ensures.extends) (AreOf-more _ _ c.args.depth.now c.in_ok-demand_apart.ensures.extends.grows (AreOf-more _ _ c.args.depth.now c.in_ok-end.ensures.extends.grows c.requires.depth)))

pub returns : goal.returns
returns c = on_ok c.demand_apart-2.result _ _ (λ q. room_made _ _ _ _ _ _ _ c.args.depth.now c.args.most _ c.args.push _ _ _ c.place.ensures c.place-2.ensures c.in_ok-end.ensures c.in_ok-demand_apart.ensures q) c.demand_apart-2.ensures
