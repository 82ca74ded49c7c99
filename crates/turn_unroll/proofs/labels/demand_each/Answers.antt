use Rattle.std.proofs.Common.{arith, refl, subst, sym, ap, not, ◌||◌, ◌-◌, length}
use Rattle.clause_form.specs.Literals.{IsOf}
use Rattle.clause_form.proofs.Rising.{AreOf-more, IsOf-more}
use Rattle.turn_law.specs.Symbol.{row_true}
use Rattle.turn_unroll.specs.Demands.{each_from, each_implied, implied}
use Rattle.turn_unroll.proofs.Demanding.{demands_none, demands_then, demands_as, each_count, implied_at}
use Rattle.turn_unroll.proofs.Making.{nth_of, truth_more}
use Rattle.turn_unroll.proofs.labels.demand_each.Goals as goal

pub loop-i-init : goal.loop-i-init
loop-i-init c = demands_none _ _ _ c.requires.demands (λ v. refl)

pub demand_implied-requires-clause-truth : goal.demand_implied-requires-clause-truth
demand_implied-requires-clause-truth c = truth_more _ _ _ c.requires.truth c.loop-i.invariant.extends

pub demand_implied-requires-clause-a : goal.demand_implied-requires-clause-a
demand_implied-requires-clause-a c = subst (IsOf c.loop-i.circuit.variables) (sym c.place.ensures) (nth_of _ c.args.labels.now c.loop-i.i (truth_more _ _ _ c.requires.truth c.loop-i.invariant.extends) (AreOf-more _ _ c.args.labels.now c.loop-i.invariant.extends.grows c.requires.labels))

pub demand_implied-requires-clause-b : goal.demand_implied-requires-clause-b
demand_implied-requires-clause-b c = subst (IsOf c.loop-i.circuit.variables) (sym c.place_in.ensures) (nth_of _ c.args.offered.now c.loop-i.i (truth_more _ _ _ c.requires.truth c.loop-i.invariant.extends) (AreOf-more _ _ c.args.offered.now c.loop-i.invariant.extends.grows c.requires.offered))

pub loop-i-preserved : goal.loop-i-preserved
loop-i-preserved c = demands_then _ _ _ _ _ _ _ _ _ c.loop-i.invariant c.in_ok-demand_implied.ensures (λ v m. implied_at v c.args.labels.now c.args.offered.now c.loop-i.i _ _ (omega arith) c.place.ensures c.place_in.ensures)

pub returns : goal.returns
returns c = demands_as _ _ _ _ _ _ c.loop-i.invariant (λ v m. each_count (λ i. not (row_true v c.args.labels.now i) || row_true v c.args.offered.now i) 1 (c.loop-i.i - 1) (length c.args.offered.now - 1) (omega arith))
