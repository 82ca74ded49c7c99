use Rattle.std.proofs.Common.{arith, refl, subst, sym, ap, not, ◌||◌, ◌-◌}
use Rattle.clause_form.specs.ClauseTruth.{is_lit_true}
use Rattle.clause_form.specs.Literals.{IsOf}
use Rattle.clause_form.proofs.Rising.{AreOf-more, IsOf-more}
use Rattle.turn_law.specs.Symbol.{row_true}
use Rattle.turn_unroll.specs.Demands.{all_imply}
use Rattle.turn_unroll.proofs.Demanding.{demands_none, demands_then, demands_as, each_count, each_empty, imply_at}
use Rattle.turn_unroll.proofs.Making.{nth_of, truth_more}
use Rattle.turn_unroll.proofs.words.demand_bits.Goals as goal

pub loop-i-init : goal.loop-i-init
loop-i-init c = demands_none _ _ _ c.requires.demands (λ v. each_empty (λ i. not (row_true v c.args.word.now i) || is_lit_true v c.args.wide) c.args.from c.args.from (omega arith))

pub demand_implied-requires-clause-truth : goal.demand_implied-requires-clause-truth
demand_implied-requires-clause-truth c = truth_more _ _ _ c.requires.truth c.loop-i.invariant.extends

pub demand_implied-requires-clause-a : goal.demand_implied-requires-clause-a
demand_implied-requires-clause-a c = subst (IsOf c.loop-i.circuit.variables) (sym c.place.ensures) (nth_of _ c.args.word.now c.loop-i.i (truth_more _ _ _ c.requires.truth c.loop-i.invariant.extends) (AreOf-more _ _ c.args.word.now c.loop-i.invariant.extends.grows c.requires.word))

pub demand_implied-requires-clause-b : goal.demand_implied-requires-clause-b
demand_implied-requires-clause-b c = IsOf-more _ _ c.args.wide c.loop-i.invariant.extends.grows c.requires.wide

pub loop-i-preserved : goal.loop-i-preserved
loop-i-preserved c = demands_then _ _ _ _ _ _ _ _ _ c.loop-i.invariant c.in_ok-demand_implied.ensures (λ v m. imply_at v c.args.word.now c.args.from c.loop-i.i _ c.args.wide (omega arith) c.place.ensures)

pub returns : goal.returns
returns c = demands_as _ _ _ _ _ _ c.loop-i.invariant (λ v m. each_count (λ i. not (row_true v c.args.word.now i) || is_lit_true v c.args.wide) c.args.from (c.loop-i.i - c.args.from) (c.args.to - c.args.from) (omega arith))
