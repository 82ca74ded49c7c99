use Rattle.std.proofs.Common.{arith, refl, subst, sym, ap, ◌-◌}
use Rattle.clause_form.proofs.Rising.{AreOf-more}
use Rattle.turn_unroll.specs.Demands.{all_imply}
use Rattle.turn_unroll.proofs.Demanding.{demands_after, demands_as, on_ok}
use Rattle.turn_unroll.proofs.Making.{truth_more}
use Rattle.bit_circuit.proofs.Growth.{kept}
use Rattle.turn_unroll.proofs.words.demand_width.Goals as goal

pub demand_bits-requires-clause-truth : goal.demand_bits-requires-clause-truth
demand_bits-requires-clause-truth c = truth_more _ _ _ c.requires.truth c.in_ok-wide.ensures.extends

pub demand_bits-requires-clause-word : goal.demand_bits-requires-clause-word
demand_bits-requires-clause-word c = AreOf-more _ _ c.args.word.now c.in_ok-wide.ensures.extends.grows c.requires.word

pub demand_bits-requires-clause-demands : goal.demand_bits-requires-clause-demands
demand_bits-requires-clause-demands c = AreOf-more _ _ c.args.demands.now c.in_ok-wide.ensures.extends.grows c.requires.demands

pub returns : goal.returns
returns c = on_ok c.demand_bits.result _ _ (λ d. demands_as _ _ _ _ _ _ (demands_after _ _ _ _ _ _ c.in_ok-wide.ensures.extends d) (λ v m. ap (λ b. all_imply v c.args.word.now b c.args.from (c.args.to - c.args.from)) (c.in_ok-wide.ensures.equal v (kept d.extends v m)))) c.demand_bits.ensures
