use Rattle.std.proofs.Common.{arith, refl}
use Rattle.clause_form.proofs.Rising.{AreOf-more}
use Rattle.turn_unroll.proofs.Demanding.{demands_then, on_ok}
use Rattle.turn_unroll.proofs.Making.{truth_more}
use Rattle.turn_unroll.proofs.Waying.{taken_more}
use Rattle.turn_unroll.proofs.words.demand_word.Goals as goal

pub demand_width-requires-2-clause-truth : goal.demand_width-requires-2-clause-truth
demand_width-requires-2-clause-truth c = truth_more _ _ _ c.requires.truth c.in_ok-demand_width.ensures.extends

pub demand_width-requires-2-clause-word : goal.demand_width-requires-2-clause-word
demand_width-requires-2-clause-word c = AreOf-more _ _ c.args.word.now c.in_ok-demand_width.ensures.extends.grows c.requires.word

pub demand_width-requires-2-clause-ways : goal.demand_width-requires-2-clause-ways
demand_width-requires-2-clause-ways c = taken_more _ _ c.args.ways.now c.in_ok-demand_width.ensures.extends.grows c.requires.ways

pub demand_width-requires-3-clause-truth : goal.demand_width-requires-3-clause-truth
demand_width-requires-3-clause-truth c = truth_more _ _ _ (truth_more _ _ _ c.requires.truth c.in_ok-demand_width.ensures.extends) c.in_ok-demand_width-2.ensures.extends

pub demand_width-requires-3-clause-word : goal.demand_width-requires-3-clause-word
demand_width-requires-3-clause-word c = AreOf-more _ _ c.args.word.now c.in_ok-demand_width-2.ensures.extends.grows (AreOf-more _ _ c.args.word.now c.in_ok-demand_width.ensures.extends.grows c.requires.word)

pub demand_width-requires-3-clause-ways : goal.demand_width-requires-3-clause-ways
demand_width-requires-3-clause-ways c = taken_more _ _ c.args.ways.now c.in_ok-demand_width-2.ensures.extends.grows (taken_more _ _ c.args.ways.now c.in_ok-demand_width.ensures.extends.grows c.requires.ways)

pub demand_width-requires-4-clause-truth : goal.demand_width-requires-4-clause-truth
demand_width-requires-4-clause-truth c = truth_more _ _ _ (truth_more _ _ _ (truth_more _ _ _ c.requires.truth c.in_ok-demand_width.ensures.extends) c.in_ok-demand_width-2.ensures.extends) c.in_ok-demand_width-3.ensures.extends

pub demand_width-requires-4-clause-word : goal.demand_width-requires-4-clause-word
demand_width-requires-4-clause-word c = AreOf-more _ _ c.args.word.now c.in_ok-demand_width-3.ensures.extends.grows (AreOf-more _ _ c.args.word.now c.in_ok-demand_width-2.ensures.extends.grows (AreOf-more _ _ c.args.word.now c.in_ok-demand_width.ensures.extends.grows c.requires.word))

pub demand_width-requires-4-clause-ways : goal.demand_width-requires-4-clause-ways
demand_width-requires-4-clause-ways c = taken_more _ _ c.args.ways.now c.in_ok-demand_width-3.ensures.extends.grows (taken_more _ _ c.args.ways.now c.in_ok-demand_width-2.ensures.extends.grows (taken_more _ _ c.args.ways.now c.in_ok-demand_width.ensures.extends.grows c.requires.ways))

pub returns : goal.returns
returns c = on_ok c.demand_width-4.result _ _ (λ d. demands_then _ _ _ _ _ _ _ _ _ (demands_then _ _ _ _ _ _ _ _ _ (demands_then _ _ _ _ _ _ _ _ _ c.in_ok-demand_width.ensures c.in_ok-demand_width-2.ensures (λ v m. refl)) c.in_ok-demand_width-3.ensures (λ v m. refl)) d (λ v m. refl)) c.demand_width-4.ensures
