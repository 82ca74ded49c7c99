use Rattle.std.proofs.Common.{arith}
use Rattle.clause_form.proofs.Rising.{AreOf-more, IsOf-more}
use Rattle.turn_unroll.specs.Rows.{row_chosen}
use Rattle.turn_unroll.proofs.Making.{gives_none, gives_more, gives_all, truth_more}
use Rattle.turn_unroll.proofs.rows.choose_row.Goals as goal

pub loop-i-init : goal.loop-i-init
loop-i-init c = gives_none _ _ (λ v i. row_chosen v c.args.choice c.args.kept.now c.args.new.now i) c.new-row.ensures

pub choose_place-requires-clause-truth : goal.choose_place-requires-clause-truth
choose_place-requires-clause-truth c = truth_more _ _ _ c.requires.truth c.loop-i.invariant.extends

pub choose_place-requires-clause-choice : goal.choose_place-requires-clause-choice
choose_place-requires-clause-choice c = IsOf-more _ _ c.args.choice c.loop-i.invariant.extends.grows c.requires.choice

pub choose_place-requires-clause-kept : goal.choose_place-requires-clause-kept
choose_place-requires-clause-kept c = AreOf-more _ _ c.args.kept.now c.loop-i.invariant.extends.grows c.requires.kept

pub choose_place-requires-clause-new : goal.choose_place-requires-clause-new
choose_place-requires-clause-new c = AreOf-more _ _ c.args.new.now c.loop-i.invariant.extends.grows c.requires.new

pub loop-i-preserved : goal.loop-i-preserved
loop-i-preserved c = gives_more _ _ _ _ _ c.loop-i.i (λ v i. row_chosen v c.args.choice c.args.kept.now c.args.new.now i) _ c.loop-i.invariant c.in_ok-choose_place.ensures c.in_ok-push.ensures.ok

pub returns : goal.returns
returns c = gives_all _ _ _ _ _ (λ v i. row_chosen v c.args.choice c.args.kept.now c.args.new.now i) (omega arith) c.loop-i.invariant
