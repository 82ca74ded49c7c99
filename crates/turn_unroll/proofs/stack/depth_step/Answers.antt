use Rattle.std.proofs.lemmas.Result.{IfOk-weaker}
use Rattle.clause_form.proofs.Rising.{IsOf-more}
use Rattle.turn_unroll.proofs.Making.{step_gives}
use Rattle.turn_unroll.proofs.stack.depth_step.Goals as goal

pub choose-requires-2-clause-c : goal.choose-requires-2-clause-c
choose-requires-2-clause-c c = IsOf-more _ _ c.args.push c.in_ok-kept.ensures.extends.grows c.requires.push

pub choose-requires-2-clause-a : goal.choose-requires-2-clause-a
choose-requires-2-clause-a c = IsOf-more _ _ c.args.less c.in_ok-kept.ensures.extends.grows c.requires.less

pub returns : goal.returns
returns c = IfOk-weaker _ _ _ (λ r m. step_gives _ _ _ c.args.push c.args.pop c.args.less c.args.same c.args.more _ r c.in_ok-kept.ensures m) c.choose-2.ensures
