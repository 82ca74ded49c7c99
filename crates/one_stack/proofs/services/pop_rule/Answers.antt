use Rattle.std.proofs.Common.{◌∙◌, ap, refl}
use Rattle.one_stack.specs.Rules as defs
use Rattle.one_stack.specs.Tables.{plan_in, seen}
use Rattle.one_stack.proofs.Serving.{same_rule}
use Rattle.one_stack.proofs.services.pop_rule.Goals as goal

pub returns : goal.returns
returns c = same_rule _ _ _ _ _ _ refl (c.in_ok-sets.ensures ∙ ap (defs.change_sets (seen c.args.layout.now) (plan_in c.args.layout.now)) c.end.ensures) refl
