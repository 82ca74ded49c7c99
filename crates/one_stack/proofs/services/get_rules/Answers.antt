use Rattle.std.proofs.Common.{◌∙◌}
use Rattle.one_stack.proofs.Serving.{same_change}
use Rattle.one_stack.proofs.services.get_rules.Goals as goal

pub returns : goal.returns
returns c = c.in_ok-list.ensures ∙ same_change c.args.layout.now _ _ _ _ c.got.ensures
