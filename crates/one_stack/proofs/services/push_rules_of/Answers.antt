use Rattle.std.proofs.Common.{◌∙◌, ap₂}
use Rattle.one_stack.specs.Rules as defs
use Rattle.one_stack.proofs.Serving.{same_change}
use Rattle.one_stack.proofs.services.push_rules_of.Goals as goal

pub returns : goal.returns
returns c = c.in_ok-list.ensures ∙ ap₂ defs.guarded c.in_ok-given.ensures (c.in_ok-starts.ensures ∙ same_change c.args.layout.now _ _ _ _ c.released-change.ensures)
