use Rattle.std.proofs.Common.{◌∙◌, ap, ap₂}
use Rattle.one_stack.specs.Rules as defs
use Rattle.one_stack.specs.Tables.{plan_in, seen}
use Rattle.one_stack.proofs.Serving.{same_change}
use Rattle.one_stack.proofs.services.pushed_rules.Goals as goal

pub returns : goal.returns
returns c = c.in_ok-list.ensures ∙ ap₂ defs.guarded (c.in_ok-given.ensures ∙ ap (defs.none_held (seen c.args.layout.now) (plan_in c.args.layout.now)) c.level.ensures) (c.in_ok-starts.ensures ∙ same_change c.args.layout.now _ _ _ _ c.pushed.ensures)
