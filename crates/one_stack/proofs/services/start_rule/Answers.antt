use Rattle.std.proofs.Common.{◌∙◌, ap}
use Rattle.guard_prog.specs.declared.draft.Control.TheVariants.{PopPush}
use Rattle.one_stack.specs.Rules as defs
use Rattle.one_stack.specs.Tables.{plan_in, seen}
use Rattle.one_stack.proofs.Serving.{same_rule}
use Rattle.one_stack.proofs.services.start_rule.Goals as goal

pub returns : goal.returns
returns c = same_rule _ _ _ _ _ _ c.in_ok-guard.ensures (c.in_ok-sets.ensures ∙ ap (defs.change_sets (seen c.args.layout.now) (plan_in c.args.layout.now)) c.end.ensures) (ap PopPush c.number.ensures)
