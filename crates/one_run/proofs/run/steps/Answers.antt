use Rattle.std.proofs.Common.{◌++◌, ◌∷◌, [], List, ap, ◌∙◌}
use Rattle.step_ir.specs.declared.event.Choice.{Choice}
use Rattle.step_ir.specs.declared.event.Choice.TheVariants.{Go}
use Rattle.one_run.proofs.Runs.{steps-append}
use Rattle.one_run.proofs.run.steps.Goals as goal

pub loop-preserved : goal.loop-preserved
loop-preserved c = c.in_ok-push.ensures.ok ∙ (ap (λ (cs : List Choice). cs ++ Go ∷ []) c.loop.invariant ∙ steps-append c.loop.counter)
