use Rattle.std.proofs.Common.{ap, ◌∙◌, map}
use Rattle.application.specs.Levels.{run_level_among}
use Rattle.application.specs.RunLevels.{with_run_levels}
use Rattle.app_model.proofs.Steps.{with_all_run_levels}
use Rattle.app_model.proofs.objects.set_run_levels.Goals as goal

pub returns : goal.returns
returns c =
    let ts = c.args.tasks.now in
    c.set_run_levels.ensures
    ∙ (ap (λ ls. with_run_levels ls ts) (c.items-2.ensures ∙ (c.in_ok-levels.ensures ∙ ap (λ us. map (run_level_among us) us) c.items.ensures))
    ∙ with_all_run_levels (run_level_among ts) ts)
