use Rattle.std.proofs.Common.{◌≡◌, take, map}
use Rattle.application.specs.Levels.{run_level_among}
use Rattle.app_model.proofs.objects.run_levels.Given as goal

-- those of the tasks so far
abbrev pub invariant-loop-task : goal.invariant-loop-task
invariant-loop-task l = l.levels ≡ map (run_level_among l.tasks) (take l.task-index l.tasks)
