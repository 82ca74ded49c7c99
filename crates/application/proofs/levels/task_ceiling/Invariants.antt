use Rattle.std.proofs.Common.{◌≡◌, take, filter}
use Rattle.application.specs.Levels.{greatest, levels_of, task_declares}
use Rattle.application.proofs.levels.task_ceiling.Given as goal

-- the greatest level so far
abbrev pub invariant-loop-task : goal.invariant-loop-task
invariant-loop-task l = l.highest ≡ greatest (levels_of (filter (task_declares l.resource) (take l.task-index l.tasks)))
