use Rattle.std.proofs.Common.{◌≡◌, take, filter}
use Rattle.application.specs.Levels.{greatest, levels_of, is_number}
use Rattle.application.proofs.levels.internal_ceiling.Given as goal

-- the greatest level so far
abbrev pub invariant-loop-task : goal.invariant-loop-task
invariant-loop-task l = l.highest ≡ greatest (levels_of (filter (λ t. is_number t.internal l.resource) (take l.task-index l.tasks)))
