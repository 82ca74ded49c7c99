use Rattle.std.proofs.Common.{◌≡◌, take}
use Rattle.application.specs.Levels.{greatest, levels_of}
use Rattle.application.proofs.levels.highest_level.Given as goal

-- the greatest level so far
abbrev pub invariant-loop-task : goal.invariant-loop-task
invariant-loop-task l = l.highest ≡ greatest (levels_of (take l.task-index l.tasks))
