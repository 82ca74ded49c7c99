use Rattle.std.proofs.Common.{◌≡◌, length}
use Rattle.application.specs.Levels.{shares_priority}
use Rattle.application.proofs.levels.shares_priority.Given as goal

-- the tasks that were passed over share none, so the rest decides
abbrev pub invariant-loop-task : goal.invariant-loop-task
invariant-loop-task l = shares_priority l.rest ≡ shares_priority l.tasks

abbrev pub decreases-loop-task : goal.decreases-loop-task
decreases-loop-task l = length l.rest
