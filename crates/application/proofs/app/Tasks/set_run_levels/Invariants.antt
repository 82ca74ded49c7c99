use Rattle.std.proofs.Common.{◌≡◌, take}
use Rattle.application.specs.RunLevels.{with_run_levels}
use Rattle.application.proofs.app.Tasks.set_run_levels.Given as goal

-- the tasks so far have their run levels
abbrev pub invariant-loop-i : goal.invariant-loop-i
invariant-loop-i l = l.self-inside.items.items ≡ with_run_levels (take l.i l.levels) l.initial.self-inside.items.items
