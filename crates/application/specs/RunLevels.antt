-- Tasks with other run levels.
use Rattle.std.specs.Prelude.{ℕ, List, [], ◌∷◌}
use Rattle.application.specs.declared.app.Task.{Task}

-- the tasks with these run levels, as far as there are any
abbrev pub with_run_levels : List ℕ → List Task → List Task
with_run_levels (level ∷ levels) (t ∷ ts) = record t { run_level = level } ∷ with_run_levels levels ts
with_run_levels [] ts = ts
with_run_levels (level ∷ levels) [] = []
