-- Applications in order: within the limits, with names that differ, and with the levels, ceilings and class that belong to them.
use Rattle.std.specs.Prelude.{ℕ, ◌≡◌, ◌+◌, ◌≤◌, List, [], ◌∷◌, ◌++◌, length, map, All, Contains, IfSome}
use Rattle.application.specs.declared.app.App.{App}
use Rattle.application.specs.declared.app.Task.{Task}
use Rattle.application.specs.declared.app.Routine.{Routine}
use Rattle.application.specs.declared.app.Resource.{Resource}
use Rattle.application.specs.Levels.{task_level, routine_level, run_level_of, ceiling_of, class_of}

-- a resource of the application has this number; the scheduler, as a resource, has the number after the last
abbrev pub IsResource : App → ℕ → Type 0
IsResource app r = r ≤ length app.resources

-- a task is within the limits, and its levels belong to it
pub record IsTaskInOrder (app : App) (t : Task) : Type 0 where
  pub priority : t.priority ≤ 63
  pub level : t.level ≡ task_level t.priority
  pub run_level : t.run_level ≡ run_level_of app t
  pub requested : 1 ≤ t.requests
  pub few_requests : t.requests ≤ 8
  pub declares : All (IsResource app) t.declares
  pub internal : IfSome t.internal (IsResource app)

-- the same of a routine
pub record IsRoutineInOrder (app : App) (r : Routine) : Type 0 where
  pub priority_from : 1 ≤ r.priority
  pub priority : r.priority ≤ 16
  pub level : r.level ≡ routine_level r.priority
  pub declares : All (IsResource app) r.declares

-- the ceilings of resources, the first of which has this number
abbrev pub AreCeilings : App → ℕ → List Resource → Type 0
AreCeilings app n [] = Unit {0}
AreCeilings app n (r ∷ rs) = (r.ceiling ≡ ceiling_of app n) × AreCeilings app (n + 1) rs

-- no name stands twice
abbrev pub AreDistinct : List (List ℕ) → Type 0
AreDistinct [] = Unit {0}
AreDistinct (n ∷ ns) = (Contains ns n → ⊥) × AreDistinct ns

-- the names of tasks, routines and resources
abbrev pub names_of : App → List (List ℕ)
names_of app = map (λ t. t.name) app.tasks ++ map (λ r. r.name) app.routines ++ map (λ r. r.name) app.resources

-- an application in order
pub record IsInOrder (app : App) : Type 0 where
  pub few_entities : length app.tasks + length app.routines ≤ 16
  pub few_resources : length app.resources ≤ 16
  pub tasks : All (IsTaskInOrder app) app.tasks
  pub routines : All (IsRoutineInOrder app) app.routines
  pub ceilings : AreCeilings app 0 app.resources
  pub class : app.class ≡ class_of app.tasks
  pub names : AreDistinct (names_of app)
