-- An application as a scheduler sees it: tasks and routines by their numbers, with their levels (OSEK OS 2.2.3, 4.5, 8.5).
use Rattle.std.specs.Prelude.{◌≡◌, ℕ, ◌+◌, ◌-◌, ◌<◌, ◌≤◌, max, Bool, true, false, not, ◌&&◌, List, [], ◌∷◌, length, Option, Some, None, if◌then◌else◌, nat_lt, slice_get, ◌==◌}
use Rattle.application.specs.declared.app.App.{App}
use Rattle.application.specs.declared.app.Resource.{Resource}
use Rattle.application.specs.declared.app.Routine.{Routine}
use Rattle.application.specs.declared.app.Task.{Task}
use Rattle.application.specs.Levels.{highest_task_level}

-- what a scheduler has to know of an application. A number that is no task may have no request, and one that is no resource has the ceiling 0
pub record Setting : Type 0 where
  pub is_task : ℕ → Bool
  pub is_routine : ℕ → Bool
  pub level : ℕ → ℕ
  -- that of a routine is its level
  pub run_level : ℕ → ℕ
  pub is_preemptive : ℕ → Bool
  -- how many requests a task may have at once
  pub limit : ℕ → ℕ
  pub ceiling : ℕ → ℕ
  -- the numbers of tasks and routines are below it
  pub entities : ℕ
  -- no level is above it
  pub top : ℕ
  -- the tasks that are started at the start, in order
  pub autostart : List ℕ

-- what is said of a task with this number, or else of a routine
abbrev pub by_kind : {A : Type 0} → (Task → A) → (Routine → A) → A → Option Task → Option Routine → A
by_kind f g d (Some t) r = f t
by_kind f g d None (Some r) = g r
by_kind f g d None None = d

-- tasks are numbered first, and routines after them
abbrev pub of_entity : {A : Type 0} → App → (Task → A) → (Routine → A) → A → ℕ → A
of_entity app f g d e = by_kind f g d (slice_get app.tasks e) (slice_get app.routines (e - length app.tasks))

-- the ceiling that a resource has
abbrev pub resource_ceiling : Option Resource → ℕ
resource_ceiling None = 0
resource_ceiling (Some r) = r.ceiling

-- the numbers of the tasks that are started at the start; the first of these tasks has this number
abbrev pub started_from : ℕ → List Task → List ℕ
started_from n [] = []
started_from n (t ∷ ts) = if t.autostart then n ∷ started_from (n + 1) ts else started_from (n + 1) ts

-- no level of an application in order is above it; it unfolds only where a proof says so
unfoldable pub highest_level : ℕ
highest_level = 80

-- an application as a scheduler sees it; the scheduler, as a resource, has the highest level of a task as its ceiling
abbrev pub setting_of : App → Setting
setting_of app =
    record {
      is_task = of_entity app (λ t. true) (λ r. false) false;
      is_routine = of_entity app (λ t. false) (λ r. true) false;
      level = of_entity app (λ t. t.level) (λ r. r.level) 0;
      run_level = of_entity app (λ t. t.run_level) (λ r. r.level) 0;
      is_preemptive = of_entity app (λ t. not t.non_preemptive) (λ r. false) false;
      limit = of_entity app (λ t. t.requests) (λ r. 0) 0;
      ceiling =
          λ r. if r == length app.resources then highest_task_level app else resource_ceiling (slice_get app.resources r);
      entities = length app.tasks + length app.routines;
      top = highest_level;
      autostart = started_from 0 app.tasks;
    }

-- the current level of an entity: the greatest of its run level and the ceilings of the resources that it holds
abbrev pub current : Setting → ℕ → List ℕ → ℕ
current app e [] = app.run_level e
current app e (r ∷ rs) = max (app.ceiling r) (current app e rs)

-- a preemptive task, after whose own steps another may run
abbrev pub gives_way : Setting → ℕ → Bool
gives_way app e = app.is_task e && app.is_preemptive e

-- the first of two, unless the other has a greater level
abbrev pub earlier : Setting → ℕ → Option ℕ → Option ℕ
earlier app e None = Some e
earlier app e (Some f) = if nat_lt (app.level e) (app.level f) then Some f else Some e

-- the first of those with the greatest level
abbrev pub foremost : Setting → List ℕ → Option ℕ
foremost app [] = None
foremost app (e ∷ es) = earlier app e (foremost app es)

-- each is a task
abbrev pub AreTasks : Setting → List ℕ → Type 0
AreTasks app [] = Unit {0}
AreTasks app (t ∷ ts) = (app.is_task t ≡ true) × AreTasks app ts

-- each is a routine
abbrev pub AreRoutines : Setting → List ℕ → Type 0
AreRoutines app [] = Unit {0}
AreRoutines app (r ∷ rs) = (app.is_routine r ≡ true) × AreRoutines app rs

-- what the levels meet where both schedulers do the same
pub record IsSound (app : Setting) : Type 0 where
  -- the idle level, 0, is below that of each task
  pub above_idle : (e : ℕ) → app.is_task e ≡ true → 0 < app.level e
  pub runs_above : (e : ℕ) → app.level e ≤ app.run_level e
  pub run_levels : (e : ℕ) → app.run_level e ≤ app.top
  pub ceilings : (r : ℕ) → app.ceiling r ≤ app.top
  -- what is no task is not requested
  pub tasks_alone : (e : ℕ) → app.is_task e ≡ false → app.limit e ≡ 0
  pub routines : (e : ℕ) → app.is_routine e ≡ true → app.is_task e ≡ false
  pub counted_tasks : (e : ℕ) → app.is_task e ≡ true → e < app.entities
  pub counted_routines : (e : ℕ) → app.is_routine e ≡ true → e < app.entities
  pub started : AreTasks app app.autostart
