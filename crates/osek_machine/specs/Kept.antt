-- What a machine keeps, as plain data, and the scheduler's state that it stands for.
use Rattle.std.specs.Prelude.{◌≡◌, ℕ, ◌+◌, ◌<◌, ◌≤◌, Bool, true, List, [], ◌∷◌, length, Option, Some, None, slice_index, ◌==◌, if◌then◌else◌}
use Rattle.application.specs.declared.app.App.{App}
use Rattle.application.specs.InOrder.{IsInOrder}
use Rattle.chk_base.specs.Widths.{PlainWord}
use Rattle.osek_machine.specs.CellWords.{widths, bits}
use Rattle.osek_machine.specs.declared.held.Holding.{Holding}
use Rattle.osek_machine.specs.declared.ready.Waiting.{Waiting}
use Rattle.osek_machine.specs.Held.{held_by, IsHeld}
use Rattle.osek_machine.specs.Ready.{entries_at, AreBelow, tasks_of}
use Rattle.step_ir.specs.declared.code.Code.{Code}
use Rattle.step_ir.specs.declared.event.Section.{Section}
use Rattle.step_ir.specs.Fits.{Fits}
use Rattle.step_ir.specs.Numbers.{times}
use Rattle.step_ir.specs.Points.{start_words}
use Rattle.step_ir.specs.PointStep.{Bits}
use Rattle.step_ir.specs.SchedulerState.{State}
use Rattle.step_ir.specs.Setting.{IsSound, current, setting_of}

-- what a machine keeps: the application and its code, the words of the cells, the point of each entity, who holds which resource, all ready entries in one list, who runs, the active routines, the open sections, the requests of each task, the number of arrivals, and whether a failure has stopped it
pub record Kept : Type 0 where
  pub app : App
  pub code : Code
  pub cells : List PlainWord
  pub points : List ℕ
  pub held : List Holding
  pub ready : List Waiting
  pub running : Option ℕ
  pub active : List ℕ
  pub sections : List Section
  pub requests : List ℕ
  pub arrivals : ℕ
  pub stopped : Bool

-- the scheduler's state that a machine stands for
abbrev pub state_of : Kept → State ℕ Bits
state_of k =
    record {
      globals = bits k.cells;
      state = λ e. slice_index k.points e;
      held = held_by k.held;
      ready = entries_at k.ready;
      running = k.running;
      active = k.active;
      sections = k.sections;
      requests = λ t. slice_index k.requests t;
      arrivals = k.arrivals;
      is_stopped = k.stopped;
    }

-- how many tasks and routines there are
abbrev pub entities_of : App → ℕ
entities_of app = length app.tasks + length app.routines

-- the application is in order, and the code fits it
pub record IsFixed (app : App) (code : Code) : Type 0 where
  pub order : IsInOrder app
  pub fit : Fits app code
  -- the levels are sound, and a current level is at least the run level and at most the top
  pub sound : IsSound (setting_of app)
  pub above : (e : ℕ) (held : List ℕ) → (setting_of app).run_level e ≤ current (setting_of app) e held
  pub below : (e : ℕ) (held : List ℕ) → current (setting_of app) e held ≤ (setting_of app).top

-- the cells are those of the code, by number and widths
pub record IsOver (code : Code) (cells : List PlainWord) : Type 0 where
  pub widths : widths cells ≡ widths (start_words code)
  pub length : length cells ≡ length (start_words code)

-- 1 where this task runs
abbrev pub runs_as : Option ℕ → ℕ → ℕ
runs_as None t = 0
runs_as (Some e) t = if e == t then 1 else 0

-- a task has as many requests as it has ready entries, and one more where it runs
pub record IsQueued (app : App) (ready : List Waiting) (running : Option ℕ) (requests : List ℕ) : Type 0 where
  pub requested : length requests ≡ length app.tasks
  pub in_limit : (t : ℕ) → slice_index requests t ≤ 8
  pub runs : (e : ℕ) → running ≡ Some e → e < length app.tasks
  pub waits : AreBelow (length app.tasks) ready
  pub counts : (t : ℕ) → slice_index requests t ≡ times t (tasks_of ready) + runs_as running t

-- routines, each of a level below this one and above those of the later ones
abbrev pub AreDescending : App → ℕ → List ℕ → Type 0
AreDescending app top [] = Unit {0}
AreDescending app top (r ∷ rs) =
    ((setting_of app).is_routine r ≡ true) × ((setting_of app).level r < top) × AreDescending app ((setting_of app).level r) rs

-- what holds of what a machine keeps
pub record IsKept (k : Kept) : Type 0 where
  pub fixed : IsFixed k.app k.code
  pub over : IsOver k.code k.cells
  pub points : length k.points ≡ entities_of k.app
  pub queued : IsQueued k.app k.ready k.running k.requests
  pub held : IsHeld (entities_of k.app) k.held
  pub active : AreDescending k.app 81 k.active
  pub sections : length k.sections ≤ 8
