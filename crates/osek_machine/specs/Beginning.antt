-- The start of a machine, task by task.
use Rattle.std.specs.Prelude.{◌≡◌, ℕ, ◌≤◌, Bool, false, take, Option, Some, None, slice_get, slice_index}
use Rattle.application.specs.declared.app.App.{App}
use Rattle.application.specs.declared.app.Task.{Task}
use Rattle.osek_machine.specs.Kept.{Kept, state_of}
use Rattle.step_ir.specs.declared.code.Code.{Code}
use Rattle.step_ir.specs.Points.{start_bits}
use Rattle.step_ir.specs.PointStep.{behaviour_of}
use Rattle.step_ir.specs.SchedulerState.{nothing_yet}
use Rattle.step_ir.specs.SchedulerStep.{queue_all}
use Rattle.step_ir.specs.Setting.{setting_of, started_from}

-- a task is started at the start
abbrev pub autostart_of : Option Task → Bool
autostart_of None = false
autostart_of (Some t) = t.autostart

-- so is the task with this number
abbrev pub starts_at : App → ℕ → Bool
starts_at app t = autostart_of (slice_get app.tasks t)

-- the requests of the first t tasks are queued, and nothing runs
pub record IsStarting (app : App) (code : Code) (t : ℕ) (m : Kept) : Type 0 where
  pub state : state_of m ≡ queue_all (setting_of app) (started_from 0 (take t app.tasks)) (nothing_yet (behaviour_of code) (start_bits code))
  pub over : m.app ≡ app
  pub runs : m.code ≡ code
  pub idle : m.running ≡ None
  pub later : (q : ℕ) → t ≤ q → slice_index m.requests q ≡ 0
