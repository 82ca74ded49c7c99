-- A small application and its code, by which the building is tried: a task activates one above it, and both end.
use Rattle.std.specs.Prelude.{ℕ, ◌+◌, Bool, true, false, [], ◌∷◌, None}
use Rattle.application.specs.declared.app.App.{App}
use Rattle.application.specs.declared.app.Class.TheVariants.{Bcc1}
use Rattle.application.specs.declared.app.Task.{Task}
use Rattle.chk_base.specs.declared.expr.Expr.TheVariants.{Const}
use Rattle.chk_base.specs.declared.place.Place.{Place}
use Rattle.step_ir.specs.declared.code.Action.TheVariants.{Service}
use Rattle.step_ir.specs.declared.code.Code.{Code}
use Rattle.step_ir.specs.declared.code.Point.{Point}
use Rattle.step_ir.specs.declared.event.Service.TheVariants as service

-- a preemptive task of one request
abbrev pub task_with : ℕ → ℕ → Bool → Task
task_with letter priority autostart =
    record { name = letter ∷ []; priority = priority; level = priority + 1; run_level = priority + 1; non_preemptive = false; requests = 1; autostart = autostart; declares = []; internal = None }

-- the tasks A, which is started at the start, and B above it
abbrev pub two_tasks : App
two_tasks =
    record { tasks = task_with 65 0 true ∷ task_with 66 1 false ∷ []; routines = []; resources = []; res_scheduler = false; class = Bcc1; mode = []; notes = [] }

-- the place of every point
abbrev pub place : Place
place = record { line = 1; column = 1; offset = 0 }

-- a point that goes on at point 1
abbrev pub activation : Point
activation =
    record { place = place; action = Service (service.Activate (record { 0 = 1 })); traps = []; next = (Const 1, 1) ∷ [] }

-- a point at which the task ends
abbrev pub termination : Point
termination = record { place = place; action = Service service.Terminate; traps = []; next = [] }

-- A activates B and ends, and B ends
abbrev pub activating : Code
activating =
    record {
      entities = record { points = activation ∷ termination ∷ []; names = [] } ∷ record { points = termination ∷ []; names = [] } ∷ [];
      globals = [];
      functions = [];
      cells = 0;
      weight = 0;
    }
