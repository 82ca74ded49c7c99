-- A small application and its code, over which schedules are tried.
use Rattle.std.specs.Prelude.{◌≡◌, ℕ, ◌+◌, Bool, true, false, List, [], ◌∷◌, length, None}
use Rattle.application.specs.declared.app.App.{App}
use Rattle.application.specs.declared.app.Routine.{Routine}
use Rattle.application.specs.declared.app.Task.{Task}
use Rattle.chk_base.specs.declared.expr.Expr.TheVariants.{Const, Cell}
use Rattle.chk_base.specs.declared.word.Width.{Width}
use Rattle.chk_base.specs.declared.word.Width.TheVariants.{W1, W8, W16, W32}
use Rattle.osek_machine.specs.Sample.{global, point_to}
use Rattle.step_ir.specs.declared.code.Action.TheVariants.{Read, Write, Input, Assert, Service, End}
use Rattle.step_ir.specs.declared.code.CellName.{CellName}
use Rattle.step_ir.specs.declared.code.EntityCode.{EntityCode}
use Rattle.step_ir.specs.declared.code.Point.{Point}
use Rattle.step_ir.specs.declared.event.Service.TheVariants.{DisableAll, EnableAll}

-- an application of one task and two routines
pub record HasThree (app : App) : Type 0 where
  pub task : length app.tasks ≡ 1
  pub routines : length app.routines ≡ 2

-- the task
abbrev pub task_of_sample : Task
task_of_sample =
    record { name = 84 ∷ []; priority = 1; level = 2; run_level = 2; non_preemptive = false; requests = 1; autostart = true; declares = []; internal = None }

-- a routine of this name and priority
abbrev pub routine_of_sample : List ℕ → ℕ → Routine
routine_of_sample name priority = record { name = name; priority = priority; level = 64 + priority; declares = [] }

-- a cell without a name
abbrev pub cell : Width → Bool → ℕ → CellName
cell width signed start = record { text = []; element = None; width = width; signed = signed; start = start }

-- a task opens and closes a section, takes an input of each type, and fails
abbrev pub points_of_task : List Point
points_of_task =
    point_to (Service DisableAll) 1
    ∷ point_to (Service EnableAll) 2
    ∷ point_to (Input 1) 3
    ∷ point_to (Input 2) 4
    ∷ point_to (Input 3) 5
    ∷ point_to (Input 4) 6
    ∷ point_to (Input 5) 7
    ∷ point_to (Input 6) 8
    ∷ point_to (Input 7) 9
    ∷ point_to (Assert (Const 0)) 9
    ∷ []

-- the cells of its inputs
abbrev pub cells_of_task : List CellName
cells_of_task =
    cell W1 false 0
    ∷ cell W8 false 0
    ∷ cell W8 true 0
    ∷ cell W16 false 0
    ∷ cell W16 true 0
    ∷ cell W32 false 0
    ∷ cell W32 true 0
    ∷ []

-- a routine clears the global and sets it again
abbrev pub points_of_clearing : List Point
points_of_clearing = point_to (Write global (Const 0)) 1 ∷ point_to (Write global (Const 1)) 2 ∷ point_to End 2 ∷ []

-- a routine asserts that the global isn't 0
abbrev pub points_of_asserting : List Point
points_of_asserting = point_to (Read global 8) 1 ∷ point_to (Assert (Cell 8 false)) 2 ∷ point_to End 2 ∷ []

-- the codes of the three
abbrev pub entity_codes : List EntityCode
entity_codes =
    record { points = points_of_task; names = cells_of_task }
    ∷ record { points = points_of_clearing; names = [] }
    ∷ record { points = points_of_asserting; names = cell W32 false 0 ∷ [] }
    ∷ []
