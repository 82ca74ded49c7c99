-- A small application and its code, by which the machine is tried.
use Rattle.std.specs.Prelude.{◌≡◌, ℕ, false, List, [], ◌∷◌, length, None}
use Rattle.application.specs.declared.app.App.{App}
use Rattle.chk_base.specs.declared.expr.Expr.TheVariants.{Const, Cell}
use Rattle.chk_base.specs.declared.place.Place.{Place}
use Rattle.chk_base.specs.declared.word.Width.{Width}
use Rattle.chk_base.specs.declared.word.Width.TheVariants.{W32}
use Rattle.step_ir.specs.declared.code.Action.{Action}
use Rattle.step_ir.specs.declared.code.Action.TheVariants.{Read, Write, Assert, Service, End}
use Rattle.step_ir.specs.declared.code.CellName.{CellName}
use Rattle.step_ir.specs.declared.code.EntityCode.{EntityCode}
use Rattle.step_ir.specs.declared.code.Point.{Point}
use Rattle.step_ir.specs.declared.code.Target.{Target}
use Rattle.step_ir.specs.declared.event.Service.TheVariants.{Terminate}

-- an application of one task and one routine
pub record HasOneEach (app : App) : Type 0 where
  pub task : length app.tasks ≡ 1
  pub routine : length app.routines ≡ 1

-- the place of every point
abbrev pub place : Place
place = record { line = 1; column = 1; offset = 0 }

-- the one global
abbrev pub global : Target
global = record { base = 0; len = 1; index = None }

-- a cell of this width, which has no name and starts with 0
abbrev pub cell_names : Width → List CellName
cell_names width = record { text = []; element = None; width = width; signed = false; start = 0 } ∷ []

-- a point that goes on at this one
abbrev pub point_to : Action → ℕ → Point
point_to action next = record { place = place; action = action; traps = []; next = (Const 1, next) ∷ [] }

-- a task that writes 1 into the global, reads it, asserts that it isn't 0, and ends itself
abbrev pub points_of_task : List Point
points_of_task =
    point_to (Write global (Const 1)) 1
    ∷ point_to (Read global 1) 2
    ∷ point_to (Assert (Cell 1 false)) 3
    ∷ point_to (Service Terminate) 3
    ∷ []

-- the codes of the task, which has a cell to read into, and of a routine that ends at once
abbrev pub entity_codes : List EntityCode
entity_codes =
    record { points = points_of_task; names = cell_names W32 }
    ∷ record { points = point_to End 0 ∷ []; names = [] }
    ∷ []
