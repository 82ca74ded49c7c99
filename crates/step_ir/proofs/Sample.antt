-- How the examples are written: small applications, bodies as lists of actions, and the events of both schedulers.
use Rattle.std.specs.Prelude.{ℕ, ◌+◌, Bool, true, false, if◌then◌else◌, ◌==◌, List, [], ◌∷◌, Option, Some, None, slice_get, replicate}
use Rattle.application.specs.declared.app.App.{App}
use Rattle.application.specs.declared.app.Class.TheVariants.{Bcc2}
use Rattle.application.specs.declared.app.Entity.{Entity}
use Rattle.application.specs.declared.app.Resource.{Resource}
use Rattle.application.specs.declared.app.Routine.{Routine}
use Rattle.application.specs.declared.app.Task.{Task}
use Rattle.chk_base.specs.declared.expr.BinOp.TheVariants as bin
use Rattle.chk_base.specs.declared.place.Place.{Place}
use Rattle.chk_base.specs.declared.word.Width.TheVariants.{W8, W32}
use Rattle.chk_base.specs.Term.{Term, Const, Cell, Bin}
use Rattle.chk_base.specs.Widths.{PlainWord}
use Rattle.step_ir.specs.declared.event.Choice.{Choice}
use Rattle.step_ir.specs.declared.event.Choice.TheVariants.{Go}
use Rattle.step_ir.specs.declared.event.Event.{Event}
use Rattle.step_ir.specs.declared.event.EventAction.{EventAction}
use Rattle.step_ir.specs.declared.event.Next.{Next}
use Rattle.step_ir.specs.declared.event.Next.TheVariants.{Runs}
use Rattle.step_ir.specs.OneStackMachine
use Rattle.step_ir.specs.PermittedSchedule
use Rattle.step_ir.specs.Points.{PlainTarget, PlainAction, Read, Write, PlainPoint}
use Rattle.step_ir.specs.PointStep.{Bits, Program, of_points}
use Rattle.step_ir.specs.SchedulerStep
use Rattle.step_ir.specs.Setting.{setting_of}

abbrev pub entity : ℕ → Entity
entity n = record { 0 = n }

-- a task of this priority, run level and number of requests
abbrev pub task : ℕ → ℕ → Bool → ℕ → Bool → Task
task priority run_level non_preemptive requests autostart =
    record { name = []; priority = priority; level = priority + 1; run_level = run_level; non_preemptive = non_preemptive; requests = requests; autostart = autostart; declares = []; internal = None }

-- a preemptive task without an internal resource
abbrev pub full : ℕ → ℕ → Bool → Task
full priority requests autostart = task priority (priority + 1) false requests autostart

abbrev pub routine : ℕ → Routine
routine priority = record { name = []; priority = priority; level = 64 + priority; declares = [] }

abbrev pub resource : ℕ → Resource
resource ceiling = record { name = []; internal = false; ceiling = ceiling }

abbrev pub application : List Task → List Routine → List Resource → App
application tasks routines resources =
    record { tasks = tasks; routines = routines; resources = resources; res_scheduler = true; class = Bcc2; mode = []; notes = [] }

abbrev pub somewhere : Place
somewhere = record { line = 1; column = 1; offset = 0 }

abbrev pub point : PlainAction → List (Term × ℕ) → PlainPoint
point action nexts = record { place = somewhere; action = action; traps = []; nexts = nexts }

-- points with these actions, each of which goes on at the one after it; the first has this number
abbrev pub points_from : ℕ → List PlainAction → List PlainPoint
points_from n [] = []
points_from n (a ∷ rest) = point a ((Const 1, n + 1) ∷ []) ∷ points_from (n + 1) rest

-- the one global is cell 0, of 8 bits; an entity reads it into the cell after its number
abbrev pub variable : PlainTarget
variable = record { base = 0; len = 1; index = None }

abbrev pub load : ℕ → PlainAction
load e = Read variable (e + 1)

abbrev pub store : Term → PlainAction
store term = Write variable term

-- the value that an entity has read
abbrev pub got : ℕ → Term
got e = Cell (e + 1) false

abbrev pub equals : Term → ℕ → Term
equals a n = Bin bin.Eq a (Const n)

abbrev pub body_of : Option (List PlainPoint) → List PlainPoint
body_of None = []
body_of (Some body) = body

abbrev pub program : List (List PlainPoint) → Program
program bodies =
    record {
      width = λ cell. if cell == 0 then W8 else W32;
      point = λ e at. slice_get (body_of (slice_get bodies e)) at;
    }

abbrev pub cells : ℕ → Bits
cells n = λ cell. if cell == 0 then n else 0

-- the events of the standard's scheduler, where the global starts with this value
abbrev pub scheduled : App → Program → ℕ → List Choice → Option (List Event)
scheduled app code n choices =
    PermittedSchedule.events_from (setting_of app) (of_points code) choices (SchedulerStep.start (setting_of app) (of_points code) (cells n))

-- those of the one-stack machine
abbrev pub stacked : App → Program → ℕ → List Choice → Option (List Event)
stacked app code n choices =
    OneStackMachine.events_from (setting_of app) (of_points code) choices (OneStackMachine.start (setting_of app) (of_points code) (cells n))

abbrev pub goes : ℕ → List Choice
goes n = replicate n Go

abbrev pub byte : ℕ → PlainWord
byte n = record { width = W8; bits = n }

abbrev pub told : ℕ → EventAction → Next → Event
told e action next = record { actor = entity e; action = action; next = next; place = somewhere }

abbrev pub runs : ℕ → Next
runs e = Runs (entity e)
