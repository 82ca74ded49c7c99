-- At which input an application stands.
use Rattle.std.specs.Prelude.{ℕ, Option, Some, None, if◌then◌else◌, slice_get}
use Rattle.application.specs.declared.app.App.{App}
use Rattle.osek_machine.specs.Within.{input_cell}
use Rattle.step_ir.specs.declared.code.Code.{Code}
use Rattle.step_ir.specs.Points.{PlainPoint, points_in}
use Rattle.step_ir.specs.PointStep.{Bits}
use Rattle.step_ir.specs.SchedulerState.{State, actor}
use Rattle.step_ir.specs.Setting.{setting_of}

-- the cell that takes the word of a point, if it is an input
abbrev pub input_in : Option PlainPoint → Option ℕ
input_in None = None
input_in (Some p) = input_cell p.action

-- the cell of the input at which this actor stands, if it stands at one
abbrev pub input_by : Code → State ℕ Bits → Option ℕ → Option ℕ
input_by code st None = None
input_by code st (Some e) = input_in (slice_get (points_in code e) (st.state e))

-- the cell of the input at which the actor stands, if it stands at one; after a failure nobody does
abbrev pub input_at : App → Code → State ℕ Bits → Option ℕ
input_at app code st = if st.is_stopped then None else input_by code st (actor (setting_of app) st)
