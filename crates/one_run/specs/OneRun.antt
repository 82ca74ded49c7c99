-- The one run of a machine where no routine arrives and no input is taken.
use Rattle.std.specs.Prelude.{◌≡◌, ◌≢◌, ℕ, Bool, true, false, not, List, length, Option, Some, None, is_some, replicate, slice_get}
use Rattle.std.specs.List.{list_all}
use Rattle.application.specs.declared.app.App.{App}
use Rattle.replay.specs.Replaying.{events_for, last_failure}
use Rattle.step_ir.specs.declared.code.Code.{Code}
use Rattle.step_ir.specs.declared.code.EntityCode.{EntityCode}
use Rattle.step_ir.specs.declared.code.Point.{Point}
use Rattle.step_ir.specs.declared.event.Choice.{Choice}
use Rattle.step_ir.specs.declared.event.Choice.TheVariants.{Go}
use Rattle.step_ir.specs.declared.event.Event.{Event}
use Rattle.step_ir.specs.declared.event.Failure.{Failure}
use Rattle.step_ir.specs.PermittedSchedule.{IsSchedule, fails}
use Rattle.step_ir.specs.Points.{PlainAction, PlainPoint, Input, plain_of, points_in, start_bits}
use Rattle.step_ir.specs.PointStep.{behaviour_of}
use Rattle.step_ir.specs.Setting.{setting_of}

-- no point of a code takes an input
abbrev pub TakesNoInput : Code → Type 0
TakesNoInput code = (e at cell : ℕ) (p : PlainPoint) → slice_get (points_in code e) at ≡ Some p → p.action ≢ Input cell

-- the action takes an input
abbrev pub is_input : PlainAction → Bool
is_input (Input cell) = true
is_input _ = false

-- the point takes no input
abbrev pub is_inputless : Point → Bool
is_inputless p = not (is_input (plain_of p).action)

-- no point of the entity takes an input
abbrev pub is_inputless_entity : EntityCode → Bool
is_inputless_entity e = list_all is_inputless e.points

-- no point of any entity takes an input
abbrev pub are_inputless : Code → Bool
are_inputless code = list_all is_inputless_entity code.entities

-- so many steps of who runs
abbrev pub steps : ℕ → List Choice
steps n = replicate n Go

-- no permitted schedule without arrivals of at most k events fails
abbrev pub NoneFails : App → Code → ℕ → Type 0
NoneFails app code k =
    (events : List Event) → IsSchedule (setting_of app) (behaviour_of code) (start_bits code) k 0 events → fails events ≡ false

-- these are the events of a permitted schedule without arrivals of at most k events, that of as many steps of who runs, and this is the failure that it ends in; where it ends in none, no such schedule fails
pub record IsRunOf (app : App) (code : Code) (k : ℕ) (events : List Event) (failure : Option Failure) : Type 0 where
  pub schedule : IsSchedule (setting_of app) (behaviour_of code) (start_bits code) k 0 events
  pub replayed : events_for app code (steps (length events)) ≡ Some events
  pub failure_is : failure ≡ last_failure events
  pub fails : fails events ≡ is_some failure
  pub holds : failure ≡ None → NoneFails app code k
