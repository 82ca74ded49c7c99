-- Replays: the scheduler's events for a list of choices, and the first choice that isn't permitted.
use Rattle.std.specs.Prelude.{◌≡◌, ℕ, ◌+◌, List, [], ◌∷◌, ◌++◌, length, Option, Some, None}
use Rattle.application.specs.declared.app.App.{App}
use Rattle.osek_machine.specs.declared.machine.Outcome.{Outcome}
use Rattle.osek_machine.specs.declared.machine.Outcome.TheVariants as answer
use Rattle.osek_machine.specs.declared.machine.StateView.{StateView}
use Rattle.osek_machine.specs.Steps.{entity_or_none, start_of, step_of}
use Rattle.replay.specs.declared.run.ReplayFault.{ReplayFault}
use Rattle.replay.specs.declared.run.ReplayFault.TheVariants as fault
use Rattle.step_ir.specs.declared.code.Code.{Code}
use Rattle.step_ir.specs.declared.event.Choice.{Choice}
use Rattle.step_ir.specs.declared.event.Event.{Event}
use Rattle.step_ir.specs.declared.event.EventAction.{EventAction}
use Rattle.step_ir.specs.declared.event.EventAction.TheVariants.{Fail}
use Rattle.step_ir.specs.declared.event.Failure.{Failure}
use Rattle.step_ir.specs.PermittedSchedule.{events_of, run}
use Rattle.step_ir.specs.PointStep.{behaviour_of, Bits}
use Rattle.step_ir.specs.SchedulerState.{State, actor, level_at}
use Rattle.step_ir.specs.Setting.{setting_of}

-- the events of these choices from the start and the state after them, or nothing where one isn't permitted
abbrev pub run_for : App → Code → List Choice → Option (List Event × State ℕ Bits)
run_for app code choices = run (setting_of app) (behaviour_of code) choices (start_of app code)

-- the events alone
abbrev pub events_for : App → Code → List Choice → Option (List Event)
events_for app code choices = events_of (run_for app code choices)

-- the event of a step that a machine made, if it made one
abbrev pub told : Outcome → Option Event
told (answer.Event event) = Some event
told (answer.Failed event) = Some event
told answer.Refused = None

-- the failure that an action is
abbrev pub failure_of : EventAction → Option Failure
failure_of (Fail failure service) = Some failure
failure_of _ = None

-- the failure that the last event is, if it is one
abbrev pub last_failure : List Event → Option Failure
last_failure [] = None
last_failure (e ∷ []) = failure_of e.action
last_failure (e ∷ f ∷ es) = last_failure (f ∷ es)

-- what is shown of a state: the actor, the current level, whether a failure has stopped all, and the number of arrivals
abbrev pub shown : App → State ℕ Bits → StateView
shown app st =
    record {
      running = entity_or_none (actor (setting_of app) st);
      level = level_at (setting_of app) st (actor (setting_of app) st);
      stopped = st.is_stopped;
      arrivals = st.arrivals;
    }

-- the choices before this one, counted from 1, are permitted and have these events; this one isn't permitted in the state after them, of which this is shown
pub record IsRefused (app : App) (code : Code) (choices : List Choice) (step : ℕ) (state : StateView) (events : List Event) : Type 0 where
  pub before : List Choice
  pub choice : Choice
  pub after : List Choice
  pub parts : choices ≡ before ++ choice ∷ after
  pub counted : step ≡ length before + 1
  pub reached : State ℕ Bits
  pub run : run_for app code before ≡ Some (events, reached)
  pub refused : step_of app code reached choice ≡ None
  pub kept : state ≡ shown app reached

-- why choices aren't replayed; want of memory has no cause
abbrev pub IsCause : App → Code → List Choice → ReplayFault → Type 0
IsCause app code choices (fault.NotPermitted step state events) = IsRefused app code choices step state events
IsCause app code choices fault.Memory = Unit {0}
