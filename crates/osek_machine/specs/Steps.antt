-- Where a machine stands, what it shows, and what it answers to a choice.
use Rattle.std.specs.Prelude.{◌≡◌, ℕ, Bool, true, false, List, [], ◌∷◌, ◌++◌, Option, Some, None}
use Rattle.application.specs.declared.app.App.{App}
use Rattle.application.specs.declared.app.Entity.{Entity}
use Rattle.osek_machine.specs.declared.machine.Outcome.{Outcome}
use Rattle.osek_machine.specs.declared.machine.Outcome.TheVariants as answer
use Rattle.osek_machine.specs.declared.machine.StateView.{StateView}
use Rattle.osek_machine.specs.Kept.{Kept, state_of}
use Rattle.step_ir.specs.declared.code.Code.{Code}
use Rattle.step_ir.specs.declared.event.Choice.{Choice}
use Rattle.step_ir.specs.declared.event.Event.{Event}
use Rattle.step_ir.specs.EntityStep.{is_failure}
use Rattle.step_ir.specs.PermittedSchedule.{fails, run}
use Rattle.step_ir.specs.Points.{start_bits}
use Rattle.step_ir.specs.PointStep.{behaviour_of, Bits}
use Rattle.step_ir.specs.SchedulerState.{State, actor, level_at}
use Rattle.step_ir.specs.SchedulerStep.{start, step}
use Rattle.step_ir.specs.Setting.{setting_of}

-- the state at the start of an application with this code
abbrev pub start_of : App → Code → State ℕ Bits
start_of app code = start (setting_of app) (behaviour_of code) (start_bits code)

-- the scheduler's step from a state, by the points of the code
abbrev pub step_of : App → Code → State ℕ Bits → Choice → Option (Event × State ℕ Bits)
step_of app code st choice = step (setting_of app) (behaviour_of code) st choice

-- a machine over this application and code stands at this state
pub record StandsAt (app : App) (code : Code) (st : State ℕ Bits) (m : Kept) : Type 0 where
  pub same_app : m.app ≡ app
  pub same_code : m.code ≡ code
  pub state : state_of m ≡ st

-- a machine over this application and code stands where these choices lead from the start, and these were the events
pub record HasRun (app : App) (code : Code) (choices : List Choice) (events : List Event) (m : Kept) : Type 0 where
  pub same_app : m.app ≡ app
  pub same_code : m.code ≡ code
  pub run : run (setting_of app) (behaviour_of code) choices (start_of app code) ≡ Some (events, state_of m)

-- a step was made: its event and the state after it, and whether it is a failure, by which the machine is stopped
pub record IsMade (next : Event × State ℕ Bits) (failed : Bool) (event : Event) (new : State ℕ Bits) : Type 0 where
  pub told : event ≡ next.0
  pub state : new ≡ next.1
  pub failure : is_failure event.action ≡ failed
  pub stopped : new.is_stopped ≡ failed

-- what is answered, and the state afterwards, where this is the scheduler's step: without one the choice is refused, and the state stays
abbrev pub IsOutcome : Option (Event × State ℕ Bits) → State ℕ Bits → Outcome → State ℕ Bits → Type 0
IsOutcome None old answer.Refused new = new ≡ old
IsOutcome (Some next) old (answer.Event event) new = IsMade next false event new
IsOutcome (Some next) old (answer.Failed event) new = IsMade next true event new
IsOutcome _ _ _ _ = ⊥

-- the answer to a choice, and the state after it, are those of the scheduler's step
abbrev pub IsAnswered : Choice → Kept → Outcome → Kept → Type 0
IsAnswered choice old result new =
    IsOutcome (step_of old.app old.code (state_of old) choice) (state_of old) result (state_of new)

-- a refusal changes nothing
abbrev pub Stays : Outcome → Kept → Kept → Type 0
Stays answer.Refused old new = new ≡ old
Stays _ old new = Unit {0}

-- the machine's step is the scheduler's, over the same application and code
pub record IsStep (choice : Choice) (old : Kept) (result : Outcome) (new : Kept) : Type 0 where
  pub unchanged : Stays result old new
  pub outcome : IsAnswered choice old result new
  pub app : new.app ≡ old.app
  pub code : new.code ≡ old.code

-- after these choices and events, this choice was answered so: its event is one more, and the whole fails where it is a failure; or it isn't permitted, and the machine stands where it stood
abbrev pub HasAnswered : App → Code → List Choice → List Event → Choice → Kept → Outcome → Kept → Type 0
HasAnswered app code choices events choice old (answer.Event event) new =
    HasRun app code (choices ++ choice ∷ []) (events ++ event ∷ []) new × (fails (events ++ event ∷ []) ≡ false)
HasAnswered app code choices events choice old (answer.Failed event) new =
    HasRun app code (choices ++ choice ∷ []) (events ++ event ∷ []) new × (fails (events ++ event ∷ []) ≡ true)
HasAnswered app code choices events choice old answer.Refused new =
    HasRun app code choices events new × (step_of app code (state_of old) choice ≡ None)

-- whatever choices and events led to the machine, it goes on from there
abbrev pub GoesOn : Choice → Kept → Outcome → Kept → Type 0
GoesOn choice old result new =
    (app : App) (code : Code) (choices : List Choice) (events : List Event) → HasRun app code choices events old → HasAnswered app code choices events choice old result new

-- the entity with this number, if there is one
abbrev pub entity_or_none : Option ℕ → Option Entity
entity_or_none None = None
entity_or_none (Some e) = Some (record { 0 = e })

-- what a machine shows: the actor, the current level, whether a failure has stopped it, and the number of arrivals
abbrev pub view_of : Kept → StateView
view_of k =
    record {
      running = entity_or_none (actor (setting_of k.app) (state_of k));
      level = level_at (setting_of k.app) (state_of k) (actor (setting_of k.app) (state_of k));
      stopped = k.stopped;
      arrivals = k.arrivals;
    }
