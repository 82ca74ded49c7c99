-- Permitted schedules: the events of lists of choices, each of which is permitted.
use Rattle.std.specs.Prelude.{◌≡◌, ℕ, ◌+◌, ◌≤◌, Bool, false, List, [], ◌∷◌, length, Option, Some, None}
use Rattle.step_ir.specs.declared.event.Choice.{Choice}
use Rattle.step_ir.specs.declared.event.Choice.TheVariants.{Go, GoWith, Arrive}
use Rattle.step_ir.specs.declared.event.Event.{Event}
use Rattle.step_ir.specs.EntityStep.{Behaviour, is_failure}
use Rattle.step_ir.specs.SchedulerState.{State}
use Rattle.step_ir.specs.SchedulerStep.{start, step}
use Rattle.step_ir.specs.Setting.{Setting}

-- an event before those that follow
abbrev pub prepend : {E A : Type 0} → E → Option (List E × A) → Option (List E × A)
prepend e None = None
prepend e (Some rest) = Some (e ∷ rest.0, rest.1)

-- the event of a step and those that follow from the state after it, with the last state
abbrev pub follow : {E A : Type 0} → Option (E × A) → (A → Option (List E × A)) → Option (List E × A)
follow None rest = None
follow (Some next) rest = prepend next.0 (rest next.1)

-- the events alone
abbrev pub events_of : {E A : Type 0} → Option (List E × A) → Option (List E)
events_of None = None
events_of (Some run) = Some run.0

-- the events of a list of choices and the state after them, or nothing where one isn't permitted
abbrev pub run : {S G : Type 0} → Setting → Behaviour S G → List Choice → State S G → Option (List Event × State S G)
run app beh [] st = Some ([], st)
run app beh (c ∷ cs) st = follow (step app beh st c) (run app beh cs)

-- the events of a list of choices from this state
abbrev pub events_from : {S G : Type 0} → Setting → Behaviour S G → List Choice → State S G → Option (List Event)
events_from app beh choices st = events_of (run app beh choices st)

-- the number of arrivals among choices
abbrev pub arrivals_in : List Choice → ℕ
arrivals_in [] = 0
arrivals_in (Arrive r ∷ cs) = arrivals_in cs + 1
arrivals_in (Go ∷ cs) = arrivals_in cs
arrivals_in (GoWith w ∷ cs) = arrivals_in cs

-- these are the events of a permitted schedule of at most k events and at most m arrivals
pub record IsSchedule {S G : Type 0} (app : Setting) (beh : Behaviour S G) (globals : G) (k m : ℕ) (events : List Event) : Type 0 where
  pub choices : List Choice
  pub permitted : events_from app beh choices (start app beh globals) ≡ Some events
  pub short : length events ≤ k
  pub few : arrivals_in choices ≤ m

-- a schedule fails where its last event is a failure
abbrev pub fails : List Event → Bool
fails [] = false
fails (e ∷ []) = is_failure e.action
fails (e ∷ f ∷ es) = fails (f ∷ es)
