-- Trace equality: for the same choices the standard's scheduler and the one-stack machine have the same events.
use Rattle.std.specs.Prelude.{◌≡◌, ◌↔◌, ℕ, ◌≤◌, List, [], ◌∷◌, length, take, Some}
use Rattle.step_ir.specs.declared.event.Choice.{Choice}
use Rattle.step_ir.specs.declared.event.Event.{Event}
use Rattle.step_ir.specs.Agreement.{Agrees, HaveSame, Rises}
use Rattle.step_ir.specs.EntityStep.{Behaviour, TellsNoFailures}
use Rattle.step_ir.specs.Numbers.{times}
use Rattle.step_ir.specs.OneStackMachine
use Rattle.step_ir.specs.OneStackMachine.{Frame, Stacked, IsStackRun, standing, whos}
use Rattle.step_ir.specs.PermittedSchedule
use Rattle.step_ir.specs.PermittedSchedule.{IsSchedule, fails}
use Rattle.step_ir.specs.SchedulerState.{State}
use Rattle.step_ir.specs.SchedulerStep
use Rattle.step_ir.specs.Setting.{Setting}

-- each one's standing level is at least its own level
abbrev pub StandHigh : {S : Type 0} → Setting → List (Frame S) → Type 0
StandHigh app [] = Unit {0}
StandHigh app (f ∷ fs) = (app.level f.who ≤ standing app f) × StandHigh app fs

-- what holds of the stack: levels rise strictly from its bottom to its top, so an entity stands on it at most once
pub record IsRising {S G : Type 0} (app : Setting) (m : Stacked S G) : Type 0 where
  -- each one's own level is above the standing level of the one below
  pub rises : Rises app m.stack
  pub high : StandHigh app m.stack
  pub once : (e : ℕ) → times e (whos m.stack) ≤ 1
  -- there are at most as many as there are entities
  pub depth : length m.stack ≤ app.entities

-- both schedulers do the same over this application, where entities do this and the globals start so
pub record HaveSameTraces {S G : Type 0} (app : Setting) (beh : Behaviour S G) (globals : G) : Type 0 where
  -- the states agree at the start, and every choice keeps that: it has the same event in both, or neither permits it
  pub starts : Agrees app (SchedulerStep.start app beh globals) (OneStackMachine.start app beh globals)
  pub steps : (st : State S G) (m : Stacked S G) (choice : Choice) → Agrees app st m → HaveSame app (SchedulerStep.step app beh st choice) (OneStackMachine.step app beh m choice)
  -- so every list of choices has the same events in both, and leads to states that agree
  pub runs : (choices : List Choice) → HaveSame app (PermittedSchedule.run app beh choices (SchedulerStep.start app beh globals)) (OneStackMachine.run app beh choices (OneStackMachine.start app beh globals))
  -- within any bounds, the events of permitted schedules are those of lists of choices of the machine
  pub traces : (k m : ℕ) (events : List Event) → IsSchedule app beh globals k m events ↔ IsStackRun app beh globals k m events
  -- each choice has one event
  pub as_many : (choices : List Choice) (events : List Event) → PermittedSchedule.events_from app beh choices (SchedulerStep.start app beh globals) ≡ Some events → length events ≡ length choices
  -- every prefix of a permitted schedule is one
  pub prefixes : (k m n : ℕ) (events : List Event) → IsSchedule app beh globals k m events → IsSchedule app beh globals k m (take n events)
  -- where the states agree, and so after every list of choices, the stack rises
  pub rising : (st : State S G) (m : Stacked S G) → Agrees app st m → IsRising app m
  pub rising_after : (choices : List Choice) (events : List Event) (m : Stacked S G) → OneStackMachine.run app beh choices (OneStackMachine.start app beh globals) ≡ Some (events, m) → IsRising app m
  -- a schedule fails exactly where a failure has stopped the scheduler, and the machine
  pub stopped : TellsNoFailures beh → (choices : List Choice) (events : List Event) (st : State S G) → PermittedSchedule.run app beh choices (SchedulerStep.start app beh globals) ≡ Some (events, st) → fails events ≡ st.is_stopped
  pub machine_stopped : TellsNoFailures beh → (choices : List Choice) (events : List Event) (m : Stacked S G) → OneStackMachine.run app beh choices (OneStackMachine.start app beh globals) ≡ Some (events, m) → fails events ≡ m.is_stopped
