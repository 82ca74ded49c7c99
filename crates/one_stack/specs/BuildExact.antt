-- The runs of a guarded program are the choice lists of the one-stack machine.
use Rattle.std.specs.Prelude.{◌≡◌, ℕ, ◌+◌, ◌≤◌, List, [], ◌∷◌, length, Some}
use Rattle.guard_prog.specs.GuardedRun.{Program, State, start_of, run}
use Rattle.one_stack.specs.declared.label.Label.{Label}
use Rattle.one_stack.specs.Labelled.{AreActors, chosen_by}
use Rattle.step_ir.specs.declared.event.Choice.{Choice}
use Rattle.step_ir.specs.declared.event.Event.{Event}
use Rattle.step_ir.specs.EntityStep.{Behaviour}
use Rattle.step_ir.specs.OneStackMachine
use Rattle.step_ir.specs.OneStackMachine.{Stacked}
use Rattle.step_ir.specs.PermittedSchedule.{arrivals_in}
use Rattle.step_ir.specs.Setting.{Setting}

-- the choices of a run, by the meaning of label and word
abbrev pub choices_of : (ℕ → ℕ → Choice) → List (ℕ × ℕ) → List Choice
choices_of chosen [] = []
choices_of chosen (pair ∷ pairs) = chosen pair.0 pair.1 ∷ choices_of chosen pairs

-- the depths agree, and the one has failed exactly where the other has stopped
pub record IsAlike {S G : Type 0} (s : State) (m : Stacked S G) : Type 0 where
  pub depth : length s.stack ≡ length m.stack + 1
  pub failed : s.is_failed ≡ m.is_stopped

-- these choices are permitted, with at most so many arrivals, and lead the machine to a state like this one
pub record IsMatched {S G : Type 0} (app : Setting) (beh : Behaviour S G) (globals : G) (arrivals : ℕ) (choices : List Choice) (s : State) : Type 0 where
  pub events : List Event
  pub state : Stacked S G
  pub permitted : OneStackMachine.run app beh choices (OneStackMachine.start app beh globals) ≡ Some (events, state)
  pub few : arrivals_in choices ≤ arrivals
  pub alike : IsAlike s state

-- there is a run of the program with these choices
pub record HasRun (p : Program) (chosen : ℕ → ℕ → Choice) (choices : List Choice) : Type 0 where
  pub pairs : List (ℕ × ℕ)
  pub state : State
  pub runs : run p pairs (start_of p) ≡ Some state
  pub same : choices_of chosen pairs ≡ choices

-- the runs of the program, through this meaning of label and word, are exactly the choice lists of the machine with at most so many arrivals: each run has permitted choices, and each list of permitted choices has exactly one run
pub record IsExact {S G : Type 0} (app : Setting) (beh : Behaviour S G) (globals : G) (arrivals : ℕ) (p : Program) (chosen : ℕ → ℕ → Choice) : Type 0 where
  pub sound : (pairs : List (ℕ × ℕ)) (s : State) → run p pairs (start_of p) ≡ Some s → IsMatched app beh globals arrivals (choices_of chosen pairs) s
  pub complete : (choices : List Choice) (events : List Event) (m : Stacked S G) → OneStackMachine.run app beh choices (OneStackMachine.start app beh globals) ≡ Some (events, m) → arrivals_in choices ≤ arrivals → HasRun p chosen choices
  pub unique : (xs ys : List (ℕ × ℕ)) (s t : State) → run p xs (start_of p) ≡ Some s → run p ys (start_of p) ≡ Some t → choices_of chosen xs ≡ choices_of chosen ys → xs ≡ ys

-- in each turn of each run of the program, the entity of the label is the one that acts
pub record NamesActors {S G : Type 0} (app : Setting) (beh : Behaviour S G) (globals : G) (p : Program) (labels : List Label) : Type 0 where
  pub acts : (pairs : List (ℕ × ℕ)) (s : State) → run p pairs (start_of p) ≡ Some s → (events : List Event) (m : Stacked S G) → OneStackMachine.run app beh (choices_of (chosen_by labels) pairs) (OneStackMachine.start app beh globals) ≡ Some (events, m) → AreActors labels pairs events
