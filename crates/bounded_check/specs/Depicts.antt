-- Depictions: what a formula with labels says of the choice lists of the one-stack machine.
use Rattle.std.specs.Prelude.{◌≡◌, ℕ, suc, ◌<◌, ◌≤◌, ◌&&◌, ◌==◌, nat_lt, List, [], ◌∷◌, length, take, Some}
use Rattle.bit_circuit.specs.Extension.{IsModel}
use Rattle.clause_form.specs.declared.lit.Lit.{Lit}
use Rattle.clause_form.specs.ClauseTruth.{Values, Agree, is_clause_true}
use Rattle.clause_form.specs.Literals.{AreOf, IsClause, has}
use Rattle.one_stack.specs.BuildExact.{choices_of}
use Rattle.one_stack.specs.declared.label.Label.{Label}
use Rattle.one_stack.specs.Labelled.{AreActors, TakesWord, chosen_by}
use Rattle.step_ir.specs.declared.event.Choice.{Choice}
use Rattle.step_ir.specs.declared.event.Event.{Event}
use Rattle.step_ir.specs.EntityStep.{Behaviour}
use Rattle.step_ir.specs.OneStackMachine
use Rattle.step_ir.specs.OneStackMachine.{Stacked}
use Rattle.step_ir.specs.PermittedSchedule.{arrivals_in, fails}
use Rattle.step_ir.specs.Setting.{Setting}
use Rattle.turn_law.specs.Description.{AreRowsWithin, read, row_of}
use Rattle.turn_encoding.specs.Encodings.{PlainEncoding}
use Rattle.turn_law.specs.Symbol.{first_true, trues, row_true}

-- each label is one of the list, whose first item is label 1, and takes its word
abbrev pub AreListed : List Label → List (ℕ × ℕ) → Type 0
AreListed labels [] = Unit {0}
AreListed labels (pair ∷ pairs) =
    ((1 ≤ pair.0) × (pair.0 ≤ length labels)) × TakesWord labels pair.0 pair.1 × AreListed labels pairs

-- each label's entity is one of so many
abbrev pub AreNamed : ℕ → List Label → Type 0
AreNamed entities [] = Unit {0}
AreNamed entities (label ∷ labels) = (label.entity.0 < entities) × AreNamed entities labels

-- whatever makes the formula true reads labels of the list, with words that they take
abbrev pub ReadsListed : PlainEncoding → List Label → Type 0
ReadsListed e labels = (v : Values) → IsModel v e.formula → AreListed labels (read e v)

-- the choices that the literals give under an assignment, turn by turn, up to before the first label 0
abbrev pub choices_read : PlainEncoding → List Label → Values → List Choice
choices_read e labels v = choices_of (chosen_by labels) (read e v)

-- the machine, whose entities do this and whose globals start so, permits these choices, with these events and this state after them
pub record LeadsTo {S G : Type 0} (app : Setting) (beh : Behaviour S G) (globals : G) (choices : List Choice) (events : List Event) (state : Stacked S G) : Type 0 where
  pub is : OneStackMachine.run app beh choices (OneStackMachine.start app beh globals) ≡ Some (events, state)

-- a choice list of the machine with at most m arrivals
pub record IsChoiceList {S G : Type 0} (app : Setting) (beh : Behaviour S G) (globals : G) (m : ℕ) (choices : List Choice) : Type 0 where
  pub events : List Event
  pub state : Stacked S G
  pub leads : LeadsTo app beh globals choices events state
  pub few : arrivals_in choices ≤ m

-- exactly one assignment makes the formula true and reads so
pub record HasOneModel (e : PlainEncoding) (labels : List Label) (choices : List Choice) : Type 0 where
  pub values : Values
  pub model : IsModel values e.formula
  pub reads : choices_read e labels values ≡ choices
  pub only : (w : Values) → IsModel w e.formula → choices_read e labels w ≡ choices → Agree e.formula.variables values w

-- a literal for each turn, which is true exactly where the choice list has that turn and fails in it
pub record AreFailures {S G : Type 0} (e : PlainEncoding) (labels : List Label) (app : Setting) (beh : Behaviour S G) (globals : G) (k : ℕ) (failures : List Lit) : Type 0 where
  pub count : length failures ≡ k
  pub each : (v : Values) → IsModel v e.formula → (t : ℕ) → t < k → (events : List Event) (s : Stacked S G) → LeadsTo app beh globals (take (suc t) (choices_read e labels v)) events s → row_true v failures t ≡ (nat_lt t (length (choices_read e labels v)) && fails events)

-- the goal has the failure literal of every turn and no other; equal ones stand once
pub record HoldsFailures {S G : Type 0} (e : PlainEncoding) (labels : List Label) (app : Setting) (beh : Behaviour S G) (globals : G) (k : ℕ) : Type 0 where
  pub failures : List Lit
  pub are : AreFailures e labels app beh globals k failures
  pub same : (l : Lit) → has e.goal l ≡ has failures l

-- the assignments that make the formula true are the choice lists of at most k turns and m arrivals of the machine, one for each
pub record Depicts {S G : Type 0} (e : PlainEncoding) (labels : List Label) (app : Setting) (beh : Behaviour S G) (globals : G) (k m : ℕ) : Type 0 where
  pub turns : length e.alternatives ≡ k
  -- label 0 is the padding and has no entity; each other label is one of the list, has an entity of the application, and is read where that entity acts
  pub listed : ReadsListed e labels
  pub named : AreNamed app.entities labels
  pub actors : (v : Values) → IsModel v e.formula → (events : List Event) (s : Stacked S G) → LeadsTo app beh globals (choices_read e labels v) events s → AreActors labels (read e v) events
  -- (a) each turn has exactly one true label literal, label 0 is followed by label 0 alone, and what is read is a choice list
  pub once : (v : Values) → IsModel v e.formula → (t : ℕ) → t < k → trues v (row_of e.alternatives t) ≡ 1
  pub padding : (v : Values) → IsModel v e.formula → (t : ℕ) → suc t < k → first_true v (row_of e.alternatives t) ≡ 0 → first_true v (row_of e.alternatives (suc t)) ≡ 0
  pub lists : (v : Values) → IsModel v e.formula → IsChoiceList app beh globals m (choices_read e labels v)
  -- (b) each choice list of at most k turns is read under exactly one assignment
  pub each : (choices : List Choice) → length choices ≤ k → IsChoiceList app beh globals m choices → HasOneModel e labels choices
  -- (c) the true depth literal is the one of the number of entities on the stack, which the padding keeps
  pub depth : (v : Values) → IsModel v e.formula → (t : ℕ) → t ≤ k → (events : List Event) (s : Stacked S G) → LeadsTo app beh globals (take t (choices_read e labels v)) events s → (d : ℕ) → row_true v (row_of e.depths t) d ≡ (d == length s.stack)
  -- (d) the goal isn't empty, its variables rise strictly, it has the failure literals of the turns, and it is true exactly where the choice list fails
  pub some : 0 < length e.goal
  pub rises : IsClause e.goal
  pub failures : HoldsFailures e labels app beh globals k
  pub goal : (v : Values) → IsModel v e.formula → (events : List Event) (s : Stacked S G) → LeadsTo app beh globals (choices_read e labels v) events s → is_clause_true v e.goal ≡ fails events
  -- (e) every literal has a variable of the formula
  pub goal_within : AreOf e.formula.variables e.goal
  pub depths_within : AreRowsWithin e.formula.variables e.depths
  pub alternatives_within : AreRowsWithin e.formula.variables e.alternatives
  pub inputs_within : AreRowsWithin e.formula.variables e.inputs
