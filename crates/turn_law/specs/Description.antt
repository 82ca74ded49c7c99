-- Descriptions: what the formula of a guarded program says.
use Rattle.std.specs.Prelude.{◌≡◌, ℕ, suc, ◌<◌, ◌≤◌, ◌&&◌, ◌==◌, nat_lt, List, [], ◌∷◌, length, take, get_or}
use Rattle.clause_form.specs.declared.lit.Lit.{Lit}
use Rattle.clause_form.specs.ClauseTruth.{Values, Agree, is_clause_true}
use Rattle.clause_form.specs.Literals.{AreOf, IsClause, has}
use Rattle.bit_circuit.specs.BusValue.{number}
use Rattle.bit_circuit.specs.Extension.{IsModel}
use Rattle.guard_prog.specs.GuardedRun.{Program, State, IsRun, IsRunTo}
use Rattle.turn_law.specs.Padded.{trimmed}
use Rattle.turn_law.specs.Symbol.{first_true, trues, row_true}
pub use Rattle.turn_encoding.specs.Encodings.{PlainEncoding}

-- a row of a grid, and nothing outside it
abbrev pub row_of : List (List Lit) → ℕ → List Lit
row_of rows t = get_or rows t []

-- the label and the word of each turn
abbrev pub turns_read : Values → List (List Lit) → List (List Lit) → List (ℕ × ℕ)
turns_read v [] words = []
turns_read v (labels ∷ rows) [] = []
turns_read v (labels ∷ rows) (word ∷ words) = (first_true v labels, number v word) ∷ turns_read v rows words

-- the labels and words that the literals give under an assignment, turn by turn, up to before the first label 0
abbrev pub read : PlainEncoding → Values → List (ℕ × ℕ)
read e v = trimmed (turns_read v e.alternatives e.inputs)

-- exactly one assignment makes the formula true and reads so
pub record HasOneModel (e : PlainEncoding) (pairs : List (ℕ × ℕ)) : Type 0 where
  pub values : Values
  pub model : IsModel values e.formula
  pub reads : read e values ≡ pairs
  pub only : (w : Values) → IsModel w e.formula → read e w ≡ pairs → Agree e.formula.variables values w

-- the variables of each row's literals are from 1 to n
abbrev pub AreRowsWithin : ℕ → List (List Lit) → Type 0
AreRowsWithin n [] = Unit {0}
AreRowsWithin n (row ∷ rows) = AreOf n row × AreRowsWithin n rows

-- a literal for each turn, which is true exactly where the run has that turn and fails in it
pub record AreFailures (e : PlainEncoding) (p : Program) (k : ℕ) (failures : List Lit) : Type 0 where
  pub count : length failures ≡ k
  pub each : (v : Values) → IsModel v e.formula → (t : ℕ) → t < k → (s : State) → IsRunTo p (take (suc t) (read e v)) s → row_true v failures t ≡ (nat_lt t (length (read e v)) && s.is_failed)

-- the goal has the failure literal of every turn, also where that is constantly false, and no other; equal ones stand once
pub record HoldsFailures (e : PlainEncoding) (p : Program) (k : ℕ) : Type 0 where
  pub failures : List Lit
  pub are : AreFailures e p k failures
  pub same : (l : Lit) → has e.goal l ≡ has failures l

-- the assignments that make the formula true are the runs of at most k turns of the program, one for each
pub record Describes (e : PlainEncoding) (p : Program) (k : ℕ) : Type 0 where
  pub turns : length e.alternatives ≡ k
  -- (a) each turn has exactly one true label literal, label 0 is followed by label 0 alone, and what is read is a run
  pub once : (v : Values) → IsModel v e.formula → (t : ℕ) → t < k → trues v (row_of e.alternatives t) ≡ 1
  pub padding : (v : Values) → IsModel v e.formula → (t : ℕ) → suc t < k → first_true v (row_of e.alternatives t) ≡ 0 → first_true v (row_of e.alternatives (suc t)) ≡ 0
  pub runs : (v : Values) → IsModel v e.formula → IsRun p (read e v)
  -- (b) each run of at most k turns is read under exactly one assignment
  pub each : (pairs : List (ℕ × ℕ)) → length pairs ≤ k → IsRun p pairs → HasOneModel e pairs
  -- (c) the true depth literal is the one of the number of points above the bottom, which the padding keeps
  pub depth : (v : Values) → IsModel v e.formula → (t : ℕ) → t ≤ k → (s : State) → IsRunTo p (take t (read e v)) s → (d : ℕ) → row_true v (row_of e.depths t) d ≡ (suc d == length s.stack)
  -- (d) the goal isn't empty, its variables rise strictly, it has the failure literals of the turns, and it is true exactly where the run ends in a failure
  pub some : 0 < length e.goal
  pub rises : IsClause e.goal
  pub failures : HoldsFailures e p k
  pub goal : (v : Values) → IsModel v e.formula → (s : State) → IsRunTo p (read e v) s → is_clause_true v e.goal ≡ s.is_failed
  -- (e) every literal has a variable of the formula
  pub goal_within : AreOf e.formula.variables e.goal
  pub depths_within : AreRowsWithin e.formula.variables e.depths
  pub alternatives_within : AreRowsWithin e.formula.variables e.alternatives
  pub inputs_within : AreRowsWithin e.formula.variables e.inputs
