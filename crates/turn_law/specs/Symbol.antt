-- Symbolic states, and one turn and many as formulas.
use Rattle.std.specs.Prelude.{◌≡◌, ℕ, suc, ◌+◌, ◌≤◌, Bool, true, false, ◌||◌, if◌then◌else◌, ◌==◌, List, [], ◌∷◌, length, Option, Some, None, get_or}
use Rattle.clause_form.specs.declared.lit.Lit.{Lit}
use Rattle.clause_form.specs.ClauseTruth.{Values, Agree, is_lit_true}
use Rattle.clause_form.specs.Literals.{AreOf, IsOf}
use Rattle.bit_circuit.specs.declared.bus.Bus.{Bus}
use Rattle.bit_circuit.specs.BusValue.{bit, number}
use Rattle.bit_circuit.specs.Extension.{PlainFormula, IsModel}
use Rattle.bit_circuit.specs.Selection.{numbers}
use Rattle.guard_prog.specs.GuardedRun.{Program}
use Rattle.turn_law.specs.Padded.{Phase, step, path, beginning}
use Rattle.turn_law.specs.Sight.{Sight, Means}

-- the literal that is false
abbrev pub no : Lit
no = record { 0 = 3 }

-- the literal at a place of a row, false outside it
abbrev pub nth : List Lit → ℕ → Lit
nth ls i = get_or ls i no

-- the truth of the literal at a place
abbrev pub row_true : Values → List Lit → ℕ → Bool
row_true v ls i = is_lit_true v (nth ls i)

-- the literals of the top point, of the depth and of the points at each depth, and the buses of the cells
pub record Symbol : Type 0 where
  pub at : List Lit
  pub depth : List Lit
  pub slots : List (List Lit)
  pub cells : List Bus

-- what a symbolic state shows under an assignment
abbrev pub sight : Values → Symbol → Sight
sight v s =
    record {
      at = row_true v s.at;
      depth = row_true v s.depth;
      slots = λ d. row_true v (get_or s.slots d []);
      cells = λ q. get_or (numbers v s.cells) q 0;
    }

-- a turn's literals of the labels, from label 0, of the word, of the depth after it and of its failure
pub record Row : Type 0 where
  pub labels : List Lit
  pub word : List Lit
  pub depth : List Lit
  pub failure : Lit

-- the place of the first true literal
abbrev pub first_true : Values → List Lit → ℕ
first_true v [] = 0
first_true v (l ∷ ls) = if is_lit_true v l then 0 else suc (first_true v ls)

-- how many are true
abbrev pub trues : Values → List Lit → ℕ
trues v [] = 0
trues v (l ∷ ls) = bit v l + trues v ls

-- the label and the word of a turn
abbrev pub chosen : Values → Row → ℕ × ℕ
chosen v r = (first_true v r.labels, number v r.word)

-- those of each turn
abbrev pub choices : Values → List Row → List (ℕ × ℕ)
choices v [] = []
choices v (r ∷ rs) = chosen v r ∷ choices v rs

-- the literals of a row have variables from 1 to n
pub record IsRowOf (n : ℕ) (r : Row) : Type 0 where
  pub labels : AreOf n r.labels
  pub word : AreOf n r.word
  pub depth : AreOf n r.depth
  pub failure : IsOf n r.failure

-- and so have those of each
abbrev pub AreRowsOf : ℕ → List Row → Type 0
AreRowsOf n [] = Unit {0}
AreRowsOf n (r ∷ rs) = IsRowOf n r × AreRowsOf n rs

-- the row is true of a turn that leads from one phase to another
pub record Takes (p : Program) (v : Values) (ph : Phase) (r : Row) (after : Phase) : Type 0 where
  pub once : trues v r.labels ≡ 1
  pub stepped : step p ph (chosen v r) ≡ Some after
  pub depth : (d : ℕ) → row_true v r.depth d ≡ (suc d == length after.state.stack)
  pub failure : (ph.state.is_failed || is_lit_true v r.failure) ≡ after.state.is_failed
  pub unfailed : first_true v r.labels ≡ 0 → is_lit_true v r.failure ≡ false

-- the rows are true of these turns
abbrev pub Follows : Program → Values → Phase → List Row → Phase → Type 0
Follows p v ph [] after = ph ≡ after
Follows p v ph (r ∷ rs) after = (mid : Phase) × Takes p v ph r mid × Follows p v mid rs after

-- the assignment goes on in exactly one way that chooses so
pub record Chooses (old new : PlainFormula) (v : Values) (r : Row) (c : ℕ × ℕ) : Type 0 where
  pub values : Values
  pub agree : Agree old.variables v values
  pub model : IsModel values new
  pub chooses : chosen values r ≡ c
  pub only : (w : Values) → Agree old.variables v w → IsModel w new → chosen w r ≡ c → Agree new.variables values w

-- a phase follows that the row and the symbolic state show
pub record Taken (p : Program) (v : Values) (s : Symbol) (ph : Phase) (r : Row) : Type 0 where
  pub after : Phase
  pub takes : Takes p v ph r after
  pub means : Means p (sight v s) after

-- the theorem of one turn: each assignment shows a turn of the program, and for each turn of the program it goes on in exactly one way
pub record MakesTurn (p : Program) (old new : PlainFormula) (before after : Symbol) (r : Row) : Type 0 where
  pub grows : old.variables ≤ new.variables
  pub keeps : (v : Values) → IsModel v new → IsModel v old
  pub inside : IsRowOf new.variables r
  pub taken : (v : Values) → IsModel v new → (ph : Phase) → Means p (sight v before) ph → Taken p v after ph r
  pub goes_on : (v : Values) → IsModel v old → (ph : Phase) → Means p (sight v before) ph → (c : ℕ × ℕ) (next : Phase) → step p ph c ≡ Some next → Chooses old new v r c

-- exactly one assignment reads so
pub record OneReads (s : PlainFormula) (rows : List Row) (cs : List (ℕ × ℕ)) : Type 0 where
  pub values : Values
  pub model : IsModel values s
  pub reads : choices values rows ≡ cs
  pub only : (w : Values) → IsModel w s → choices w rows ≡ cs → Agree s.variables values w

-- the rows are true of turns from the start, after which the symbolic state shows the phase
pub record Reached (p : Program) (v : Values) (s : Symbol) (rows : List Row) : Type 0 where
  pub phase : Phase
  pub follows : Follows p v (beginning p) rows phase
  pub means : Means p (sight v s) phase

-- the formula of these turns: each assignment shows turns of the program, and each of the program's is shown by exactly one
pub record Unrolls (p : Program) (s : PlainFormula) (symbol : Symbol) (rows : List Row) : Type 0 where
  pub inside : AreRowsOf s.variables rows
  pub reached : (v : Values) → IsModel v s → Reached p v symbol rows
  pub goes_on : (cs : List (ℕ × ℕ)) → length cs ≡ length rows → (ph : Phase) → path p cs (beginning p) ≡ Some ph → OneReads s rows cs
