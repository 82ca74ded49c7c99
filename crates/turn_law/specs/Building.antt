-- How a turn is built: free literals, then gates, then demands.
use Rattle.std.specs.Prelude.{◌≡◌, ℕ, suc, ◌<◌, ◌≤◌, ◌^◌, Bool, true, false, not, ◌&&◌, if◌then◌else◌, ◌==◌, nat_lt, List, [], ◌∷◌, ◌++◌}
use Rattle.clause_form.specs.declared.lit.Lit.{Lit}
use Rattle.clause_form.specs.ClauseTruth.{Values, Agree, is_lit_true}
use Rattle.bit_circuit.specs.BusValue.{number}
use Rattle.bit_circuit.specs.Extension.{PlainFormula, IsModel, Extends, ExtendsWith}
use Rattle.guard_prog.specs.GuardedRun.{Program, takes_word, is_fail}
use Rattle.turn_law.specs.Padded.{Phase}
use Rattle.turn_law.specs.Sight.{Pick, Offer, any, is_all, open_offers, next, Means, Allows}
use Rattle.turn_law.specs.Symbol.{Symbol, Row, IsRowOf, nth, row_true, sight, trues}

-- variable 1 is there, and it is true
pub record HasTruth (s : PlainFormula) : Type 0 where
  pub starts : 1 ≤ s.variables
  pub one : (v : Values) → IsModel v s → v 1 ≡ true

-- the literal is the one that is false
abbrev pub is_no : Lit → Bool
is_no l = l.0 == 3

-- the literals of a row without those
abbrev pub free_of : List Lit → List Lit
free_of [] = []
free_of (l ∷ ls) = if is_no l then free_of ls else l ∷ free_of ls

-- the labels and the word of a turn, under an assignment
abbrev pub picks : Values → Row → Pick
picks v r = record { label = λ i. not (i == 0) && row_true v r.labels i; word = number v r.word }

-- a clause for each literal
abbrev pub units : List Lit → List (List Lit)
units [] = []
units (l ∷ ls) = (l ∷ []) ∷ units ls

-- all literals are true
abbrev pub all_true : Values → List Lit → Bool
all_true v [] = true
all_true v (l ∷ ls) = is_lit_true v l && all_true v ls

-- the symbolic state shows the same under assignments that agree
pub record IsSymbolOf (n : ℕ) (s : Symbol) : Type 0 where
  pub same : (v w : Values) → Agree n v w → sight v s ≡ sight w s

-- the lowest bits of the row are free, so many that the number fits
pub record HasRoom (row : List Lit) (word : ℕ) : Type 0 where
  pub bits : ℕ
  pub fits : word < 2 ^ bits
  pub free : (i : ℕ) → i < bits → is_no (nth row i) ≡ false

-- a turn as it is built: from the formula of the turns before it come first gates, then free literals of labels and word with more gates, and
-- literals that are demanded. Label i + 1 stands at place i of the labels, and the other literal is label 0
pub record BuildsTurn (p : Program) (os : List Offer) (old mid gates : PlainFormula) (before after : Symbol) (r : Row) (other : Lit) (labels demands : List Lit) : Type 0 where
  pub truth : HasTruth old
  pub symbol : IsSymbolOf old.variables before
  pub row : r.labels ≡ other ∷ labels
  pub begins : Extends old mid
  pub extends : ExtendsWith mid gates (free_of labels ++ free_of r.word)
  pub offered : (v : Values) → IsModel v mid → (l : ℕ) → any (sight v before).at (λ i. i == suc l) is_all (open_offers p os (sight v before)) ≡ true → is_no (nth labels l) ≡ false
  pub room : (v : Values) → IsModel v mid → (l word : ℕ) → any (sight v before).at (λ i. i == l) (λ a. takes_word a.input word) (open_offers p os (sight v before)) ≡ true → HasRoom r.word word
  pub inside : IsRowOf gates.variables r
  pub depth : r.depth ≡ after.depth
  pub none : (v : Values) → IsModel v gates → is_lit_true v other ≡ not (nat_lt 0 (trues v labels))
  pub shows : (v : Values) → IsModel v gates → sight v after ≡ next p os (sight v before) (picks v r)
  pub failure : (v : Values) → IsModel v gates → is_lit_true v r.failure ≡ any (sight v before).at (picks v r).label (λ a. is_fail a.control) (open_offers p os (sight v before))
  pub forced : (v : Values) → IsModel v gates → (ph : Phase) → Means p (sight v before) ph → all_true v demands ≡ true → (trues v r.labels ≡ 1) × Allows p os (sight v before) (picks v r)
  pub free : (v : Values) → IsModel v gates → (ph : Phase) → Means p (sight v before) ph → trues v r.labels ≡ 1 → Allows p os (sight v before) (picks v r) → all_true v demands ≡ true
