-- Lines that unit propagation didn't have already.
use Rattle.std.specs.Prelude.{◌≡◌, ℕ, suc, Bool, true, false, not, ◌&&◌, ◌||◌, List, [], ◌∷◌, ◌++◌, length, nat_le, count_by}
use Rattle.clause_form.specs.declared.lit.Lit.{Lit}
use Rattle.clause_form.specs.declared.line.Line.{Line}
use Rattle.clause_form.specs.Literals.{negation, has}
use Rattle.clause_form.specs.DerivedLine.{is_empty, AreDerived}

-- the set holds no literal together with its negation
abbrev pub IsConsistent : List Lit → Type 0
IsConsistent set = (l : Lit) → has set l ≡ true → has set (negation l) ≡ false

-- a literal is false in the set where its negation is in it
abbrev pub is_false : List Lit → Lit → Bool
is_false set l = has set (negation l)

-- a literal is open in the set where it is neither true, which is in the set, nor false
abbrev pub is_open : List Lit → Lit → Bool
is_open set l = not (has set l) && not (is_false set l)

-- a literal of the clause is true in the set
abbrev pub has_true : List Lit → List Lit → Bool
has_true set [] = false
has_true set (l ∷ ls) = has set l || has_true set ls

-- a clause has a true literal, or at least two open ones
abbrev pub is_settled : List Lit → List Lit → Bool
is_settled set c = has_true set c || nat_le 2 (count_by (is_open set) c)

-- the set is closed over the clauses: each is settled
abbrev pub is_closed : List Lit → List (List Lit) → Bool
is_closed set [] = true
is_closed set (c ∷ cs) = is_settled set c && is_closed set cs

-- one literal is open, and all others are false
abbrev pub LeavesOne : List Lit → List Lit → Type 0
LeavesOne set c = (count_by (is_open set) c ≡ 1) × (suc (count_by (is_false set) c) ≡ length c)

-- a clause is learned where a set that is closed over the clauses before it leaves one of its literals open
pub record IsLearned (clauses : List (List Lit)) (c : List Lit) : Type 0 where
  pub set : List Lit
  pub consistent : IsConsistent set
  pub closed : is_closed set clauses ≡ true
  pub new : LeavesOne set c

-- each line that isn't empty is learned over the clauses and the lines before it
abbrev pub AreLearned : List (List Lit) → List Line → Type 0
AreLearned clauses [] = Unit {0}
AreLearned clauses (line ∷ lines) =
    (is_empty line.clause ≡ false → IsLearned clauses line.clause) × AreLearned (clauses ++ line.clause ∷ []) lines

-- a line is empty
abbrev pub has_empty : List Line → Bool
has_empty [] = false
has_empty (line ∷ lines) = is_empty line.clause || has_empty lines

-- the budget is spent: the log has exactly this many lines, none is empty, and each is derived and learned
pub record IsSpent (n : ℕ) (clauses : List (List Lit)) (log : List Line) (budget : ℕ) : Type 0 where
  pub count : length log ≡ budget
  pub not_empty : has_empty log ≡ false
  pub derived : AreDerived n clauses log
  pub learned : AreLearned clauses log
