-- Truth of literals, clauses and formulas under an assignment.
use Rattle.std.specs.Prelude.{◌≡◌, ℕ, ◌-◌, ◌≤◌, Bool, true, false, not, ◌&&◌, ◌||◌, ◌==◌, List, [], ◌∷◌, if◌then◌else◌, slice_index_or}
use Rattle.clause_form.specs.declared.lit.Lit.{Lit}
use Rattle.clause_form.specs.Literals.{variable, is_positive}

-- an assignment: a truth value for each variable
abbrev pub Values : Type 0
Values = ℕ → Bool

-- a literal is true where its variable has its sign
unfoldable pub is_lit_true : Values → Lit → Bool
is_lit_true v l = if is_positive l then v (variable l) else not (v (variable l))

-- a clause is true where one of its literals is
abbrev pub is_clause_true : Values → List Lit → Bool
is_clause_true v [] = false
is_clause_true v (l ∷ ls) = is_lit_true v l || is_clause_true v ls

-- a formula is true where all its clauses are
abbrev pub are_true : Values → List (List Lit) → Bool
are_true v [] = true
are_true v (c ∷ cs) = is_clause_true v c && are_true v cs

-- a list of truth values gives variable 1 the first, and so on; a variable that it doesn't reach is false
abbrev pub values_of : List Bool → Values
values_of values n = if n == 0 then false else slice_index_or values (n - 1) false

-- two assignments give the variables from 1 to this number the same values
pub record Agree (n : ℕ) (v w : Values) : Type 0 where
  pub at : (x : ℕ) → 1 ≤ x → x ≤ n → v x ≡ w x

-- no assignment makes all these clauses true
abbrev pub HasNoModel : List (List Lit) → Type 0
HasNoModel clauses = (v : Values) → are_true v clauses ≡ true → ⊥
