-- The resolvent of an analysis.
use Rattle.std.specs.Prelude.{◌≡◌, ℕ, ◌+◌, true, false, List, [], ◌∷◌, ◌⊎◌, if◌then◌else◌, is_none}
use Rattle.clause_form.specs.declared.lit.Lit.{Lit}
use Rattle.clause_form.specs.Literals.{negation, has}
use Rattle.clause_solver.specs.declared.trail.Entry.{Entry}
use Rattle.clause_solver.specs.Trail.{lits_of, below, is_newest}

-- how many of these literals were set at the current level
abbrev pub newest_count : List Lit → List Entry → ℕ
newest_count seen [] = 0
newest_count seen (e ∷ es) = (if has seen e.lit then 1 else 0) + (if is_none e.reason then 0 else newest_count seen es)

-- no literal stands twice
abbrev pub IsDistinct : List Lit → Type 0
IsDistinct [] = Unit {0}
IsDistinct (l ∷ ls) = (has ls l ≡ false) × IsDistinct ls

-- each literal of the one list is in the other
abbrev pub IsPart : List Lit → List Lit → Type 0
IsPart a b = (l : Lit) → has a l ≡ true → has b l ≡ true

-- a seen literal was set at the current level, where it is counted, or its negation is one of the literals of lower levels, each of which stands once
pub record IsResolvent (trail : List Entry) (seen lower : List Lit) (number : ℕ) : Type 0 where
  pub count : number ≡ newest_count seen trail
  pub cover : (l : Lit) → has seen l ≡ true → has (lits_of trail) l ≡ true → (is_newest trail l ≡ true) ⊎ (has lower (negation l) ≡ true)
  pub older : (l : Lit) → has lower l ≡ true → has (lits_of (below trail)) (negation l) ≡ true
  pub signs : (l : Lit) → has lower l ≡ true → has seen (negation l) ≡ true
  pub distinct : IsDistinct lower

-- each false literal of the clause is seen, or one of those of lower levels
abbrev pub AreCovered : List Entry → List Lit → List Lit → List Lit → Type 0
AreCovered trail seen lower clause =
    (l : Lit) → has clause l ≡ true → has (lits_of trail) (negation l) ≡ true
    → ((is_newest trail (negation l) ≡ true) × (has seen (negation l) ≡ true)) ⊎ (has lower l ≡ true)

-- the resolvent with the false literals of a clause
pub record Adds (trail : List Entry) (seen lower : List Lit) (clause : List Lit) (seen' lower' : List Lit) (number : ℕ) : Type 0 where
  pub resolvent : IsResolvent trail seen' lower' number
  pub more_seen : IsPart seen seen'
  pub more_lower : IsPart lower lower'
  pub covered : AreCovered trail seen' lower' clause
