-- The trail, as a list with the literal that was set last in front.
use Rattle.std.specs.Prelude.{◌≡◌, ℕ, suc, ◌<◌, ◌≤◌, Bool, true, false, Option, None, Some, List, [], ◌∷◌, ◌==◌, if◌then◌else◌, is_none, nat_le}
use Rattle.clause_form.specs.declared.lit.Lit.{Lit}
use Rattle.clause_solver.specs.declared.trail.Entry.{Entry}
use Rattle.clause_form.specs.Literals.{variable, negation, has}
use Rattle.clause_form.specs.DerivedLine.{option_unfalse, clause_at}
use Rattle.clause_form.specs.LearnedLine.{is_closed}

-- the literals that are set
abbrev pub lits_of : List Entry → List Lit
lits_of [] = []
lits_of (e ∷ es) = e.lit ∷ lits_of es

-- the number of decisions, which is the current level
abbrev pub decisions : List Entry → ℕ
decisions [] = 0
decisions (e ∷ es) = if is_none e.reason then suc (decisions es) else decisions es

-- the number of decisions that stood when the literal was set, itself counted
abbrev pub level_of : List Entry → Lit → Option ℕ
level_of [] l = None
level_of (e ∷ es) l = if e.lit.0 == l.0 then Some (decisions (e ∷ es)) else level_of es l

-- what was set up to a level
abbrev pub up_to : ℕ → List Entry → List Entry
up_to k [] = []
up_to k (e ∷ es) = if nat_le (decisions (e ∷ es)) k then e ∷ es else up_to k es

-- what was set before the last decision
abbrev pub below : List Entry → List Entry
below [] = []
below (e ∷ es) = if is_none e.reason then es else below es

-- the literal was set at the current level
abbrev pub is_newest : List Entry → Lit → Bool
is_newest [] l = false
is_newest (e ∷ es) l = if e.lit.0 == l.0 then true else (if is_none e.reason then false else is_newest es l)

-- no literal is set twice
abbrev pub AreFresh : List Entry → Type 0
AreFresh [] = Unit {0}
AreFresh (e ∷ es) = (has (lits_of es) e.lit ≡ false) × AreFresh es

-- why a literal is set: a decision comes where the set is closed over the clauses, and else the clause with this number left this literal alone
abbrev pub HasReason : List (List Lit) → List Lit → Lit → Option ℕ → Type 0
HasReason clauses set l None = is_closed set clauses ≡ true
HasReason clauses set l (Some r) = option_unfalse set (clause_at clauses r) ≡ Some (l ∷ [])

-- the literal of a variable from 1 to n, which was unset, is set with a reason
pub record IsSet (n : ℕ) (clauses : List (List Lit)) (set : List Lit) (l : Lit) (reason : Option ℕ) : Type 0 where
  pub above : 0 < variable l
  pub within : variable l ≤ n
  pub unset : has set l ≡ false
  pub other : has set (negation l) ≡ false
  pub why : HasReason clauses set l reason

-- the invariant of the search: each literal is set with a reason. For a decision that is that what was set before it is closed over all clauses, so each level below the current one is closed
abbrev pub IsTrail : ℕ → List (List Lit) → List Entry → Type 0
IsTrail n clauses [] = Unit {0}
IsTrail n clauses (e ∷ es) = IsSet n clauses (lits_of es) e.lit e.reason × IsTrail n clauses es

-- a literal of the variable is set
abbrev pub is_variable_set : List Entry → ℕ → Bool
is_variable_set [] v = false
is_variable_set (e ∷ es) v = if variable e.lit == v then true else is_variable_set es v

-- how many of the variables from 1 to n are unset
abbrev pub unset : ℕ → List Entry → ℕ
unset Prim.Native.Nat.zero es = 0
unset (suc n) es = if is_variable_set es (suc n) then unset n es else suc (unset n es)
