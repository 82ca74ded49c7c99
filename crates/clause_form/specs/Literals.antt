-- Literals and lists of them.
use Rattle.std.specs.Prelude.{◌≡◌, ℕ, ◌+◌, ◌-◌, ◌*◌, ◌/◌, ◌%◌, ◌≤◌, Bool, true, false, ◌&&◌, ◌||◌, ◌==◌, List, [], ◌∷◌, if◌then◌else◌, nat_lt, nat_le}
use Rattle.clause_form.specs.declared.lit.Lit.{Lit}

-- the variable that a literal speaks of
unfoldable pub variable : Lit → ℕ
variable l = l.0 / 2

-- it is the variable, and not its negation
unfoldable pub is_positive : Lit → Bool
is_positive l = (l.0 % 2) == 0

-- the other literal of the same variable
unfoldable pub negation : Lit → Lit
negation l = if is_positive l then record { 0 = l.0 + 1 } else record { 0 = l.0 - 1 }

-- the literal that is a variable
abbrev pub literal : ℕ → Lit
literal n = record { 0 = 2 * n }

-- the literal's variable is from 1 to this number
pub record IsOf (n : ℕ) (l : Lit) : Type 0 where
  pub least : 1 ≤ variable l
  pub most : variable l ≤ n

-- and so is that of each literal of a list
abbrev pub AreOf : ℕ → List Lit → Type 0
AreOf n [] = Unit {0}
AreOf n (l ∷ ls) = IsOf n l × AreOf n ls

-- a list contains a literal
abbrev pub has : List Lit → Lit → Bool
has [] l = false
has (x ∷ xs) l = (x.0 == l.0) || has xs l

-- the variables rise strictly, and the first is above this number
abbrev pub rises_above : ℕ → List Lit → Bool
rises_above k [] = true
rises_above k (l ∷ ls) = nat_lt k (variable l) && rises_above (variable l) ls

-- a clause: its variables rise strictly, from 1 or above
abbrev pub IsClause : List Lit → Type 0
IsClause ls = rises_above 0 ls ≡ true

-- the variable of the last literal, and where there is none this number
abbrev pub last_variable : ℕ → List Lit → ℕ
last_variable k [] = k
last_variable k (l ∷ ls) = last_variable (variable l) ls

-- each literal's variable is from 1 to this number, as a test
abbrev pub is_within : ℕ → List Lit → Bool
is_within n [] = true
is_within n (l ∷ ls) = (nat_lt 0 (variable l) && nat_le (variable l) n) && is_within n ls

-- each list is a clause whose variables are from 1 to this number, as a test
abbrev pub are_within : ℕ → List (List Lit) → Bool
are_within n [] = true
are_within n (c ∷ cs) = (rises_above 0 c && is_within n c) && are_within n cs
