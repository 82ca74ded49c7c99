-- Circuits as lists of clauses, and how they grow: variables and clauses are added, and each new variable but the inputs has exactly one value.
use Rattle.std.specs.Prelude.{◌≡◌, ℕ, ◌+◌, ◌<◌, ◌≤◌, ◌^◌, Bool, true, false, not, List, [], ◌∷◌, ◌++◌, map, length, if◌then◌else◌, nat_lt}
use Rattle.clause_form.specs.declared.lit.Lit.{Lit}
use Rattle.clause_form.specs.Literals.{variable, IsOf, AreOf, are_within}
use Rattle.clause_form.specs.ClauseTruth.{Values, is_lit_true, are_true, Agree}

-- what contracts see of a circuit: the clauses so far, over the variables from 1 to a number
pub record PlainFormula : Type 0 where
  pub variables : ℕ
  pub clauses : List (List Lit)

-- these clauses over so many variables
abbrev pub formula : ℕ → List (List Lit) → PlainFormula
formula n cs = record { variables = n; clauses = cs }

-- more clauses at the end, and no variable
abbrev pub with_clauses : PlainFormula → List (List Lit) → PlainFormula
with_clauses s cs = record { variables = s.variables; clauses = s.clauses ++ cs }

-- the assignment makes the clauses so far true
pub record IsModel (v : Values) (s : PlainFormula) : Type 0 where
  pub holds : are_true v s.clauses ≡ true

-- the new list is the old one with more at its end
pub record IsLonger (old new : List (List Lit)) : Type 0 where
  pub more : List (List Lit)
  pub is : new ≡ old ++ more

-- the assignment goes on to the new variables in exactly one way that gives the free literals these values
pub record GoesOn (old new : PlainFormula) (free : List Lit) (bits : List Bool) (v : Values) : Type 0 where
  pub values : Values
  pub agree : Agree old.variables v values
  pub model : IsModel values new
  pub reads : map (is_lit_true values) free ≡ bits
  pub only : (w : Values) → Agree old.variables v w → IsModel w new → map (is_lit_true w) free ≡ bits → Agree new.variables values w

-- variables and clauses are only added, and each assignment that makes the old clauses true goes on in exactly one way for each choice of values of the free literals
pub record ExtendsWith (old new : PlainFormula) (free : List Lit) : Type 0 where
  pub grows : old.variables ≤ new.variables
  pub adds : IsLonger old.clauses new.clauses
  pub inside : AreOf new.variables free
  pub goes_on : (v : Values) → IsModel v old → (bits : List Bool) → length bits ≡ length free → GoesOn old new free bits v

-- the same with nothing left free
abbrev pub Extends : PlainFormula → PlainFormula → Type 0
Extends old new = ExtendsWith old new []

-- an answer that has this value under every assignment that makes the clauses so far true, with at most so many new variables
pub record Makes (old new : PlainFormula) (answer : Lit) (value : Values → Bool) (most : ℕ) : Type 0 where
  pub extends : Extends old new
  pub inside : IsOf new.variables answer
  pub equal : (v : Values) → IsModel v new → is_lit_true v answer ≡ value v
  pub few : new.variables ≤ old.variables + most

-- the literals of every circuit have its variables, and variable 1 is true
pub record IsCircuit (s : PlainFormula) : Type 0 where
  pub within : are_within s.variables s.clauses ≡ true
  pub starts : 1 ≤ s.variables
  pub one : (v : Values) → IsModel v s → v 1 ≡ true

-- and there are fewer than 2^63 variables
pub record IsRoomy (s : PlainFormula) : Type 0 where
  pub circuit : IsCircuit s
  pub room : s.variables < 2 ^ 63

-- the clause of two literals, the lesser variable first, and a last one
abbrev pub ordered : Lit → Lit → Lit → List Lit
ordered a b last = if nat_lt (variable a) (variable b) then a ∷ b ∷ last ∷ [] else b ∷ a ∷ last ∷ []

-- exclusive or
abbrev pub xor : Bool → Bool → Bool
xor true b = not b
xor false b = b
