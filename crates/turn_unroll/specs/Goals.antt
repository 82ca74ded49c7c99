-- The goal: the failure literals of all turns as a clause.
use Rattle.std.specs.Prelude.{ℕ, if◌then◌else◌, nat_lt, List, [], ◌∷◌, ◌++◌}
use Rattle.clause_form.specs.declared.lit.Lit.{Lit}
use Rattle.clause_form.specs.Literals.{has, variable}
use Rattle.turn_law.specs.Building.{free_of}
use Rattle.turn_law.specs.Symbol.{no}

-- the failure literal of one more turn: one whose variable isn't above those before is never true
abbrev pub failure_with : ℕ → Lit → Lit
failure_with last failure = if nat_lt last (variable failure) then failure else no

-- the greatest variable of a failure literal, with one more turn
abbrev pub last_with : ℕ → Lit → ℕ
last_with last failure = if nat_lt last (variable failure) then variable failure else last

-- the literal that is false, where it is one of them
abbrev pub front_of : List Lit → List Lit
front_of failures = if has failures no then no ∷ [] else []

-- these literals as a clause, in which the one that is false stands once
abbrev pub goal_of : List Lit → List Lit
goal_of failures = front_of failures ++ free_of failures
