-- What is learned from a conflict.
use Rattle.std.specs.Prelude.{◌≡◌, ℕ, ◌<◌, true, false, List, [], ◌∷◌, ◌==◌, max, unwrap_or}
use Rattle.clause_form.specs.declared.lit.Lit.{Lit}
use Rattle.clause_form.specs.declared.line.Line.{Line}
use Rattle.clause_form.specs.Literals.{variable, negation, has, IsClause}
use Rattle.clause_form.specs.DerivedLine.{is_derived, is_empty}
use Rattle.clause_form.specs.LearnedLine.{IsLearned, is_open, is_false}
use Rattle.clause_solver.specs.declared.trail.Entry.{Entry}
use Rattle.clause_solver.specs.Trail.{IsTrail, level_of, lits_of}

-- neither the literal nor its negation is there
pub record IsNew (lits : List Lit) (l : Lit) : Type 0 where
  pub above : 0 < variable l
  pub self : has lits l ≡ false
  pub other : has lits (negation l) ≡ false

-- each literal is new to those after it
abbrev pub AreNew : List Lit → Type 0
AreNew [] = Unit {0}
AreNew (l ∷ ls) = IsNew ls l × AreNew ls

-- the same literals, in the order of a clause
pub record IsSorted (lits clause : List Lit) : Type 0 where
  pub rising : IsClause clause
  pub same : (l : Lit) → has clause l ≡ has lits l

-- one literal of the clause is open, and each other one is false
pub record IsAsserting (set clause : List Lit) : Type 0 where
  pub point : Lit
  pub inside : has clause point ≡ true
  pub unset : is_open set point ≡ true
  pub others : (l : Lit) → has clause l ≡ true → (point.0 == l.0) ≡ false → is_false set l ≡ true

-- a derived and learned line, which is asserting on the trail that is left
pub record IsLearning (clauses : List (List Lit)) (old : List Entry) (line : Line) (new : List Entry) : Type 0 where
  pub derived : (n : ℕ) → IsTrail n clauses old → is_derived n clauses line ≡ true
  pub learned : IsLearned clauses line.clause
  pub some : is_empty line.clause ≡ false
  pub trail : (n : ℕ) → IsTrail n clauses old → IsTrail n clauses new
  pub asserting : IsAsserting (lits_of new) line.clause

-- the greatest level at which a literal of the list became false
abbrev pub greatest_level : List Entry → List Lit → ℕ
greatest_level trail [] = 0
greatest_level trail (l ∷ ls) = max (unwrap_or (level_of trail (negation l)) 0) (greatest_level trail ls)
