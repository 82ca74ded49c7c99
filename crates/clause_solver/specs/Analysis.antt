-- The way from a conflict back to its point.
use Rattle.std.specs.Prelude.{◌≡◌, ℕ, ◌<◌, true, false, List, reverse}
use Rattle.clause_form.specs.declared.lit.Lit.{Lit}
use Rattle.clause_form.specs.Literals.{negation, has}
use Rattle.clause_form.specs.DerivedLine.{closes}
use Rattle.clause_form.specs.LearnedLine.{IsConsistent}
use Rattle.clause_solver.specs.declared.trail.Entry.{Entry}
use Rattle.clause_solver.specs.Trail.{lits_of, below, is_newest, IsTrail}
use Rattle.clause_solver.specs.Resolvent.{IsDistinct, IsPart, IsResolvent}

-- a set makes every literal of the resolvent false
pub record Falsifies (trail : List Entry) (seen lower set : List Lit) : Type 0 where
  pub newest : (l : Lit) → is_newest trail l ≡ true → has seen l ≡ true → has set l ≡ true
  pub older : (l : Lit) → has lower l ≡ true → has set (negation l) ≡ true

-- between two steps: `whole` is what was set at the conflict, and `old` what was set before the last decision. The hints so far close from every set that makes the resolvent false
pub record IsAnalysis (clauses : List (List Lit)) (whole : List Lit) (old trail : List Entry) (seen lower : List Lit) (number : ℕ) (hints : List ℕ) : Type 0 where
  pub is_trail : (n : ℕ) × IsTrail n clauses trail
  pub part : IsPart (lits_of trail) whole
  pub consistent : IsConsistent whole
  pub start : below trail ≡ old
  pub resolvent : IsResolvent trail seen lower number
  pub some : 0 < number
  pub derives : (set : List Lit) → Falsifies trail seen lower set → IsPart set whole → closes clauses set (reverse hints) ≡ true

-- the first unique implication point, which was set right after this trail: with the literals of lower levels it closes
pub record IsPoint (clauses : List (List Lit)) (whole : List Lit) (old trail : List Entry) (lower : List Lit) (hints : List ℕ) (point : Lit) : Type 0 where
  pub is_trail : (n : ℕ) × IsTrail n clauses trail
  pub set : has whole point ≡ true
  pub newer : has (lits_of trail) point ≡ false
  pub other : has (lits_of trail) (negation point) ≡ false
  pub older : (l : Lit) → has lower l ≡ true → has (lits_of old) (negation l) ≡ true
  pub start : IsPart (lits_of old) (lits_of trail)
  pub distinct : IsDistinct lower
  pub part : IsPart (lits_of trail) whole
  pub consistent : IsConsistent whole
  pub derives : (set : List Lit) → has set point ≡ true → ((l : Lit) → has lower l ≡ true → has set (negation l) ≡ true) → IsPart set whole → closes clauses set (reverse hints) ≡ true
