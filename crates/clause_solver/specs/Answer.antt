-- What the answer of a search says, of the formula and of the lines that were kept.
use Rattle.std.specs.Prelude.{◌≡◌, ℕ, ◌≤◌, true, false, Result, Ok, Err, List, length}
use Rattle.clause_form.specs.declared.lit.Lit.{Lit}
use Rattle.clause_form.specs.declared.line.Line.{Line}
use Rattle.clause_form.specs.ClauseTruth.{are_true, values_of, HasNoModel}
use Rattle.clause_form.specs.DerivedLine.{AreDerived, ends_empty}
use Rattle.clause_form.specs.LearnedLine.{AreLearned, has_empty}
use Rattle.clause_solver.specs.declared.answer.Answer.{Answer}
use Rattle.clause_solver.specs.declared.answer.Answer.TheVariants.{Model, Refuted, Spent}
use Rattle.clause_solver.specs.declared.answer.SolveFault.{SolveFault}

-- a model makes every clause true, and a refutation means that no assignment does
abbrev pub IsAnswer : ℕ → List (List Lit) → Answer → Type 0
IsAnswer n formula (Model values) = (length values ≡ n) × (are_true (values_of values) formula ≡ true)
IsAnswer n formula Refuted = HasNoModel formula
IsAnswer n formula Spent = Unit {0}

-- the kept lines are derived, each but an empty one is learned, and there are at most so many
pub record IsLog (n : ℕ) (formula : List (List Lit)) (limit : ℕ) (log : List Line) : Type 0 where
  pub derived : AreDerived n formula log
  pub learned : AreLearned formula log
  pub few : length log ≤ limit

-- after a refutation the last line is empty and no other is; after anything else none is
abbrev pub EndsAs : Result Answer SolveFault → List Line → Type 0
EndsAs (Ok Refuted) log = ends_empty log ≡ true
EndsAs (Ok (Model values)) log = has_empty log ≡ false
EndsAs (Ok Spent) log = has_empty log ≡ false
EndsAs (Err fault) log = has_empty log ≡ false
