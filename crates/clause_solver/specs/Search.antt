-- The state of a search, and how it ends.
use Rattle.std.specs.Prelude.{◌≡◌, ℕ, true, false, Option, Result, Ok, Err, List, ◌++◌, IfSome, map, length}
use Rattle.clause_form.specs.declared.lit.Lit.{Lit}
use Rattle.clause_form.specs.declared.line.Line.{Line}
use Rattle.clause_form.specs.Literals.{are_within}
use Rattle.clause_form.specs.ClauseTruth.{Values, are_true, values_of, HasNoModel}
use Rattle.clause_form.specs.DerivedLine.{AreDerived, ends_empty}
use Rattle.clause_form.specs.LearnedLine.{AreLearned, has_empty}
use Rattle.clause_solver.specs.declared.trail.Entry.{Entry}
use Rattle.clause_solver.specs.declared.answer.Answer.{Answer}
use Rattle.clause_solver.specs.declared.answer.Answer.TheVariants.{Model, Refuted, Spent}
use Rattle.clause_solver.specs.declared.answer.SolveFault.{SolveFault}
use Rattle.clause_solver.specs.Answer.{IsLog}
use Rattle.clause_solver.specs.Trail.{IsTrail}

-- a log without an empty line
pub record IsOpenLog (n : ℕ) (formula : List (List Lit)) (limit : ℕ) (lines : List Line) : Type 0 where
  pub log : IsLog n formula limit lines
  pub not_empty : has_empty lines ≡ false

-- the clauses so far are those of the formula and of the kept lines, which are derived and learned, and none is empty
pub record IsLogged (n : ℕ) (formula cs : List (List Lit)) (number : ℕ) (lines : List Line) : Type 0 where
  pub clauses : cs ≡ formula ++ map (λ line. line.clause) lines
  pub count : length lines ≡ number
  pub derived : AreDerived n formula lines
  pub learned : AreLearned formula lines
  pub not_empty : has_empty lines ≡ false

-- the state of a search: its clauses have the models of the formula, and where the keep tells its lines, they are the lines of these clauses
pub record IsSearch (n : ℕ) (formula cs : List (List Lit)) (t : List Entry) (number : ℕ) (lines : Option (List Line)) : Type 0 where
  pub follow : (v : Values) → are_true v formula ≡ true → are_true v cs ≡ true
  pub back : (v : Values) → are_true v cs ≡ true → are_true v formula ≡ true
  pub within : are_within n cs ≡ true
  pub trail : IsTrail n cs t
  pub told : IfSome lines (IsLogged n formula cs number)

-- how a search ends
abbrev pub IsEnd : ℕ → List (List Lit) → ℕ → Result Answer SolveFault → Option (List Line) → Type 0
IsEnd n formula budget (Ok (Model values)) told =
    (are_true (values_of values) formula ≡ true) × (length values ≡ n) × IfSome told (IsOpenLog n formula budget)
IsEnd n formula budget (Ok Refuted) told =
    HasNoModel formula × IfSome told (λ log. IsLog n formula budget log × (ends_empty log ≡ true))
IsEnd n formula budget (Ok Spent) told = IfSome told (λ log. IsOpenLog n formula budget log × (length log ≡ budget))
IsEnd n formula budget (Err fault) told = IfSome told (IsOpenLog n formula budget)
