-- What the check of a certificate answers.
use Rattle.std.specs.Prelude.{◌≡◌, ℕ, ◌+◌, Bool, true, false, not, ◌&&◌, ◌==◌, Option, Some, None, List, [], ◌∷◌, ◌++◌, length, if◌then◌else◌}
use Rattle.clause_form.specs.declared.lit.Lit.{Lit}
use Rattle.clause_form.specs.declared.line.Line.{Line}
use Rattle.clause_form.specs.ClauseTruth.{are_true, values_of}
use Rattle.clause_form.specs.DerivedLine.{is_derived, ends_empty}
use Rattle.clause_form.specs.LearnedLine.{has_empty}
use Rattle.proof_check.specs.declared.cert.Cert.{Cert}
use Rattle.answers.specs.declared.verdict.Verdict.{Verdict}
use Rattle.answers.specs.declared.verdict.Verdict.TheVariants.{Holds, Fails, Undecided}
use Rattle.proof_check.specs.declared.check.CertAnswer.{CertAnswer}
use Rattle.proof_check.specs.declared.check.CertAnswer.TheVariants.{Good, BadLine, BadVerdict}

-- the formula's clauses, and the goal after them
abbrev pub clauses_of : Cert → List (List Lit)
clauses_of cert = cert.formula.clauses ++ cert.goal ∷ []

-- the number of the first line that isn't derived from the clauses and the lines before it; the lines are numbered from here on
abbrev pub first_bad : ℕ → ℕ → List (List Lit) → List Line → Option ℕ
first_bad number n clauses [] = None
first_bad number n clauses (line ∷ lines) =
    if is_derived n clauses line then first_bad (number + 1) n (clauses ++ line.clause ∷ []) lines else Some number

-- there is a model, and it makes the clauses true
abbrev pub is_model : Option (List Bool) → List (List Lit) → Bool
is_model None clauses = false
is_model (Some values) clauses = are_true (values_of values) clauses

-- a verdict fits a certificate whose lines are all derived
abbrev pub fits : Verdict → Cert → Bool
fits Holds cert = ends_empty cert.log
fits Fails cert = is_model cert.model (clauses_of cert) && not (has_empty cert.log)
fits Undecided cert = (length cert.log == cert.budget) && not (has_empty cert.log)

-- the answer, given the first bad line
abbrev pub answer_by : Option ℕ → Cert → CertAnswer
answer_by (Some number) cert = BadLine number
answer_by None cert = if fits cert.verdict cert then Good cert.verdict else BadVerdict

abbrev pub answer_of : Cert → CertAnswer
answer_of cert = answer_by (first_bad 1 cert.formula.variables (clauses_of cert) cert.log) cert

-- the given values make the formula and the goal true
pub record HasModel (cert : Cert) : Type 0 where
  pub values : List Bool
  pub given : cert.model ≡ Some values
  pub makes_true : are_true (values_of values) (clauses_of cert) ≡ true
