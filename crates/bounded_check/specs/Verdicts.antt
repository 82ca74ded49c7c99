-- What verdicts say: of a formula with its goal, and of the schedules of an application.
use Rattle.std.specs.Prelude.{◌≡◌, ℕ, ◌≤◌, Bool, true, false, List, [], ◌∷◌, ◌++◌, length, Some}
use Rattle.application.specs.declared.app.App.{App}
use Rattle.application.specs.InOrder.{IsInOrder}
use Rattle.bounded_check.specs.declared.decide.Verdict.{Verdict}
use Rattle.bounded_check.specs.declared.decide.Verdict.TheVariants.{Holds, Fails, Undecided}
use Rattle.bounded_check.specs.Depicts.{Depicts, choices_read}
use Rattle.clause_form.specs.declared.line.Line.{Line}
use Rattle.clause_form.specs.declared.lit.Lit.{Lit}
use Rattle.clause_form.specs.ClauseTruth.{HasNoModel, are_true, values_of}
use Rattle.clause_form.specs.DerivedLine.{ends_empty}
use Rattle.clause_form.specs.LearnedLine.{IsSpent, has_empty}
use Rattle.clause_solver.specs.declared.answer.Answer.{Answer}
use Rattle.clause_solver.specs.declared.answer.Answer.TheVariants.{Model, Refuted, Spent}
use Rattle.one_stack.specs.declared.label.Label.{Label}
use Rattle.step_ir.specs.declared.code.Code.{Code}
use Rattle.step_ir.specs.declared.event.Choice.{Choice}
use Rattle.step_ir.specs.declared.event.Event.{Event}
use Rattle.step_ir.specs.PermittedSchedule.{IsSchedule, arrivals_in, events_from, fails}
use Rattle.step_ir.specs.Points.{start_bits}
use Rattle.step_ir.specs.PointStep.{behaviour_of}
use Rattle.step_ir.specs.SchedulerStep.{start}
use Rattle.step_ir.specs.Setting.{setting_of}
use Rattle.turn_encoding.specs.Encodings.{PlainEncoding}

-- the formula's clauses, and the goal after them
abbrev pub with_goal : PlainEncoding → List (List Lit)
with_goal e = e.formula.clauses ++ e.goal ∷ []

-- the values make the formula and the goal true, and the literals give these choices under them
pub record IsRead (e : PlainEncoding) (labels : List Label) (values : List Bool) (choices : List Choice) : Type 0 where
  pub count : length values ≡ e.formula.variables
  pub model : are_true (values_of values) (with_goal e) ≡ true
  pub chosen : choices ≡ choices_read e labels (values_of values)

-- why this is the verdict of an encoding by a log of lines: it ends in its only empty line, and no assignment makes the formula and the goal
-- true; or there is a model; or as many lines as the budget are learned
abbrev pub IsDecided : PlainEncoding → List Label → ℕ → List Line → Verdict → Type 0
IsDecided e labels budget log Holds = HasNoModel (with_goal e) × (ends_empty log ≡ true)
IsDecided e labels budget log (Fails values choices) = IsRead e labels values choices × (has_empty log ≡ false)
IsDecided e labels budget log Undecided = IsSpent e.formula.variables (with_goal e) log budget

-- the verdict that an answer of the search makes: none fails where there is no model, and a model gives its values and choices
abbrev pub IsTold : PlainEncoding → List Label → Answer → Verdict → Type 0
IsTold e labels Refuted Holds = Unit {0}
IsTold e labels (Model given) (Fails values choices) = (values ≡ given) × (choices ≡ choices_read e labels (values_of given))
IsTold e labels Spent Undecided = Unit {0}
IsTold e labels _ _ = ⊥

-- no permitted schedule of at most k events and m arrivals fails
abbrev pub NoneFails : App → Code → ℕ → ℕ → Type 0
NoneFails app code k m =
    (events : List Event) → IsSchedule (setting_of app) (behaviour_of code) (start_bits code) k m events → fails events ≡ false

-- these choices are a permitted schedule of at most k events and m arrivals, and its last event is a failure
pub record IsFailing (app : App) (code : Code) (k m : ℕ) (choices : List Choice) : Type 0 where
  pub events : List Event
  pub permitted : events_from (setting_of app) (behaviour_of code) choices (start (setting_of app) (behaviour_of code) (start_bits code)) ≡ Some events
  pub short : length events ≤ k
  pub few : arrivals_in choices ≤ m
  pub failed : fails events ≡ true

-- what a verdict says of the schedules of an application within the bounds
abbrev pub Means : App → Code → ℕ → ℕ → Verdict → Type 0
Means app code k m Holds = NoneFails app code k m
Means app code k m (Fails values choices) = IsFailing app code k m choices
Means app code k m Undecided = Unit {0}

-- a verdict says that of every application that the encoding depicts, with the same bounds
abbrev pub MeansWhatIsDepicted : PlainEncoding → List Label → Verdict → Type 0
MeansWhatIsDepicted e labels verdict =
    (app : App) (code : Code) (k m : ℕ) → IsInOrder app → Depicts e labels (setting_of app) (behaviour_of code) (start_bits code) k m → Means app code k m verdict
