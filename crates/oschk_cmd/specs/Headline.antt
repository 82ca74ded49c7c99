-- The headline: what a verdict says of the texts that the words name, over every permitted schedule.
use Rattle.std.specs.Prelude.{◌≡◌, ℕ, ◌≤◌, ◌^◌, ◌⊎◌, true, List, length, Option, None}
use Rattle.app_generator.specs.Generated.{generated_c, generated_oil}
use Rattle.application.specs.declared.app.App.{App}
use Rattle.bounded_check.specs.Verdicts.{NoneFails}
use Rattle.cert_law.specs.Accepted.{IsAccepted}
use Rattle.cert_text.specs.declared.front.Bounds.{Bounds}
use Rattle.certified_run.specs.Certified.{ending_by, text_with}
use Rattle.chk_base.specs.Desk.{DeskState}
use Rattle.command_words.specs.Asked.{IsMake, IsRun}
use Rattle.command_words.specs.declared.asked.MakeWords.{MakeWords}
use Rattle.command_words.specs.declared.asked.RunWords.{RunWords}
use Rattle.decided_run.specs.Decided.{IsByClauses, IsDecidedRun}
use Rattle.decided_run.specs.declared.decision.Decision.{Decision}
use Rattle.decided_run.specs.declared.decision.Decision.TheVariants as decision
use Rattle.decided_run.specs.declared.decision.Failing.{Failing}
use Rattle.step_ir.specs.declared.code.Code.{Code}
use Rattle.step_ir.specs.PermittedSchedule.{IsSchedule, fails}
use Rattle.step_ir.specs.Points.{start_bits}
use Rattle.step_ir.specs.PointStep.{behaviour_of}
use Rattle.step_ir.specs.Setting.{setting_of}
use Rattle.text_stages.specs.Prepared.{IsTakenForRun}
use Rattle.oschk_cmd.specs.Fetched.{AreFetched}
use Rattle.oschk_cmd.specs.Runs.{bounds_of}

-- what a run is of: two texts in a mode, its bound on turns and its budget, and the name of its certificate
pub record RunOf : Type 0 where
  pub oil : List ℕ
  pub c : List ℕ
  pub mode : Option (List ℕ)
  pub turns : ℕ
  pub budget : ℕ
  pub cert : List ℕ

-- the words ask for this run of two texts, which the desk has, if it tells its files; after their fetches it is so
pub record NamesRun (words : List (List ℕ)) (desk fetched : DeskState) (of : RunOf) : Type 0 where
  pub run : RunWords
  pub is_run : IsRun words run
  pub texts : AreFetched run.oil run.c of.oil of.c desk fetched
  pub mode_is : of.mode ≡ run.mode
  pub turns_are : of.turns ≡ run.turns
  pub budget_is : of.budget ≡ run.budget
  pub cert_is : of.cert ≡ run.cert

-- the words ask for this run of the two texts that belong to a number; none is fetched
pub record NamesMade (words : List (List ℕ)) (desk fetched : DeskState) (of : RunOf) : Type 0 where
  pub make : MakeWords
  pub is_make : IsMake words make
  pub oil_is : of.oil ≡ generated_oil make.number
  pub c_is : of.c ≡ generated_c make.number make.arrivals
  pub kept : fetched ≡ desk
  pub mode_is : of.mode ≡ None
  pub turns_are : of.turns ≡ make.turns
  pub budget_is : of.budget ≡ make.budget
  pub cert_is : of.cert ≡ make.cert

-- the words ask for a run of at most k steps over two texts, which mean this application and this code, and it was decided so: by clauses, with
-- its certificate in the file that the words name, or by the only run
pub record Decides (words : List (List ℕ)) (before after : DeskState) (app : App) (code : Code) (k : ℕ) (d : Decision) : Type 0 where
  pub of : RunOf
  pub fetched : DeskState
  pub names : NamesRun words before fetched of ⊎ NamesMade words before fetched of
  pub turns_are : of.turns ≡ k
  pub prepared : IsTakenForRun of.oil of.c of.mode k app code
  pub decided : IsDecidedRun app code (bounds_of k of.budget) of.cert fetched after d

-- the check of certificates accepts the text that was written by a run that is decided by clauses, if it has at most 2^30 bytes
abbrev pub IsChecked : (app : App) (code : Code) (bounds : Bounds) (cert : List ℕ) (before after : DeskState) (d : Decision) → IsByClauses app code bounds cert before after d → Type 0
IsChecked app code bounds cert before after d by =
    let text = text_with app bounds by.certificate.encoding by.certificate.labels by.certificate.log (ending_by by.verdict) in
    length text ≤ 2 ^ 30 → IsAccepted text by.verdict

-- that is so of every run that the words decide by clauses
abbrev pub AreChecked : List (List ℕ) → DeskState → DeskState → Type 0
AreChecked words before after =
    (app : App) (code : Code) (k : ℕ) (d : Decision) (decides : Decides words before after app code k d)
    (by : IsByClauses app code (bounds_of k decides.of.budget) decides.of.cert decides.fetched after d)
    → IsChecked app code (bounds_of k decides.of.budget) decides.of.cert decides.fetched after d by

-- no permitted schedule of at most k events without arrivals fails
pub record Holds (words : List (List ℕ)) (before after : DeskState) : Type 0 where
  pub app : App
  pub code : Code
  pub k : ℕ
  pub decides : Decides words before after app code k decision.Holds
  pub none : NoneFails app code k 0

-- a permitted schedule of at most k events without arrivals fails
pub record HasFailed (words : List (List ℕ)) (before after : DeskState) : Type 0 where
  pub app : App
  pub code : Code
  pub k : ℕ
  pub failing : Failing
  pub decides : Decides words before after app code k (decision.Fails failing)
  pub schedule : IsSchedule (setting_of app) (behaviour_of code) (start_bits code) k 0 failing.replayed.events
  pub failed : fails failing.replayed.events ≡ true

-- as many lines as the budget were learned, and the certificate in the file that the words name has them
pub record IsUndecided (words : List (List ℕ)) (before after : DeskState) : Type 0 where
  pub app : App
  pub code : Code
  pub k : ℕ
  pub decides : Decides words before after app code k decision.Undecided
  pub clauses : IsByClauses app code (bounds_of k decides.of.budget) decides.of.cert decides.fetched after decision.Undecided
