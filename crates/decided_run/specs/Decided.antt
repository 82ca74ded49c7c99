-- What is decided of a run of an application, and how.
use Rattle.std.specs.Prelude.{◌≡◌, ◌≢◌, ℕ, ◌≤◌, ◌⊎◌, true, false, List, length, Some, Ok}
use Rattle.application.specs.declared.app.App.{App}
use Rattle.bounded_check.specs.declared.decide.Verdict.{Verdict}
use Rattle.bounded_check.specs.declared.decide.Verdict.TheVariants as verdict
use Rattle.bounded_check.specs.Verdicts.{NoneFails}
use Rattle.cert_text.specs.declared.front.Bounds.{Bounds}
use Rattle.certified_run.specs.Certified.{HasCertificate, IsCut}
use Rattle.chk_base.specs.Causes.{Rose}
use Rattle.chk_base.specs.declared.desk.PutFault.{PutFault}
use Rattle.chk_base.specs.declared.desk.PutFault.TheVariants.{Failed}
use Rattle.chk_base.specs.Desk.{Append, Begin, Begins, DeskState}
use Rattle.one_run.specs.OneRun.{TakesNoInput}
use Rattle.one_stack.specs.TaskForm.{is_task_form}
use Rattle.replay.specs.Replaying.{events_for, last_failure}
use Rattle.step_ir.specs.declared.code.Code.{Code}
use Rattle.step_ir.specs.PermittedSchedule.{arrivals_in, fails}
use Rattle.decided_run.specs.declared.decision.Decision.{Decision}
use Rattle.decided_run.specs.declared.decision.Decision.TheVariants as decision
use Rattle.decided_run.specs.declared.decision.Failing.{Failing}

-- these choices are a permitted schedule of at most k events and m arrivals, with these events, and with the failure that the last of them is
pub record IsFailingRun (app : App) (code : Code) (k m : ℕ) (failing : Failing) : Type 0 where
  pub replayed : events_for app code failing.choices ≡ Some failing.replayed.events
  pub failure : failing.replayed.failure ≡ last_failure failing.replayed.events
  pub failed : fails failing.replayed.events ≡ true
  pub short : length failing.replayed.events ≤ k
  pub few : arrivals_in failing.choices ≤ m

-- what a decision says of the schedules of an application within the bounds
abbrev pub DecisionMeans : App → Code → ℕ → ℕ → Decision → Type 0
DecisionMeans app code k m decision.Holds = NoneFails app code k m
DecisionMeans app code k m (decision.Fails failing) = IsFailingRun app code k m failing
DecisionMeans app code k m decision.Undecided = Unit {0}

-- a decision is that of a verdict
abbrev pub IsDecisionOf : Verdict → Decision → Type 0
IsDecisionOf verdict.Holds decision.Holds = Unit {0}
IsDecisionOf (verdict.Fails values choices) (decision.Fails failing) = failing.choices ≡ choices
IsDecisionOf verdict.Undecided decision.Undecided = Unit {0}
IsDecisionOf _ _ = ⊥

-- the file of the certificate was begun, and the whole text of one was appended, whose encoding and log are why the decision is so
pub record IsByClauses (app : App) (code : Code) (bounds : Bounds) (cert : List ℕ) (before after : DeskState) (d : Decision) : Type 0 where
  pub form : is_task_form app code ≡ true
  pub begun : DeskState
  pub begins : Begins before begun cert (Ok tt)
  pub verdict : Verdict
  pub certificate : HasCertificate app code bounds begun after verdict
  pub is : IsDecisionOf verdict d

-- the machine has only one run, which decides it; no file was written
pub record IsByOneRun (app : App) (code : Code) (before after : DeskState) (d : Decision) : Type 0 where
  pub form : is_task_form app code ≡ false
  pub no_input : TakesNoInput code
  pub kept : after ≡ before
  pub decided : d ≢ decision.Undecided

-- a run that is decided
pub record IsDecidedRun (app : App) (code : Code) (bounds : Bounds) (cert : List ℕ) (before after : DeskState) (d : Decision) : Type 0 where
  pub by : IsByClauses app code bounds cert before after d ⊎ IsByOneRun app code before after d
  pub means : DecisionMeans app code bounds.turns bounds.arrivals d

-- the run is decided by clauses, the file of its certificate was begun, and it holds no more than a prefix of what belongs there
pub record IsBegun (app : App) (code : Code) (bounds : Bounds) (cert : List ℕ) (before after : DeskState) : Type 0 where
  pub form : is_task_form app code ≡ true
  pub begun : DeskState
  pub begins : Begins before begun cert (Ok tt)
  pub cut : IsCut app code bounds begun after

-- the desk failed at the begin of that file, or at an append to it
pub record HasPutFault (cert : List ℕ) (before after : DeskState) : Type 0 where
  pub rose : Rose before.faults after.faults
  pub last : (after.last_fault ≡ Some (Begin cert)) ⊎ (after.last_fault ≡ Some (Append (Some cert)))

-- a run that isn't decided: what is left in the files, and why
pub record IsUndone (app : App) (code : Code) (bounds : Bounds) (cert : List ℕ) (before after : DeskState) (fault : PutFault) : Type 0 where
  pub left : (after.files ≡ before.files) ⊎ IsBegun app code bounds cert before after
  pub cause : fault ≡ Failed → HasPutFault cert before after
  pub form : fault ≡ Failed → is_task_form app code ≡ true
