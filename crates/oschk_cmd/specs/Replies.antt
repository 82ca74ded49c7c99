-- What a reply prints, and how a command ends by it.
use Rattle.std.specs.Prelude.{ℕ, Bool, true, false, if◌then◌else◌, List, Option, Some, None, Result, Ok, Err}
use Rattle.decided_run.specs.declared.decision.Decision.{Decision}
use Rattle.decided_run.specs.declared.decision.Decision.TheVariants as decision
use Rattle.report.specs.declared.reports.CertReport.{CertReport}
use Rattle.report.specs.declared.reports.CertReport.TheVariants as cert
use Rattle.replay.specs.declared.run.ReplayFault.{ReplayFault}
use Rattle.replay.specs.declared.run.ReplayFault.TheVariants as fault
use Rattle.replay.specs.declared.run.Replayed.{Replayed}
use Rattle.answers.specs.declared.verdict.Verdict.{Verdict}
use Rattle.answers.specs.declared.verdict.Verdict.TheVariants as verdict
use Rattle.report.specs.declared.reports.WriteFault.{WriteFault}
use Rattle.report.specs.PrintedTexts.{PlainReport, report_text}
use Rattle.report.specs.PrintedTexts as report
use Rattle.step_ir.specs.declared.event.Choice.{Choice}
use Rattle.step_ir.specs.declared.event.Failure.{Failure}
use Rattle.oschk_cmd.specs.declared.reply.Reply.{Reply}
use Rattle.oschk_cmd.specs.declared.reply.Reply.TheVariants as reply
use Rattle.oschk_cmd.specs.declared.status.Status.{Status}
use Rattle.oschk_cmd.specs.declared.status.Status.TheVariants as status

-- the verdict of a decision, and the events and the choices of the schedule that fails, where there is one
abbrev pub verdict_of : Decision → Verdict
verdict_of decision.Holds = verdict.Holds
verdict_of (decision.Fails failing) = verdict.Fails
verdict_of decision.Undecided = verdict.Undecided

abbrev pub replayed_of : Decision → Option Replayed
replayed_of (decision.Fails failing) = Some failing.replayed
replayed_of _ = None

abbrev pub choices_of : Decision → Option (List Choice)
choices_of (decision.Fails failing) = Some failing.choices
choices_of _ = None

-- the report of a reply
abbrev pub report_of : Reply → PlainReport
report_of reply.Usage = report.Usage
report_of reply.ReadFault = report.ReadFault
report_of reply.OutOfMemory = report.OutOfMemory
report_of (reply.Refused refusal) = report.Refused refusal
report_of (reply.Ran ran) = report.Ran ran.made ran.app ran.code ran.turns 0 (verdict_of ran.decision) (replayed_of ran.decision) (choices_of ran.decision)
report_of (reply.Shown shown) = report.Shown shown.app shown.code
report_of (reply.Rerun rerun) = report.Replay rerun.app rerun.code rerun.result
report_of (reply.Checked lines answer) = report.Checked lines answer

-- what is printed
abbrev pub reply_text : Reply → List ℕ
reply_text answer = report_text (report_of answer)

abbrev pub decision_status : Decision → Status
decision_status decision.Holds = status.Good
decision_status (decision.Fails failing) = status.Fails
decision_status decision.Undecided = status.Undecided

abbrev pub failure_status : Option Failure → Status
failure_status None = status.Good
failure_status (Some failure) = status.Fails

abbrev pub replay_status : Result Replayed ReplayFault → Status
replay_status (Ok replayed) = failure_status replayed.failure
replay_status (Err (fault.NotPermitted step state events)) = status.NotPermitted
replay_status (Err fault.Memory) = status.Memory

abbrev pub check_status : CertReport → Status
check_status (cert.Good v) = status.Good
check_status (cert.BadLine number) = status.NotPermitted
check_status cert.BadVerdict = status.NotPermitted

-- how the command ends where that is written
abbrev pub reply_status : Reply → Status
reply_status reply.Usage = status.Usage
reply_status reply.ReadFault = status.ReadFault
reply_status reply.OutOfMemory = status.Memory
reply_status (reply.Refused refusal) = status.Refused
reply_status (reply.Ran ran) = decision_status ran.decision
reply_status (reply.Shown shown) = status.Good
reply_status (reply.Rerun rerun) = replay_status rerun.result
reply_status (reply.Checked lines answer) = check_status answer

-- a fault keeps its status where its line can't be written
abbrev pub is_fault : Reply → Bool
is_fault reply.Usage = true
is_fault reply.ReadFault = true
is_fault reply.OutOfMemory = true
is_fault _ = false

-- how the command ends after the write
abbrev pub status_after : Reply → Result (Unit {0}) WriteFault → Status
status_after answer (Ok u) = reply_status answer
status_after answer (Err e) = if is_fault answer then reply_status answer else status.WriteFault
