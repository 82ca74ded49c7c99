-- The text of each report.
use Rattle.std.specs.Prelude.{ℕ, List, Option, Result, codes}
use Rattle.std.specs.Option.{option_copied}
use Rattle.application.specs.declared.app.App.{App}
use Rattle.step_ir.specs.declared.code.Code.{Code}
use Rattle.step_ir.specs.declared.event.Choice.{Choice}
use Rattle.report.specs.declared.reports.CertReport.{CertReport}
use Rattle.answers.specs.declared.refusal.Refusal.{Refusal}
use Rattle.replay.specs.declared.run.ReplayFault.{ReplayFault}
use Rattle.replay.specs.declared.run.Replayed.{Replayed}
use Rattle.report.specs.declared.reports.Report.{Report}
use Rattle.report.specs.declared.reports.Report.TheVariants as of
use Rattle.answers.specs.declared.verdict.Verdict.{Verdict}
use Rattle.report.specs.CheckTexts.{check_text}
use Rattle.report.specs.Lines.{line}
use Rattle.report.specs.RefusalTexts.{refusal_text}
use Rattle.report.specs.ReplayTexts.{replay_text}
use Rattle.report.specs.RunTexts.{run_text}
use Rattle.report.specs.ShowTexts.{show_text}

-- what there is to report
pub data PlainReport : Type 0 where
  -- the number that the application was made from, if it was; its code, the bounds on turns and arrivals, the verdict, and a schedule's events and choices
  Ran : Option ℕ → App → Code → ℕ → ℕ → Verdict → Option Replayed → Option (List Choice) → PlainReport
  Shown : App → Code → PlainReport
  Replay : App → Code → Result Replayed ReplayFault → PlainReport
  -- the number of the log's lines, and the answer
  Checked : ℕ → CertReport → PlainReport
  Refused : Refusal → PlainReport
  Usage : PlainReport
  ReadFault : PlainReport
  OutOfMemory : PlainReport

-- a report without where its parts lie in memory
abbrev pub plain_report : Report → PlainReport
plain_report (of.Ran made app code turns arrivals verdict replayed choices) =
    Ran made app.now code.now turns arrivals verdict (option_copied replayed) (option_copied choices)
plain_report (of.Shown app code) = Shown app.now code.now
plain_report (of.Replay app code result) = Replay app.now code.now result.now
plain_report (of.Checked lines answer) = Checked lines answer
plain_report (of.Refused refusal) = Refused refusal
plain_report of.Usage = Usage
plain_report of.ReadFault = ReadFault
plain_report of.OutOfMemory = OutOfMemory

abbrev pub report_text : PlainReport → List ℕ
report_text (Ran made app code turns arrivals verdict replayed choices) = run_text made app code turns arrivals verdict replayed choices
report_text (Shown app code) = show_text app code
report_text (Replay app code result) = replay_text app code result
report_text (Checked lines answer) = check_text lines answer
report_text (Refused refusal) = refusal_text refusal
report_text Usage = line (codes "oschk: usage")
report_text ReadFault = line (codes "oschk: read fault")
report_text OutOfMemory = line (codes "oschk: out of memory")
