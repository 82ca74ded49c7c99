use Rattle.std.proofs.Common.{sym, subst, ◌∙◌, ap}
use Rattle.report.specs.Printing as printing
use Rattle.report.specs.PrintedTexts.{PlainReport, report_text}
use Rattle.oschk_cmd.specs.Replies.{status_after}
use Rattle.oschk_cmd.proofs.Replies.{fault_status, write_status}
use Rattle.oschk_cmd.proofs.command.write_reply.Goals as goal

pub write_report-requires : goal.write_report-requires
write_report-requires g c = record { fit = subst printing.IsFit (sym c.report_of.ensures) c.requires.fit }

pub returns-in-Ok : goal.returns-in-Ok
returns-in-Ok g c =
    record {
      result = c.write_report.result;
      written =
          subst
          (λ (report : PlainReport). printing.Prints (g.S.Sink.state c.args.out.now) (g.S.Sink.state c.write_report.new.out) (report_text report) c.write_report.result)
          c.report_of.ensures
          c.write_report.ensures;
      status = c.status_of.ensures ∙ ap (status_after c.args.reply.now) (sym c.in-Ok.is);
    }

pub returns-then-is_fault : goal.returns-then-is_fault
returns-then-is_fault g c =
    record {
      result = c.write_report.result;
      written =
          subst
          (λ (report : PlainReport). printing.Prints (g.S.Sink.state c.args.out.now) (g.S.Sink.state c.write_report.new.out) (report_text report) c.write_report.result)
          c.report_of.ensures
          c.write_report.ensures;
      status =
          c.status_of-then-is_fault.ensures
          ∙ (fault_status c.args.reply.now c.in-Err.field-0 (sym c.is_fault.ensures ∙ c.if-is_fault.true)
          ∙ ap (status_after c.args.reply.now) (sym c.in-Err.is));
    }

pub returns-else-is_fault : goal.returns-else-is_fault
returns-else-is_fault g c =
    record {
      result = c.write_report.result;
      written =
          subst
          (λ (report : PlainReport). printing.Prints (g.S.Sink.state c.args.out.now) (g.S.Sink.state c.write_report.new.out) (report_text report) c.write_report.result)
          c.report_of.ensures
          c.write_report.ensures;
      status =
          write_status c.args.reply.now c.in-Err.field-0 (sym c.is_fault.ensures ∙ c.if-is_fault.false)
          ∙ ap (status_after c.args.reply.now) (sym c.in-Err.is);
    }
