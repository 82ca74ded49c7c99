-- Replies that can be reported.
use Rattle.report.specs.Printing as printing
use Rattle.oschk_cmd.specs.declared.reply.Reply.{Reply}
use Rattle.oschk_cmd.specs.Replies.{report_of}

-- the application of a reply is in order, and its code fits it, where it has them
abbrev pub IsFit : Reply → Type 0
IsFit answer = printing.IsFit (report_of answer)
