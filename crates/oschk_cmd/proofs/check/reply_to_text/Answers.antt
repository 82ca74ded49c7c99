use Rattle.oschk_cmd.proofs.Told.{checked_told}
use Rattle.oschk_cmd.proofs.check.reply_to_text.Goals as goal

pub returns-in-Ok-checked-clause-reply : goal.returns-in-Ok-checked-clause-reply
returns-in-Ok-checked-clause-reply c =
    checked_told c.args.text.now c.in-Ok.cert c.in-Ok.ensures.cert c.in-Ok-checked.reply c.in-Ok-checked.ensures.reply
