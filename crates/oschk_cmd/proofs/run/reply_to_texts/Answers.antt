use Rattle.std.specs.Option.{option_copied}
use Rattle.oschk_cmd.proofs.Told.{texts_told, texts_unwritten}
use Rattle.oschk_cmd.proofs.run.reply_to_texts.Goals as goal

pub returns-in-Ok-clause-reply : goal.returns-in-Ok-clause-reply
returns-in-Ok-clause-reply g c =
    texts_told c.args.both.now.oil c.args.both.now.c (option_copied c.args.mode) c.args.bounds c.args.cert.now c.args.made
    (g.D.Desk.state c.args.desk.now) (g.D.Desk.state c.reply_to_prepared.new.desk)
    c.in-Ok.prepared.app c.in-Ok.prepared.code c.in-Ok.ensures.taken c.reply_to_prepared.result c.reply_to_prepared.ensures.reply

pub returns-in-Ok-clause-unwritten : goal.returns-in-Ok-clause-unwritten
returns-in-Ok-clause-unwritten g c =
    texts_unwritten c.args.both.now.oil c.args.both.now.c (option_copied c.args.mode) c.args.bounds c.args.cert.now
    (g.D.Desk.state c.args.desk.now) (g.D.Desk.state c.reply_to_prepared.new.desk)
    c.in-Ok.prepared.app c.in-Ok.prepared.code c.in-Ok.ensures.taken c.reply_to_prepared.result c.reply_to_prepared.ensures.unwritten
