use Rattle.oschk_cmd.proofs.Told.{made_told, made_unwritten}
use Rattle.oschk_cmd.proofs.run.reply_to_make.Goals as goal

pub returns-clause-reply : goal.returns-clause-reply
returns-clause-reply g c =
    made_told c.args.make.now (g.D.Desk.state c.args.desk.now) (g.D.Desk.state c.reply_to_texts.new.desk) c.in-Ok.texts.oil c.in-Ok.texts.c c.in-Ok.ensures.oil c.in-Ok.ensures.c
    c.reply_to_texts.result c.reply_to_texts.ensures.reply

pub returns-clause-unwritten : goal.returns-clause-unwritten
returns-clause-unwritten g c =
    made_unwritten c.args.make.now (g.D.Desk.state c.args.desk.now) (g.D.Desk.state c.reply_to_texts.new.desk) c.in-Ok.texts.oil c.in-Ok.texts.c c.in-Ok.ensures.oil c.in-Ok.ensures.c
    c.reply_to_texts.result c.reply_to_texts.ensures.unwritten
