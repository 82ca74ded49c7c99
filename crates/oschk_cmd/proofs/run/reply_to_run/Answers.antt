use Rattle.oschk_cmd.proofs.Told.{run_stopped, run_told, run_unwritten}
use Rattle.oschk_cmd.proofs.run.reply_to_run.Goals as goal

pub returns-in-Ok-clause-reply : goal.returns-in-Ok-clause-reply
returns-in-Ok-clause-reply g c =
    run_told c.args.run.now (g.D.Desk.state c.args.desk.now) (g.D.Desk.state c.fetch_both.new.desk) (g.D.Desk.state c.reply_to_texts.new.desk) c.in-Ok.both.oil c.in-Ok.both.c
    (record { both = c.in-Ok.ensures.both; files = c.in-Ok.ensures.files; current = c.in-Ok.ensures.current; later = c.in-Ok.ensures.later })
    _ c.as_ref.ensures.value c.reply_to_texts.result c.reply_to_texts.ensures.reply

pub returns-in-Ok-clause-unwritten : goal.returns-in-Ok-clause-unwritten
returns-in-Ok-clause-unwritten g c =
    run_unwritten c.args.run.now (g.D.Desk.state c.args.desk.now) (g.D.Desk.state c.fetch_both.new.desk) (g.D.Desk.state c.reply_to_texts.new.desk) c.in-Ok.both.oil c.in-Ok.both.c
    (record { both = c.in-Ok.ensures.both; files = c.in-Ok.ensures.files; current = c.in-Ok.ensures.current; later = c.in-Ok.ensures.later })
    _ c.as_ref.ensures.value c.reply_to_texts.result c.reply_to_texts.ensures.unwritten

pub returns-in-Err-clause-reply : goal.returns-in-Err-clause-reply
returns-in-Err-clause-reply g c = run_stopped c.args.run.now (g.D.Desk.state c.args.desk.now) (g.D.Desk.state c.fetch_both.new.desk) c.in-Err.reply c.in-Err.ensures.files c.in-Err.ensures.none
