use Rattle.std.specs.Option.{option_copied}
use Rattle.text_stages.specs.Prepared.{IsStop}
use Rattle.text_stages.proofs.Stops.{handed_over, read_stop}
use Rattle.text_stages.proofs.Taken.{if_prepared, if_stopped}
use Rattle.text_stages.proofs.prepare.prepare.Goals as goal

pub returns-in_err-texts-clause-stop : goal.returns-in_err-texts-clause-stop
returns-in_err-texts-clause-stop c =
    handed_over (IsStop c.args.oil.now c.args.c.now (option_copied c.args.mode)) c.in_err-texts.field-0.0
    (read_stop c.args.oil.now c.args.c.now (option_copied c.args.mode) c.in_err-texts.field-0.0 c.in_err-texts.ensures.stop)
    c.from_residual.result c.from_residual.ensures.1

pub returns-clause-prepared : goal.returns-clause-prepared
returns-clause-prepared c =
    if_prepared c.args.oil.now c.args.c.now (option_copied c.args.mode) c.in_ok-texts.texts c.in_ok-texts.ensures.read
    c.lowered.result c.lowered.ensures.app c.lowered.ensures.code

pub returns-clause-stop : goal.returns-clause-stop
returns-clause-stop c =
    if_stopped c.args.oil.now c.args.c.now (option_copied c.args.mode) c.in_ok-texts.texts c.in_ok-texts.ensures.read
    c.lowered.result c.lowered.ensures.stop
