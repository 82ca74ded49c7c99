use Rattle.std.specs.Option.{option_copied}
use Rattle.text_stages.specs.Prepared.{IsReadStop}
use Rattle.text_stages.proofs.Stops.{handed_over, rule_stop}
use Rattle.text_stages.proofs.read.read_texts.Goals as goal

pub returns-in_err-unit-clause-stop : goal.returns-in_err-unit-clause-stop
returns-in_err-unit-clause-stop c =
    let stop =
    rule_stop c.args.oil.now c.args.c.now (option_copied c.args.mode) c.in_ok-tree.tree c.in_ok-app.app
    (record { tree_is = c.in_ok-tree.ensures.tree; app_is = c.in_ok-app.ensures.app; accepted = c.in_ok-app.ensures.accepted })
    c.in_ok-tokens.tokens c.in_ok-tokens.ensures.tokens c.in_ok-written.written c.in_ok-written.ensures.unit
    c.in_err-unit.field-0.0 c.in_err-unit.ensures.stop
    in
    handed_over (IsReadStop c.args.oil.now c.args.c.now (option_copied c.args.mode)) c.in_err-unit.field-0.0 stop
    c.from_residual-in_err-unit.result c.from_residual-in_err-unit.ensures.1
