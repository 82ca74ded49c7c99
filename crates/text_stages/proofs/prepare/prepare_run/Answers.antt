use Rattle.std.specs.Option.{option_copied}
use Rattle.text_stages.specs.declared.stop.Stop.TheVariants.{Refused}
use Rattle.text_stages.specs.Prepared.{IsRunStop}
use Rattle.text_stages.proofs.Stops.{handed_over, read_run_stop, count_run_stop, form_refusal}
use Rattle.text_stages.proofs.Taken.{past, taken}
use Rattle.text_stages.proofs.prepare.prepare_run.Goals as goal

pub returns-in_err-texts-clause-stop : goal.returns-in_err-texts-clause-stop
returns-in_err-texts-clause-stop c =
    handed_over (IsRunStop c.args.oil.now c.args.c.now (option_copied c.args.mode) c.args.turns) c.in_err-texts.field-0.0
    (read_run_stop c.args.oil.now c.args.c.now (option_copied c.args.mode) c.args.turns c.in_err-texts.field-0.0 c.in_err-texts.ensures.stop)
    c.from_residual.result c.from_residual.ensures.1

pub returns-in_err-check_form-clause-stop : goal.returns-in_err-check_form-clause-stop
returns-in_err-check_form-clause-stop c =
    let refused =
    form_refusal c.args.oil.now c.args.c.now (option_copied c.args.mode) c.in_ok-texts.texts c.in_ok-texts.ensures.read
    c.args.turns c.in_err-check_form.field-0.0 c.in_err-check_form.ensures.refused
    in
    handed_over (IsRunStop c.args.oil.now c.args.c.now (option_copied c.args.mode) c.args.turns) (Refused c.in_err-check_form.field-0.0) refused
    c.from_residual-in_err-check_form.result c.from_residual-in_err-check_form.ensures.1

pub returns-in_err-prepared-clause-stop : goal.returns-in_err-prepared-clause-stop
returns-in_err-prepared-clause-stop c =
    let stop =
    count_run_stop c.args.oil.now c.args.c.now (option_copied c.args.mode) c.in_ok-texts.texts c.in_ok-texts.ensures.read
    c.in_ok-check_form.ensures.taken c.args.turns c.in_err-prepared.field-0.0 c.in_err-prepared.ensures.stop
    in
    handed_over (IsRunStop c.args.oil.now c.args.c.now (option_copied c.args.mode) c.args.turns) c.in_err-prepared.field-0.0 stop
    c.from_residual-in_err-prepared.result c.from_residual-in_err-prepared.ensures.1

pub returns-in_err-check_limits-clause-stop : goal.returns-in_err-check_limits-clause-stop
returns-in_err-check_limits-clause-stop c =
    let refused =
    past c.args.oil.now c.args.c.now (option_copied c.args.mode) c.in_ok-texts.texts c.in_ok-texts.ensures.read
    c.in_ok-check_form.ensures.taken c.in_ok-prepared.prepared c.in_ok-prepared.ensures.app c.in_ok-prepared.ensures.code
    c.args.turns c.in_err-check_limits.field-0.0 c.in_err-check_limits.ensures.refused
    in
    handed_over (IsRunStop c.args.oil.now c.args.c.now (option_copied c.args.mode) c.args.turns) (Refused c.in_err-check_limits.field-0.0) refused
    c.from_residual-in_err-check_limits.result c.from_residual-in_err-check_limits.ensures.1

pub returns-clause-taken : goal.returns-clause-taken
returns-clause-taken c =
    taken c.args.oil.now c.args.c.now (option_copied c.args.mode) c.in_ok-texts.texts c.in_ok-texts.ensures.read
    c.in_ok-check_form.ensures.taken c.in_ok-prepared.prepared c.in_ok-prepared.ensures.app c.in_ok-prepared.ensures.code
    c.args.turns c.in_ok-check_limits.ensures.within
