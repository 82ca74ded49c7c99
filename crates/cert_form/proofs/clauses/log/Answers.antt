use Rattle.std.proofs.lemmas.Result.{err_from_is_err_and}
use Rattle.cert_form.specs.Certificate.{log, log_turn}
use Rattle.cert_form.specs.Texts.{tokens}
use Rattle.cert_form.proofs.Readers.{err_of, log_stop, log_stuck}
use Rattle.cert_form.proofs.clauses.log.Goals as goal

pub returns-in_err-item-clause-gives : goal.returns-in_err-item-clause-gives
returns-in_err-item-clause-gives c =
    let p = err_from_is_err_and c.from_residual.result c.from_residual.ensures.1 in
    rw (p.1, p.2) (err_of c.in_err-item.field-0.0 (log c.args.variables c.args.first) (log_turn c.args.variables c.items.own) c.args.text.now c.items.rest.now (λ left e. log_stuck c.args.variables c.requires.few ((log c.args.variables c.args.first).read (tokens c.args.text.now)) c.items.log c.items.own (tokens c.items.rest.now) c.items.invariant.so_far left e) c.in_err-item.ensures.gives)

pub returns-in-None-clause-gives : goal.returns-in-None-clause-gives
returns-in-None-clause-gives c = log_stop c.args.variables c.requires.few ((log c.args.variables c.args.first).read (tokens c.args.text.now)) c.items.log c.items.own (tokens c.items.rest.now) c.items.invariant.so_far (tokens c.in_ok-item.after.now) (rw c.in-None.is at c.in_ok-item.ensures.gives)
