use Rattle.std.proofs.lemmas.Result.{err_from_is_err_and}
use Rattle.cert_form.specs.Certificate.{hints, hint_turn}
use Rattle.cert_form.specs.Texts.{tokens}
use Rattle.cert_form.proofs.Readers.{err_of, hint_stop, hint_stuck}
use Rattle.cert_form.proofs.clauses.hints.Goals as goal

pub returns-in_err-item-clause-gives : goal.returns-in_err-item-clause-gives
returns-in_err-item-clause-gives c =
    let p = err_from_is_err_and c.from_residual.result c.from_residual.ensures.1 in
    rw (p.1, p.2) (err_of c.in_err-item.field-0.0 (hints c.args.own) (hint_turn c.args.own) c.args.text.now c.items.rest.now (λ left e. hint_stuck c.args.own ((hints c.args.own).read (tokens c.args.text.now)) c.items.hints (tokens c.items.rest.now) c.items.invariant.so_far left e) c.in_err-item.ensures.gives)

pub returns-in-None-clause-gives : goal.returns-in-None-clause-gives
returns-in-None-clause-gives c = hint_stop c.args.own ((hints c.args.own).read (tokens c.args.text.now)) c.items.hints (tokens c.items.rest.now) c.items.invariant.so_far (tokens c.in_ok-item.after.now) (rw c.in-None.is at c.in_ok-item.ensures.gives)
