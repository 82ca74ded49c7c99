use Rattle.std.proofs.Common.{codes}
use Rattle.std.proofs.lemmas.Result.{err_from_is_err_and}
use Rattle.cert_text.proofs.Spilling.{no_memory, stopped, then_held}
use Rattle.cert_text.proofs.rest.put_values.Goals as goal
use Rattle.cert_text.specs.Parts.{parts_from, value_text}

pub returns-in_err-put_model : goal.returns-in_err-put_model
returns-in_err-put_model g c =
    let p = err_from_is_err_and c.from_residual.result c.from_residual.ensures.1 in
    rw (p.1, p.2) (stopped _ _ _ _ _ _ (codes "0\nend\n") _ c.in_err-put_model.ensures)

pub returns-in_err-append : goal.returns-in_err-append
returns-in_err-append g c =
    let p = err_from_is_err_and c.from_residual-in_err-append.result c.from_residual-in_err-append.ensures.1 in
    rw (p.1, p.2) (no_memory _ _ _ _ _ _ (codes "0\nend\n") c.in_ok-put_model.ensures)

pub returns : goal.returns
returns g c = then_held (parts_from value_text 1 c.args.values.now) (codes "0\nend\n") c.in_ok-put_model.ensures c.in_ok-append.ensures.ok
