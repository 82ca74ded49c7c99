use Rattle.std.proofs.lemmas.Result.{err_from_is_err_and}
use Rattle.cert_text.proofs.Spilling.{followed, stopped}
use Rattle.cert_text.proofs.rest.put_rest.Goals as goal

pub returns-in_err-put_log : goal.returns-in_err-put_log
returns-in_err-put_log g c =
    let p = err_from_is_err_and c.from_residual.result c.from_residual.ensures.1 in
    rw (p.1, p.2) (stopped _ _ _ _ _ _ _ _ c.in_err-put_log.ensures)

pub returns : goal.returns
returns g c = followed _ _ _ _ _ _ _ _ _ c.in_ok-put_log.ensures c.put_ending.ensures
