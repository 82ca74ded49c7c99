use Rattle.std.proofs.lemmas.Result.{err_from_is_err_and}
use Rattle.cert_text.proofs.Spilling.{followed, stopped}
use Rattle.cert_text.proofs.front.put_lower.Goals as goal

pub returns-in_err-put_middle : goal.returns-in_err-put_middle
returns-in_err-put_middle g c =
    let p = err_from_is_err_and c.from_residual.result c.from_residual.ensures.1 in
    rw (p.1, p.2) (stopped _ _ _ _ _ _ _ _ c.in_err-put_middle.ensures)

pub returns : goal.returns
returns g c = followed _ _ _ _ _ _ _ _ _ c.in_ok-put_middle.ensures c.put_tables.ensures
