use Rattle.std.proofs.lemmas.Result.{err_from_is_err_and}
use Rattle.cert_text.proofs.Spilling.{put_no_memory, put_and}
use Rattle.cert_text.proofs.front.put_upper.Goals as goal

pub returns-in_err-put_head : goal.returns-in_err-put_head
returns-in_err-put_head g c =
    let p = err_from_is_err_and c.from_residual.result c.from_residual.ensures.1 in
    rw (p.1, p.2) (put_no_memory _ _ _ _)

pub returns : goal.returns
returns g c = put_and _ _ c.in_ok-put_head.ensures c.put_clauses.ensures
