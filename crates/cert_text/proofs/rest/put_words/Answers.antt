use Rattle.std.proofs.Common.{refl}
use Rattle.std.proofs.lemmas.Result.{err_from_is_err_and}
use Rattle.cert_text.proofs.Spilling.{held_more, put_no_memory}
use Rattle.cert_text.proofs.rest.put_words.Goals as goal

pub returns-in_err-append : goal.returns-in_err-append
returns-in_err-append g c =
    let p = err_from_is_err_and c.from_residual.result c.from_residual.ensures.1 in
    rw (p.1, p.2) (put_no_memory _ _ _ _)

pub returns : goal.returns
returns g c = held_more _ _ _ _ c.in_ok-append.ensures.ok
