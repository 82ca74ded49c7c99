use Rattle.std.proofs.lemmas.Result.{err_from_is_err_and}
use Rattle.cert_text.proofs.Spilling.{put_and, put_no_memory}
use Rattle.std.proofs.Common.{codes}
use Rattle.cert_text.specs.CertificateParts.{values_text}
use Rattle.cert_text.proofs.rest.put_failure.Goals as goal

pub returns-in_err-append : goal.returns-in_err-append
returns-in_err-append g c =
    let p = err_from_is_err_and c.from_residual.result c.from_residual.ensures.1 in
    rw (p.1, p.2) (put_no_memory _ _ _ _)

pub returns : goal.returns
returns g c = put_and (codes "verdict fails\nmodel ") (values_text c.args.values.now) c.in_ok-append.ensures.ok c.put_values.ensures
