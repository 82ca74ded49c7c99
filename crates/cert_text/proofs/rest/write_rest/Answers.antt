use Rattle.std.proofs.lemmas.Result.{err_from_is_err_and}
use Rattle.cert_text.proofs.Spilling.{cut_off, finished}
use Rattle.cert_text.proofs.rest.write_rest.Goals as goal

pub returns-in_err-put_rest : goal.returns-in_err-put_rest
returns-in_err-put_rest g c =
    let p = err_from_is_err_and c.from_residual.result c.from_residual.ensures.1 in
    rw (p.1, p.2) (cut_off c.requires c.new-held.ensures c.in_err-put_rest.ensures)

pub returns : goal.returns
returns g c = finished c.requires c.new-held.ensures c.in_ok-put_rest.ensures c.as_bytes.ensures c.append_all.ensures
