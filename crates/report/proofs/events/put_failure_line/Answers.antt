use Rattle.std.proofs.lemmas.Result.{err_from_is_err_and}
use Rattle.report.proofs.Printing.{prints_cut, prints_failed, prints_then}
use Rattle.report.proofs.events.put_failure_line.Goals as goal

pub returns-in_err-put : goal.returns-in_err-put
returns-in_err-put g c =
    let p = err_from_is_err_and c.from_residual.result c.from_residual.ensures.1 in
    rw p.1 (prints_failed (prints_cut _ (prints_cut _ c.in_err-put.ensures)))

pub returns-in_err-put_failure_at : goal.returns-in_err-put_failure_at
returns-in_err-put_failure_at g c =
    let p = err_from_is_err_and c.from_residual-in_err-put_failure_at.result c.from_residual-in_err-put_failure_at.ensures.1 in
    rw p.1 (prints_failed (prints_cut _ (prints_then c.in_ok-put.ensures c.in_err-put_failure_at.ensures)))

pub returns : goal.returns
returns g c = prints_then (prints_then c.in_ok-put.ensures c.in_ok-put_failure_at.ensures) c.put-2.ensures
