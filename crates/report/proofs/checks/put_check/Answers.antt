use Rattle.std.proofs.lemmas.Result.{err_from_is_err_and}
use Rattle.report.proofs.Printing.{prints_cut, prints_failed, prints_then}
use Rattle.report.proofs.checks.put_check.Goals as goal

pub returns-in_err-put_all : goal.returns-in_err-put_all
returns-in_err-put_all g c =
    let p = err_from_is_err_and c.from_residual.result c.from_residual.ensures.1 in
    rw p.1 (prints_failed (prints_cut _ c.in_err-put_all.ensures))

pub returns : goal.returns
returns g c = prints_then c.in_ok-put_all.ensures c.put_answer.ensures
