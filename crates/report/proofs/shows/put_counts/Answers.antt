use Rattle.std.proofs.lemmas.Result.{err_from_is_err_and}
use Rattle.report.proofs.Printing.{prints_cut, prints_failed, prints_then}
use Rattle.report.proofs.shows.put_counts.Goals as goal

pub returns-in_err-put_points : goal.returns-in_err-put_points
returns-in_err-put_points g c =
    let p = err_from_is_err_and c.from_residual.result c.from_residual.ensures.1 in
    rw p.1 (prints_failed (prints_cut _ (prints_cut _ c.in_err-put_points.ensures)))

pub returns-in_err-put_count : goal.returns-in_err-put_count
returns-in_err-put_count g c =
    let p = err_from_is_err_and c.from_residual-in_err-put_count.result c.from_residual-in_err-put_count.ensures.1 in
    rw p.1 (prints_failed (prints_cut _ (prints_then c.in_ok-put_points.ensures c.in_err-put_count.ensures)))

pub returns : goal.returns
returns g c = prints_then (prints_then c.in_ok-put_points.ensures c.in_ok-put_count.ensures) c.put_count-2.ensures
