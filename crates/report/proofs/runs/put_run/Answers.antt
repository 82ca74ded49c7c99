use Rattle.std.proofs.lemmas.Result.{err_from_is_err_and}
use Rattle.report.proofs.Printing.{prints_cut, prints_failed, prints_then}
use Rattle.report.proofs.runs.put_run.Goals as goal

pub returns-in_err-put_head : goal.returns-in_err-put_head
returns-in_err-put_head g c =
    let p = err_from_is_err_and c.from_residual.result c.from_residual.ensures.1 in
    rw p.1 (prints_failed (prints_cut _ (prints_cut _ (prints_cut _ (prints_cut _ c.in_err-put_head.ensures)))))

pub returns-in_err-put : goal.returns-in_err-put
returns-in_err-put g c =
    let p = err_from_is_err_and c.from_residual-in_err-put.result c.from_residual-in_err-put.ensures.1 in
    rw p.1 (prints_failed (prints_cut _ (prints_cut _ (prints_cut _ (prints_then c.in_ok-put_head.ensures (rw c.class_line.ensures at c.in_err-put.ensures))))))

pub returns-in_err-put_bounds : goal.returns-in_err-put_bounds
returns-in_err-put_bounds g c =
    let p = err_from_is_err_and c.from_residual-in_err-put_bounds.result c.from_residual-in_err-put_bounds.ensures.1 in
    rw p.1 (prints_failed (prints_cut _ (prints_cut _ (prints_then (prints_then c.in_ok-put_head.ensures (rw c.class_line.ensures at c.in_ok-put.ensures)) c.in_err-put_bounds.ensures))))

pub returns-in_err-put_points : goal.returns-in_err-put_points
returns-in_err-put_points g c =
    let p = err_from_is_err_and c.from_residual-in_err-put_points.result c.from_residual-in_err-put_points.ensures.1 in
    rw p.1 (prints_failed (prints_cut _ (prints_then (prints_then (prints_then c.in_ok-put_head.ensures (rw c.class_line.ensures at c.in_ok-put.ensures)) c.in_ok-put_bounds.ensures) c.in_err-put_points.ensures)))

pub returns : goal.returns
returns g c = prints_then (prints_then (prints_then (prints_then c.in_ok-put_head.ensures (rw c.class_line.ensures at c.in_ok-put.ensures)) c.in_ok-put_bounds.ensures) c.in_ok-put_points.ensures) c.put_verdict.ensures
