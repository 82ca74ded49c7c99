use Rattle.std.proofs.lemmas.Result.{err_from_is_err_and}
use Rattle.report.proofs.Printing.{prints_cut, prints_failed, prints_then}
use Rattle.report.proofs.shows.put_show.Goals as goal

pub returns-in_err-put_top : goal.returns-in_err-put_top
returns-in_err-put_top g c =
    let p = err_from_is_err_and c.from_residual.result c.from_residual.ensures.1 in
    rw p.1 (prints_failed (prints_cut _ (prints_cut _ (prints_cut _ (prints_cut _ c.in_err-put_top.ensures)))))

pub returns-in_err-put_entities : goal.returns-in_err-put_entities
returns-in_err-put_entities g c =
    let p = err_from_is_err_and c.from_residual-in_err-put_entities.result c.from_residual-in_err-put_entities.ensures.1 in
    rw p.1 (prints_failed (prints_cut _ (prints_cut _ (prints_cut _ (prints_then c.in_ok-put_top.ensures c.in_err-put_entities.ensures)))))

pub returns-in_err-put_resources : goal.returns-in_err-put_resources
returns-in_err-put_resources g c =
    let p = err_from_is_err_and c.from_residual-in_err-put_resources.result c.from_residual-in_err-put_resources.ensures.1 in
    rw p.1 (prints_failed (prints_cut _ (prints_cut _ (prints_then (prints_then c.in_ok-put_top.ensures c.in_ok-put_entities.ensures) c.in_err-put_resources.ensures))))

pub returns-in_err-put_counts : goal.returns-in_err-put_counts
returns-in_err-put_counts g c =
    let p = err_from_is_err_and c.from_residual-in_err-put_counts.result c.from_residual-in_err-put_counts.ensures.1 in
    rw p.1 (prints_failed (prints_cut _ (prints_then (prints_then (prints_then c.in_ok-put_top.ensures c.in_ok-put_entities.ensures) c.in_ok-put_resources.ensures) c.in_err-put_counts.ensures)))

pub returns : goal.returns
returns g c = prints_then (prints_then (prints_then (prints_then c.in_ok-put_top.ensures c.in_ok-put_entities.ensures) c.in_ok-put_resources.ensures) c.in_ok-put_counts.ensures) c.put_notes.ensures
