use Rattle.std.proofs.lemmas.Result.{err_from_is_err_and}
use Rattle.cert_text.proofs.Spilling.{put_no_memory, put_then}
use Rattle.cert_text.proofs.streams.spill_cell.Goals as goal

pub returns-in_err-put_cell_line : goal.returns-in_err-put_cell_line
returns-in_err-put_cell_line g c =
    let p = err_from_is_err_and c.from_residual.result c.from_residual.ensures.1 in
    rw (p.1, p.2) (put_no_memory _ _ _ _)

pub returns : goal.returns
returns g c = put_then c.in_ok-put_cell_line.ensures c.spill_much.ensures
