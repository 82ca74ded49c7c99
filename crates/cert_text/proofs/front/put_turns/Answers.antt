use Rattle.std.proofs.Common.{ap, codes}
use Rattle.std.proofs.lemmas.Result.{err_from_is_err_and}
use Rattle.cert_text.proofs.Spilling.{no_memory, same_piece, stopped, then_held}
use Rattle.cert_text.proofs.front.put_turns.Goals as goal
use Rattle.cert_text.specs.Parts.{table_lines}

pub returns-in_err-put_table : goal.returns-in_err-put_table
returns-in_err-put_table g c =
    let p = err_from_is_err_and c.from_residual.result c.from_residual.ensures.1 in
    rw (p.1, p.2) (stopped _ _ _ _ _ _ (codes "log\n") _ (same_piece (ap (table_lines (codes "turn") 1) c.rows.ensures) c.in_err-put_table.ensures))

pub returns-in_err-append : goal.returns-in_err-append
returns-in_err-append g c =
    let p = err_from_is_err_and c.from_residual-in_err-append.result c.from_residual-in_err-append.ensures.1 in
    rw (p.1, p.2) (no_memory _ _ _ _ _ _ (codes "log\n") (same_piece (ap (table_lines (codes "turn") 1) c.rows.ensures) c.in_ok-put_table.ensures))

pub returns : goal.returns
returns g c =
    then_held (table_lines (codes "turn") 1 c.args.encoding.now.alternatives) (codes "log\n") (same_piece (ap (table_lines (codes "turn") 1) c.rows.ensures) c.in_ok-put_table.ensures) c.in_ok-append.ensures.ok
