use Rattle.std.proofs.Common.{ap, codes}
use Rattle.std.proofs.lemmas.Result.{err_from_is_err_and}
use Rattle.cert_text.proofs.Spilling.{followed, same_piece, stopped}
use Rattle.cert_text.proofs.front.put_tables.Goals as goal
use Rattle.cert_text.specs.CertificateParts.{turns_text}
use Rattle.cert_text.specs.Parts.{table_lines}

pub returns-in_err-put_table : goal.returns-in_err-put_table
returns-in_err-put_table g c =
    let p = err_from_is_err_and c.from_residual.result c.from_residual.ensures.1 in
    rw (p.1, p.2) (stopped _ _ _ _ _ _ (turns_text c.args.encoding.now) _ (same_piece (ap (table_lines (codes "depth") 0) c.rows.ensures) c.in_err-put_table.ensures))

pub returns : goal.returns
returns g c = followed _ _ _ _ _ _ _ _ _ (same_piece (ap (table_lines (codes "depth") 0) c.rows.ensures) c.in_ok-put_table.ensures) c.put_turns.ensures
