use Rattle.std.proofs.Common.{arith}
use Rattle.std.proofs.lemmas.Result.{err_from_is_err_and}
use Rattle.report.specs.Pieces.{piece_text}
use Rattle.report.proofs.Printing.{each_cut, each_next, prints_nothing}
use Rattle.report.proofs.pieces.put_each.Goals as goal

pub loop-i-init : goal.loop-i-init
loop-i-init g c = prints_nothing _ _

pub returns-in_err-put_piece : goal.returns-in_err-put_piece
returns-in_err-put_piece g c =
    let p = err_from_is_err_and c.from_residual.result c.from_residual.ensures.1 in
    rw p.1 (each_cut (λ n x. piece_text x) 0 _ c.loop-i.i c.loop-i.i _ c.loop-i-test.true c.index-pieces-i.is (omega arith) c.loop-i.invariant c.in_err-put_piece.ensures)

pub loop-i-preserved : goal.loop-i-preserved
loop-i-preserved g c =
    each_next (λ n x. piece_text x) 0 _ c.loop-i.i c.loop-i.i _ c.loop-i-test.true c.index-pieces-i.is (omega arith) c.loop-i.invariant c.in_ok-put_piece.ensures
