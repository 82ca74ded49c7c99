-- One more statement counts.
use Rattle.std.proofs.Common.{ap, arith}
use Rattle.lower_pieces.specs.Sized.{number_at, sized}
use Rattle.lower_pieces.specs.Trees.{statement_of}
use Rattle.lower_pieces.proofs.Summed.{sized_more}
use Rattle.lower_pieces.proofs.sizes.+sizes.Goals as goal

pub sized_all-loop-s-preserved : goal.sized_all-loop-s-preserved
sized_all-loop-s-preserved t c =
    let h = sized_more (number_at c.args.calls.now) c.args.b.now c.loop-s.s-index c.s-item.result (omega arith) in
    let q = ap (λ x. sized (number_at c.args.calls.now) (statement_of x)) c.s-item.is in
    omega (arith, h, q, c.loop-s.invariant, c.sized.ensures, c.saturating_add-total.ensures)
