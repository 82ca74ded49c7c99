use Rattle.std.proofs.Common.{arith}
use Rattle.oil_text.proofs.PieceLaws.{with_fraction}
use Rattle.oil_text.proofs.pieces.fraction.Goals as goal

pub returns-clause-found : goal.returns-clause-found
returns-clause-found c =
    with_fraction c.args.bytes.now c.run-digits.result c.exponent.result (search (arith, c.is_empty.ensures, c.if-is_empty.false)) c.if-bytes-ne46.false (rw c.split_at.ensures.back at c.run-digits.ensures.count) (omega (arith, c.if-digits-eq0.false)) (rw (c.split_at-2.ensures.back, c.split_at.ensures.back) at c.exponent.ensures)
