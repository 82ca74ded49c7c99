use Rattle.std.proofs.Common.{sym, ◌∙◌, arith}
use Rattle.oil_text.proofs.PieceLaws.{with_hexadecimal}
use Rattle.oil_text.proofs.pieces.hexadecimal.Goals as goal

pub returns-clause-found : goal.returns-clause-found
returns-clause-found c =
    with_hexadecimal c.args.bytes.now c.run-digits.result c.if-bytes-lt2.false c.if-bytes-ne48.false (sym c.is_x.ensures ∙ c.if-not-is_x.false) (rw c.split_at.ensures.back at c.run-digits.ensures.count) (omega (arith, c.if-digits-eq0.false))
