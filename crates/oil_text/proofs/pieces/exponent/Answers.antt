use Rattle.std.proofs.Common.{sym, ◌∙◌}
use Rattle.oil_text.proofs.PieceLaws.{with_exponent}
use Rattle.oil_text.proofs.pieces.exponent.Goals as goal

pub returns-then-digits-gt0 : goal.returns-then-digits-gt0
returns-then-digits-gt0 c = with_exponent c.args.bytes.now c.run-digits.result c.if-bytes-lt2.false (sym c.is_e.ensures ∙ c.if-is_e.true) (sym c.is_sign.ensures ∙ c.if-is_sign.true) (rw c.split_at.ensures.back at c.run-digits.ensures.count) c.if-digits-gt0.true
