use Rattle.oil_text.proofs.PieceLaws.{point_begins, digits_begin}
use Rattle.oil_text.proofs.pieces.decimal.Goals as goal

pub returns-in-Some : goal.returns-in-Some
returns-in-Some c = let r = c.requires in point_begins c.args.text.now c.run-digits.result c.in-Some.len r.not_empty r.blank r.letter r.digit r.no_hexadecimal c.run-digits.ensures.count (rw c.split_at.ensures.back at c.in-Some.ensures.found)

pub returns-in-None : goal.returns-in-None
returns-in-None c = let r = c.requires in digits_begin c.args.text.now c.run-digits.result r.not_empty r.blank r.letter r.digit r.no_hexadecimal c.run-digits.ensures.count (rw c.split_at.ensures.back at c.in-None.ensures.none)
