use Rattle.oil_text.proofs.PieceLaws.{hexadecimal_begins}
use Rattle.oil_text.proofs.pieces.number.Goals as goal

pub returns-in-Some : goal.returns-in-Some
returns-in-Some c = hexadecimal_begins c.args.text.now c.in-Some.len c.requires.not_empty c.requires.blank c.requires.letter c.requires.digit c.in-Some.ensures.found
