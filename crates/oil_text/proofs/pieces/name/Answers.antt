use Rattle.oil_text.proofs.PieceLaws.{name_begins}
use Rattle.oil_text.proofs.pieces.name.Goals as goal

pub returns : goal.returns
returns c = rw c.name_kind.ensures (name_begins c.args.text.now c.run-len.result c.requires.not_empty c.requires.blank c.requires.letter (rw c.split_at.ensures.back at c.run-len.ensures.count))
