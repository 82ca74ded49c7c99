use Rattle.oil_text.proofs.PieceLaws.{string_begins}
use Rattle.oil_text.proofs.pieces.string.Goals as goal

pub returns-in-Some-clause-found : goal.returns-in-Some-clause-found
returns-in-Some-clause-found c = string_begins c.args.text.now c.in-Some.len c.requires.not_empty c.requires.quote (rw c.split_at.ensures.back at c.in-Some.ensures.found)
