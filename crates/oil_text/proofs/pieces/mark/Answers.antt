use Rattle.std.proofs.Common.{sym, ◌∙◌}
use Rattle.oil_text.proofs.PieceLaws.{mark_begins, mark_none}
use Rattle.oil_text.proofs.pieces.mark.Goals as goal

pub returns-in-Some-clause-found : goal.returns-in-Some-clause-found
returns-in-Some-clause-found c = let r = c.requires in mark_begins c.args.text.now c.in-Some.mark r.not_empty r.blank r.letter r.digit r.quote r.hash r.slash (sym c.mark_of.ensures ∙ c.in-Some.is)

pub returns-in-None-clause-none : goal.returns-in-None-clause-none
returns-in-None-clause-none c = let r = c.requires in mark_none c.args.text.now r.not_empty r.blank r.letter r.digit r.quote r.hash r.slash (sym c.mark_of.ensures ∙ c.in-None.is)
