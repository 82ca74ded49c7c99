use Rattle.std.proofs.Common.{sym, ◌∙◌}
use Rattle.oil_text.proofs.PieceLaws.{include_begins}
use Rattle.oil_text.proofs.pieces.include.Goals as goal

pub returns-clause-found : goal.returns-clause-found
returns-clause-found c =
    include_begins c.args.text.now c.run.result c.requires.not_empty c.requires.hash (rw c.split_at.ensures.back at (sym c.begins_with.ensures ∙ c.if-not-begins_with.false)) (rw (c.split_at-2.ensures.back, c.split_at.ensures.back) at c.run.ensures.count)
