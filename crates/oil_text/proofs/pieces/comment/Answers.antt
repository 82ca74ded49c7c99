use Rattle.oil_text.proofs.PieceLaws.{line_comment, block_comment, slash_other}
use Rattle.oil_text.proofs.pieces.comment.Goals as goal

pub returns-then-text-eq47-clause-found : goal.returns-then-text-eq47-clause-found
returns-then-text-eq47-clause-found c = line_comment c.args.text.now c.run.result c.if-text-lt2.false c.requires.slash c.if-text-eq47.true (rw c.split_at.ensures.back at c.run.ensures.count)

pub returns-then-text-ne42-clause-none : goal.returns-then-text-ne42-clause-none
returns-then-text-ne42-clause-none c = slash_other c.args.text.now c.if-text-lt2.false c.requires.slash c.if-text-eq47.false c.if-text-ne42.true

pub returns-in-Some-clause-found : goal.returns-in-Some-clause-found
returns-in-Some-clause-found c = block_comment c.args.text.now c.in-Some.len c.if-text-lt2.false c.requires.slash c.if-text-ne42.false (rw c.split_at.ensures.back at c.in-Some.ensures.found)
