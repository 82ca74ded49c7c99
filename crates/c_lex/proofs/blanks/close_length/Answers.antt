use Rattle.std.proofs.Common.{sym, ◌∙◌}
use Rattle.c_lex.proofs.Closing.{close_step}
use Rattle.c_lex.proofs.blanks.close_length.Goals as goal

pub loop-at-preserved : goal.loop-at-preserved
loop-at-preserved c =
    c.loop-at.invariant ∙ close_step c.args.bytes.now c.loop-at.at c.loop-at-test.true (rw c.split_at.ensures.back at (sym c.begins_two.ensures.begins ∙ c.if-begins_two.false))
