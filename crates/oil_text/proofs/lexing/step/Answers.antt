use Rattle.std.proofs.Common.{arith}
use Rattle.oil_text.proofs.Places.{few_lines, few_columns, after_line_feed, after_other}
use Rattle.oil_text.proofs.lexing.step.Goals as goal

pub overflow_add-result : goal.overflow_add-result
overflow_add-result c = omega (arith, c.requires.short, c.requires.within, few_lines c.args.text.now c.args.place (omega (arith, c.requires.within)) c.requires.here)

pub overflow_add-result-else-text-place-eq10 : goal.overflow_add-result-else-text-place-eq10
overflow_add-result-else-text-place-eq10 c = omega (arith, c.requires.short, c.requires.within, few_columns c.args.text.now c.args.place (omega (arith, c.requires.within)) c.requires.here)

pub returns-then-text-place-eq10 : goal.returns-then-text-place-eq10
returns-then-text-place-eq10 c = after_line_feed c.args.text.now c.args.place c.requires.within c.requires.here c.if-text-place-eq10.true

pub returns-else-text-place-eq10 : goal.returns-else-text-place-eq10
returns-else-text-place-eq10 c = after_other c.args.text.now c.args.place c.requires.within c.requires.here c.if-text-place-eq10.false
