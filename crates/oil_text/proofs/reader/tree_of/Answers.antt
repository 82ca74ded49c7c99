use Rattle.std.proofs.Common.{arith}
use Rattle.oil_text.proofs.Whole.{stopped, left_over, whole}
use Rattle.oil_text.proofs.reader.tree_of.Goals as goal

pub returns-then-is_empty-clause-read : goal.returns-then-is_empty-clause-read
returns-then-is_empty-clause-read c = whole c.args.text.now c.args.tokens.now c.in-Ok.rest.now c.in-Ok.tree c.requires.spelled (search (arith, c.is_empty.ensures, c.if-is_empty.true)) c.in-Ok.ensures.gives c.in-Ok.ensures.means

pub returns-else-is_empty-clause-refused : goal.returns-else-is_empty-clause-refused
returns-else-is_empty-clause-refused c = rw c.fault_at.ensures (left_over c.args.text.now c.args.tokens.now c.in-Ok.rest.now c.requires.spelled (λ e. search (arith, c.is_empty.ensures, c.if-is_empty.false, e)) c.in-Ok.ensures.gives)

pub returns-in-Err-At-clause-refused : goal.returns-in-Err-At-clause-refused
returns-in-Err-At-clause-refused c = rw c.fault_at-in-Err-At.ensures (stopped c.args.text.now c.args.tokens.now c.in-Err-At.rest.now c.requires.spelled (rw c.in-Err-At.field-0-is at c.in-Err-At.ensures.gives))
