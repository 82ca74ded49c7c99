use Rattle.oil_text.proofs.PieceLaws.{quote_at, line_feed_at, string_byte}
use Rattle.oil_text.proofs.pieces.string_end.Goals as goal

pub returns-then-byte-eq34-clause-found : goal.returns-then-byte-eq34-clause-found
returns-then-byte-eq34-clause-found c = quote_at c.args.bytes.now c.loop-i.i c.loop-i-test.true c.if-byte-eq34.true c.loop-i.invariant

pub returns-then-byte-eq10-clause-none : goal.returns-then-byte-eq10-clause-none
returns-then-byte-eq10-clause-none c = line_feed_at c.args.bytes.now c.loop-i.i c.loop-i-test.true c.if-byte-eq10.true c.loop-i.invariant

pub loop-i-preserved : goal.loop-i-preserved
loop-i-preserved c = string_byte c.args.bytes.now c.loop-i.i c.loop-i-test.true c.if-byte-eq34.false c.if-byte-eq10.false c.loop-i.invariant
