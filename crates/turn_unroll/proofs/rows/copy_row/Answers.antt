use Rattle.std.proofs.Common.{arith}
use Rattle.turn_unroll.proofs.Making.{copied_none, copied_more, copied_all}
use Rattle.turn_unroll.proofs.rows.copy_row.Goals as goal

pub loop-i-init : goal.loop-i-init
loop-i-init c = copied_none _ c.args.row.now c.new-copy.ensures

pub loop-i-preserved : goal.loop-i-preserved
loop-i-preserved c = copied_more _ _ c.args.row.now c.loop-i.i _ (omega arith) c.loop-i.invariant c.place.ensures c.in_ok-push.ensures.ok

pub returns : goal.returns
returns c = copied_all _ c.args.row.now c.loop-i.i (omega arith) c.loop-i.invariant
