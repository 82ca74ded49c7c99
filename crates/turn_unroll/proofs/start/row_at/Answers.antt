use Rattle.std.proofs.Common.{arith, refl, ap, sym, subst}
use Rattle.turn_unroll.specs.Starts.{IsKnown}
use Rattle.turn_unroll.proofs.Starting.{row_all, row_more, row_none}
use Rattle.turn_unroll.proofs.start.row_at.Goals as goal

pub loop-i-init : goal.loop-i-init
loop-i-init c = row_none c.args.at _ c.new-row.ensures

pub loop-i-preserved : goal.loop-i-preserved
loop-i-preserved c = row_more c.loop-i.i c.args.at _ _ _ c.loop-i.invariant c.known.ensures c.in_ok-push.ensures.ok

pub returns : goal.returns
returns c = row_all c.args.len c.loop-i.i c.args.at _ (omega arith) c.loop-i.invariant
