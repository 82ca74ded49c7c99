use Rattle.std.proofs.Common.{arith}
use Rattle.turn_unroll.proofs.Making.{free_none, free_more, free_all, truth_more}
use Rattle.turn_unroll.proofs.rows.free_row.Goals as goal

pub loop-i-init : goal.loop-i-init
loop-i-init c = free_none _ c.args.places.now _ c.new-row.ensures

pub free_place-requires : goal.free_place-requires
free_place-requires c = truth_more _ _ _ c.requires c.loop-i.invariant.extends

pub loop-i-preserved : goal.loop-i-preserved
loop-i-preserved c = free_more _ _ _ c.args.places.now _ _ c.loop-i.i _ (omega arith) c.loop-i.invariant c.in_ok-free_place.ensures c.in_ok-push.ensures.ok

pub returns : goal.returns
returns c = free_all _ _ c.args.places.now _ c.loop-i.i (omega arith) c.loop-i.invariant
