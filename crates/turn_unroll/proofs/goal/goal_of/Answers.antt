use Rattle.std.proofs.Common.{arith}
use Rattle.turn_unroll.proofs.Failing.{front_begins, goal_more, put_fits}
use Rattle.turn_unroll.proofs.goal.goal_of.Goals as goal

pub push-requires : goal.push-requires
push-requires c = front_begins c.new-goal.result c.new-goal.ensures

pub put_free-requires : goal.put_free-requires
put_free-requires c = λ e. put_fits c.args.failures.now c.loop-i.goal c.loop-i.i c.place.result (omega arith) c.requires c.loop-i.invariant c.place.ensures e

pub loop-i-preserved : goal.loop-i-preserved
loop-i-preserved c = goal_more c.args.failures.now c.loop-i.goal _ c.loop-i.i c.place.result (omega arith) c.loop-i.invariant c.place.ensures c.in_ok-put_free.ensures
