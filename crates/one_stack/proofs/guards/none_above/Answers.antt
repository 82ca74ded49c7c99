use Rattle.one_stack.specs.Tables.{plan_in, seen}
use Rattle.one_stack.proofs.Guarding.{none_above_more}
use Rattle.one_stack.proofs.guards.none_above.Goals as goal

pub loop-u-preserved : goal.loop-u-preserved
loop-u-preserved c = none_above_more (seen c.args.layout.now) (plan_in c.args.layout.now) c.args.x c.args.l c.loop-u.u _ _ c.in_ok-all.ensures c.loop-u.invariant
