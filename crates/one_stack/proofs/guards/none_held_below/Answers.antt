use Rattle.one_stack.specs.Tables.{plan_in, seen}
use Rattle.one_stack.specs.Rules as rules
use Rattle.one_stack.proofs.Guarding.{none_of_more}
use Rattle.one_stack.proofs.guards.none_held_below.Goals as goal

pub loop-r-preserved : goal.loop-r-preserved
loop-r-preserved c = none_of_more (seen c.args.layout.now) (plan_in c.args.layout.now) rules.Held _ c.loop-r.r _ _ _ c.ceiling_at-is_tested.ensures c.in_ok-all.ensures c.loop-r.invariant
