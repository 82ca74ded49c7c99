use Rattle.one_stack.specs.Tables.{plan_in, seen}
use Rattle.one_stack.specs.Rules as rules
use Rattle.one_stack.proofs.Guarding.{none_of_more}
use Rattle.one_stack.proofs.guards.none_on.Goals as goal

pub loop-u-preserved : goal.loop-u-preserved
loop-u-preserved c = none_of_more (seen c.args.layout.now) (plan_in c.args.layout.now) rules.On _ c.loop-u.u _ _ _ c.runs_at-is_tested.ensures c.in_ok-all.ensures c.loop-u.invariant
