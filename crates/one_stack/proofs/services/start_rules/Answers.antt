use Rattle.std.proofs.Common.{refl, arith}
use Rattle.one_stack.specs.Rules as rules
use Rattle.one_stack.specs.Tables.{plan_in, seen}
use Rattle.one_stack.proofs.Stepping.{ended}
use Rattle.one_stack.proofs.Serving.{start_more}
use Rattle.one_stack.proofs.services.start_rules.Goals as goal

pub loop-t-preserved : goal.loop-t-preserved
loop-t-preserved c = start_more (seen c.args.layout.now) (plan_in c.args.layout.now) c.args.e c.args.x c.loop-t.t _ _ _ (omega arith) c.in_ok-put_start.ensures c.loop-t.invariant

pub returns : goal.returns
returns c = ended (λ k. rules.start_rules (seen c.args.layout.now) (plan_in c.args.layout.now) c.args.e c.args.x k) c.loop-t.t _ _ refl (omega arith) c.loop-t.invariant
