use Rattle.std.proofs.Common.{refl, arith, map}
use Rattle.step_ir.specs.Points.{item_of}
use Rattle.one_stack.specs.Rules as rules
use Rattle.one_stack.specs.Tables.{plan_in, seen, width_in}
use Rattle.one_stack.proofs.Stepping.{ended}
use Rattle.one_stack.proofs.Serving.{push_more}
use Rattle.one_stack.proofs.services.push_rules.Goals as goal

pub loop-t-preserved : goal.loop-t-preserved
loop-t-preserved c = push_more c.args.layout.now c.args.e c.args.r (map item_of c.args.nexts.now) c.loop-t.t _ _ _ (omega arith) c.in_ok-put_push.ensures c.loop-t.invariant

pub returns : goal.returns
returns c = ended (λ k. rules.push_rules (seen c.args.layout.now) (plan_in c.args.layout.now) (width_in c.args.layout.now) c.args.e c.args.r (map item_of c.args.nexts.now) k) c.loop-t.t _ _ refl (omega arith) c.loop-t.invariant
