use Rattle.std.proofs.Common.{◌≤◌, length, arith, ap, subst}
use Rattle.std.proofs.lemmas.List.{length-map}
use Rattle.one_stack.specs.Plain.{rule_of}
use Rattle.one_stack.proofs.alternatives.point_alternatives.Goals as goal
use Rattle.step_ir.specs.Points.{plain_of}
use Rattle.one_stack.proofs.Few.{few_rules}

pub alternatives-requires : goal.alternatives-requires
alternatives-requires c =
    let tasks : c.args.layout.now.entities ≤ 16 = subst (λ n. n ≤ 16) c.entities-tasks.ensures.count c.entities-tasks.ensures.few in
    omega (arith, length-map c.in_ok-list.list rule_of, ap length c.in_ok-list.ensures, few_rules c.args.layout.now c.args.e (plain_of c.args.point.now) tasks c.requires.few)
