use Rattle.std.proofs.Common.{◌≡◌, ◌++◌, map}
use Rattle.step_ir.specs.Points.{item_of}
use Rattle.one_stack.specs.Plain.{rules_of}
use Rattle.one_stack.specs.Rules as rules
use Rattle.one_stack.specs.Tables.{plan_in, seen, width_in}
use Rattle.one_stack.proofs.services.push_rules.Given as goal

abbrev pub invariant-loop-t : goal.invariant-loop-t
invariant-loop-t l =
    rules_of l.list ++ rules.push_rules (seen l.layout) (plan_in l.layout) (width_in l.layout) l.e l.r (map item_of l.nexts) l.t
    ≡ rules.push_rules (seen l.layout) (plan_in l.layout) (width_in l.layout) l.e l.r (map item_of l.nexts) l.layout.entities
