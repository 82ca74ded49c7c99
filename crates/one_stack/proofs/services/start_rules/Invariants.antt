use Rattle.std.proofs.Common.{◌≡◌, ◌++◌}
use Rattle.one_stack.specs.Plain.{rules_of}
use Rattle.one_stack.specs.Rules as rules
use Rattle.one_stack.specs.Tables.{plan_in, seen}
use Rattle.one_stack.proofs.services.start_rules.Given as goal

abbrev pub invariant-loop-t : goal.invariant-loop-t
invariant-loop-t l =
    rules_of l.list ++ rules.start_rules (seen l.layout) (plan_in l.layout) l.e l.x l.t ≡ rules.start_rules (seen l.layout) (plan_in l.layout) l.e l.x l.layout.entities
