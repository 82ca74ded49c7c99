use Rattle.std.proofs.Common.{◌≡◌}
use Rattle.chk_base.specs.Term.{term_of}
use Rattle.one_stack.specs.Plain.{rules_of}
use Rattle.one_stack.specs.Rules as rules
use Rattle.one_stack.proofs.rule.guarded.Given as goal

abbrev pub invariant-loop-rule : goal.invariant-loop-rule
invariant-loop-rule l = rules_of l.all ≡ rules.guarded (term_of l.given) (rules_of l.yielded)
