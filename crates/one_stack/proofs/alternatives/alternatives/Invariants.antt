use Rattle.std.proofs.Common.{◌≡◌, length}
use Rattle.chk_base.specs.Term.{term_of}
use Rattle.guard_prog.specs.Drafts.{plain_alternatives}
use Rattle.one_stack.specs.Plain.{none_with, rules_of}
use Rattle.one_stack.specs.Rules as rules
use Rattle.one_stack.specs.Tables.{plan_in}
use Rattle.one_stack.proofs.alternatives.alternatives.Given as goal

abbrev pub invariant-loop-rule : goal.invariant-loop-rule
invariant-loop-rule l =
    record {
      alternatives : plain_alternatives l.all ≡ rules.alternatives ((plan_in l.layout).label l.e) (rules.constant 1) 0 (rules_of l.yielded);
      none : term_of l.none ≡ none_with (rules.constant 1) (rules_of l.yielded);
      count : l.k ≡ length l.yielded;
    }
