use Rattle.std.proofs.Common.{◌≡◌}
use Rattle.chk_base.specs.Term.{term_of}
use Rattle.one_stack.specs.Rules as rules
use Rattle.one_stack.specs.Tables.{plan_in, seen}
use Rattle.std.proofs.Common.{nat_le}
use Rattle.one_stack.proofs.guards.none_held.Given as goal

abbrev pub invariant-loop-r : goal.invariant-loop-r
invariant-loop-r l = term_of l.all ≡ rules.none_of (seen l.layout) (plan_in l.layout) rules.Held (λ r. nat_le l.l ((seen l.layout).ceiling r)) l.r
