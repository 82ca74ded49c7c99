use Rattle.std.proofs.Common.{◌≡◌}
use Rattle.chk_base.specs.Term.{term_of}
use Rattle.one_stack.specs.Rules as rules
use Rattle.one_stack.specs.Tables.{plan_in, seen}
use Rattle.one_stack.proofs.guards.none_on.Given as goal

abbrev pub invariant-loop-u : goal.invariant-loop-u
invariant-loop-u l = term_of l.all ≡ rules.none_of (seen l.layout) (plan_in l.layout) rules.On (rules.runs_at (seen l.layout) (plan_in l.layout) l.l l.h) l.u
