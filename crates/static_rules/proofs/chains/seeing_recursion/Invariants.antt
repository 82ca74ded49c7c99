use Rattle.std.proofs.Common.{◌≡◌}
use Rattle.c_rules.specs.First.{first_of}
use Rattle.static_rules.specs.Chains.{all_below}
use Rattle.static_rules.specs.Rules.{returning_faults}
use Rattle.static_rules.proofs.chains.seeing_recursion.Given as goal

-- the first of the faults so far
abbrev pub invariant-loop-function : goal.invariant-loop-function
invariant-loop-function l = l.first.fault ≡ first_of l.initial.first.fault (all_below (returning_faults l.bodies) l.function)
