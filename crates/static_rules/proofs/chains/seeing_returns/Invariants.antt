use Rattle.std.proofs.Common.{◌≡◌, [], if◌then◌else◌}
use Rattle.std.specs.List.{flat_map}
use Rattle.c_rules.specs.First.{first_of}
use Rattle.static_rules.specs.Chains.{body, all_below}
use Rattle.static_rules.specs.Rules.{call_faults, comes_back}
use Rattle.static_rules.proofs.chains.seeing_returns.Given as goal

-- the first of the faults so far
abbrev pub invariant-loop-f : goal.invariant-loop-f
invariant-loop-f l =
    l.first.fault
    ≡ first_of l.initial.first.fault (all_below (λ f. if comes_back l.bodies l.function f then flat_map (call_faults l.function) (body l.bodies f) else []) l.f)
