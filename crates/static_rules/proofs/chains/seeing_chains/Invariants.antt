use Rattle.std.proofs.Common.{◌≡◌, [], if◌then◌else◌}
use Rattle.std.specs.List.{flat_map}
use Rattle.c_rules.specs.First.{first_of}
use Rattle.static_rules.specs.Chains.{body, all_below, called_after}
use Rattle.static_rules.specs.Rules.{late_faults}
use Rattle.static_rules.proofs.chains.seeing_chains.Given as goal

-- the first of the faults so far
abbrev pub invariant-loop-f : goal.invariant-loop-f
invariant-loop-f l =
    l.first.fault
    ≡ first_of l.initial.first.fault (all_below (λ f. if called_after l.bodies l.start 15 f then flat_map late_faults (body l.bodies f) else []) l.f)
