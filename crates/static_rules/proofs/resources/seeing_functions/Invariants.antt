use Rattle.std.proofs.Common.{◌≡◌, false, [], get_or, if◌then◌else◌}
use Rattle.std.specs.List.{flat_map}
use Rattle.c_rules.specs.First.{first_of}
use Rattle.static_rules.specs.Chains.{body, all_below}
use Rattle.static_rules.specs.Rules.{reached_faults}
use Rattle.static_rules.proofs.resources.seeing_functions.Given as goal

-- the first of the faults so far
abbrev pub invariant-loop-f : goal.invariant-loop-f
invariant-loop-f l =
    l.first.fault
    ≡ first_of l.initial.first.fault (flat_map (reached_faults l.app l.n) (all_below (λ f. if get_or l.flags f false then body l.bodies f else []) l.f))
