use Rattle.std.proofs.Common.{◌≡◌, take}
use Rattle.std.specs.List.{flat_map}
use Rattle.c_rules.specs.First.{first_of}
use Rattle.static_rules.specs.Rules.{late_faults}
use Rattle.static_rules.proofs.chains.seeing_late_calls.Given as goal

-- the first of the faults so far
abbrev pub invariant-loop-site : goal.invariant-loop-site
invariant-loop-site l = l.first.fault ≡ first_of l.initial.first.fault (flat_map (late_faults) (take l.site-index l.sites))
