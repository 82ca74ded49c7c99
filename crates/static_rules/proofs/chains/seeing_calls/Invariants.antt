use Rattle.std.proofs.Common.{◌≡◌, take}
use Rattle.std.specs.List.{flat_map}
use Rattle.c_rules.specs.First.{first_of}
use Rattle.static_rules.specs.Rules.{call_faults}
use Rattle.static_rules.proofs.chains.seeing_calls.Given as goal

-- the first of the faults so far
abbrev pub invariant-loop-site : goal.invariant-loop-site
invariant-loop-site l = l.first.fault ≡ first_of l.initial.first.fault (flat_map (call_faults l.function) (take l.site-index l.sites))
