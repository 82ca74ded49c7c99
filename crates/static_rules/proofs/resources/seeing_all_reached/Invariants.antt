use Rattle.std.proofs.Common.{◌≡◌, take}
use Rattle.std.specs.List.{flat_map}
use Rattle.c_rules.specs.First.{first_of}
use Rattle.static_rules.specs.Rules.{reached_faults}
use Rattle.static_rules.proofs.resources.seeing_all_reached.Given as goal

-- the first of the faults so far
abbrev pub invariant-loop-site : goal.invariant-loop-site
invariant-loop-site l = l.first.fault ≡ first_of l.initial.first.fault (flat_map (reached_faults l.app l.n) (take l.site-index l.sites))
