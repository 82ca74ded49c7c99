use Rattle.std.proofs.Common.{◌≡◌, take}
use Rattle.std.specs.List.{flat_map}
use Rattle.c_rules.specs.First.{first_of}
use Rattle.static_rules.specs.Rules.{all_use_faults}
use Rattle.static_rules.proofs.resources.seeing_all_uses.Given as goal

-- the first of the faults so far
abbrev pub invariant-loop-sites : goal.invariant-loop-sites
invariant-loop-sites l = l.first.fault ≡ first_of l.initial.first.fault (flat_map (all_use_faults l.app) (take l.sites-index l.bodies))
