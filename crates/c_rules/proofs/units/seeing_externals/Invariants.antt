use Rattle.std.proofs.Common.{◌≡◌, take}
use Rattle.std.specs.List.{flat_map}
use Rattle.c_rules.specs.First.{first_of}
use Rattle.c_rules.specs.UnitRules.{external_faults}
use Rattle.c_rules.proofs.units.seeing_externals.Given as goal

-- the faults of what stands so far are seen
abbrev pub invariant-loop-external : goal.invariant-loop-external
invariant-loop-external l =
    l.first.fault ≡ first_of l.initial.first.fault (flat_map (external_faults l.names) (take l.external-index l.externals))
