use Rattle.std.proofs.Common.{◌≡◌, take}
use Rattle.std.specs.List.{flat_map}
use Rattle.oil_rules.specs.First.{first_of}
use Rattle.oil_rules.specs.Rules.{mode_faults}
use Rattle.oil_rules.proofs.attribute.seeing_modes.Given as goal

-- the faults of the attributes so far are seen
abbrev pub invariant-loop-attribute : goal.invariant-loop-attribute
invariant-loop-attribute l =
    l.first.fault ≡ first_of l.initial.first.fault (flat_map (mode_faults l.known) (take l.attribute-index l.attributes))
