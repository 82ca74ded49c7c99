use Rattle.std.proofs.Common.{◌≡◌, take}
use Rattle.std.specs.List.{flat_map}
use Rattle.std.specs.Option.{option_copied}
use Rattle.oil_rules.specs.First.{first_of}
use Rattle.oil_rules.specs.Rules.{attribute_faults}
use Rattle.oil_rules.proofs.attribute.seeing_attributes.Given as goal

-- the faults of the attributes so far are seen
abbrev pub invariant-loop-attribute : goal.invariant-loop-attribute
invariant-loop-attribute l =
    l.first.fault ≡ first_of l.initial.first.fault (flat_map (attribute_faults l.known l.kind (option_copied l.internal)) (take l.attribute-index l.attributes))
