use Rattle.std.proofs.Common.{◌≡◌, map, take}
use Rattle.std.specs.List.{flat_map}
use Rattle.typed_unit.specs.Views.{entity_of}
use Rattle.static_rules.specs.Rules.{first_sites}
use Rattle.static_rules.proofs.collect.first_sites.Given as goal

-- the bodies so far
abbrev pub invariant-loop-entity : goal.invariant-loop-entity
invariant-loop-entity l = l.sites ≡ flat_map first_sites (map entity_of (take l.entity-index l.entities))
