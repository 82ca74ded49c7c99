use Rattle.std.proofs.Common.{◌≡◌, ◌+◌, map, take}
use Rattle.typed_unit.specs.Views.{entity_of}
use Rattle.static_rules.specs.Rules.{has_body}
use Rattle.static_rules.proofs.bodies.has_body.Given as goal

-- the bodies so far
abbrev pub invariant-loop-entity : goal.invariant-loop-entity
invariant-loop-entity l = l.has ≡ has_body (map entity_of (take l.entity-index l.entities)) (l.from + l.n)
