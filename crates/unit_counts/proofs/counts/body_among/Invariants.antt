use Rattle.std.proofs.Common.{◌≡◌, drop, map}
use Rattle.typed_unit.specs.Views.{entity_of}
use Rattle.lower_law.specs.Translated.{entity_body}
use Rattle.unit_counts.proofs.counts.body_among.Given as goal

-- it is none of the bodies so far
abbrev pub invariant-loop-body : goal.invariant-loop-body
invariant-loop-body l = entity_body l.number (map entity_of l.bodies) ≡ entity_body l.number (map entity_of (drop l.body-index l.bodies))
