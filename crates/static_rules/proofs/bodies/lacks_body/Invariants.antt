use Rattle.std.proofs.Common.{◌≡◌, map}
use Rattle.typed_unit.specs.Views.{entity_of}
use Rattle.static_rules.specs.Rules.{lacks_body}
use Rattle.static_rules.proofs.bodies.lacks_body.Given as goal

-- the numbers so far
abbrev pub invariant-loop-n : goal.invariant-loop-n
invariant-loop-n l = l.lacks ≡ lacks_body (map entity_of l.entities) l.from l.n
