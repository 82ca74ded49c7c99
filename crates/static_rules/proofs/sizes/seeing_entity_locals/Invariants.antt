use Rattle.std.proofs.Common.{◌≡◌, take, map}
use Rattle.std.specs.List.{flat_map}
use Rattle.typed_unit.specs.Views.{entity_of}
use Rattle.c_rules.specs.First.{first_of}
use Rattle.static_rules.specs.Rules.{entity_local_faults}
use Rattle.static_rules.proofs.sizes.seeing_entity_locals.Given as goal

-- the first of the faults so far
abbrev pub invariant-loop-entity : goal.invariant-loop-entity
invariant-loop-entity l = l.first.fault ≡ first_of l.initial.first.fault (flat_map entity_local_faults (map entity_of (take l.entity-index l.entities)))
