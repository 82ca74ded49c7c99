use Rattle.std.proofs.Common.{◌≡◌, take, map}
use Rattle.std.specs.List.{flat_map}
use Rattle.typed_unit.specs.Views.{entity_of}
use Rattle.c_rules.specs.First.{first_of}
use Rattle.static_rules.specs.Rules.{nameless_faults}
use Rattle.static_rules.proofs.bodies.seeing_all_nameless.Given as goal

-- the first of the faults so far
abbrev pub invariant-loop-entity : goal.invariant-loop-entity
invariant-loop-entity l = l.first.fault ≡ first_of l.initial.first.fault (flat_map (nameless_faults) (map entity_of (take l.entity-index l.entities)))
