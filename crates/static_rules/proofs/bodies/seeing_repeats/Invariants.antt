use Rattle.std.proofs.Common.{◌≡◌, [], drop, map}
use Rattle.typed_unit.specs.Views.{entity_of}
use Rattle.c_rules.specs.First.{first_of}
use Rattle.oil_rules.specs.Names.{repeats}
use Rattle.static_rules.specs.Rules.{at_names, names_of}
use Rattle.static_rules.proofs.bodies.seeing_repeats.Given as goal

-- what is left gives the whole answer
abbrev pub invariant-loop-entity : goal.invariant-loop-entity
invariant-loop-entity l =
    first_of l.first.fault (at_names 3 (repeats l.names (names_of l.kind (map entity_of (drop l.entity-index l.entities)))))
    ≡ first_of l.initial.first.fault (at_names 3 (repeats [] (names_of l.kind (map entity_of l.entities))))
