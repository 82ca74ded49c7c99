use Rattle.std.proofs.Common.{◌≡◌, take, map}
use Rattle.std.specs.List.{flat_map}
use Rattle.typed_unit.specs.Views.{entity_of}
use Rattle.typed_unit.specs.Typed.{entity_in}
use Rattle.c_types.proofs.units.entities_of.Given as goal

-- the bodies so far
abbrev pub invariant-loop-external : goal.invariant-loop-external
invariant-loop-external l = map entity_of l.entities ≡ flat_map (entity_in l.names) (take l.external-index l.externals)
