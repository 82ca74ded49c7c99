use Rattle.std.proofs.Common.{◌≡◌, take}
use Rattle.std.specs.List.{flat_map}
use Rattle.typed_unit.specs.Typed.{globals_in}
use Rattle.c_types.proofs.units.globals_of.Given as goal

-- the variables so far
abbrev pub invariant-loop-external : goal.invariant-loop-external
invariant-loop-external l = l.globals ≡ flat_map globals_in (take l.external-index l.externals)
