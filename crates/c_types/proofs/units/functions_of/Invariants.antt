use Rattle.std.proofs.Common.{◌≡◌, take, map}
use Rattle.std.specs.List.{flat_map}
use Rattle.typed_unit.specs.Views.{function_of}
use Rattle.typed_unit.specs.Typed.{functions_in}
use Rattle.c_types.proofs.units.functions_of.Given as goal

-- the functions so far
abbrev pub invariant-loop-external : goal.invariant-loop-external
invariant-loop-external l = map function_of l.functions ≡ flat_map (functions_in l.names) (take l.external-index l.externals)
