use Rattle.std.proofs.Common.{◌≡◌, ◌++◌, take, map}
use Rattle.typed_unit.specs.Typed.{global_declared}
use Rattle.c_types.proofs.units.put_globals.Given as goal

-- the variables so far
abbrev pub invariant-loop-d : goal.invariant-loop-d
invariant-loop-d l = l.globals ≡ l.initial.globals ++ map global_declared (take l.d-index l.declarations)
