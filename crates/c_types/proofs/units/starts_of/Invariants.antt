use Rattle.std.proofs.Common.{◌≡◌}
use Rattle.typed_unit.specs.Typed.{starts_of}
use Rattle.c_types.proofs.units.starts_of.Given as goal

-- what the elements so far begin with
abbrev pub invariant-loop-i : goal.invariant-loop-i
invariant-loop-i l = l.values ≡ starts_of l.t l.constants l.i
