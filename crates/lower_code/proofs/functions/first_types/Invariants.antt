use Rattle.std.proofs.Common.{◌≡◌, take}
use Rattle.std.specs.Prelude.{map}
use Rattle.lower_code.proofs.functions.first_types.Given as goal

-- the types so far
abbrev pub invariant-loop-i : goal.invariant-loop-i
invariant-loop-i l = l.types.items ≡ map (λ v. v.ctype) (take l.i l.locals)
