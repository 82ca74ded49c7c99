use Rattle.std.proofs.Common.{◌≡◌, take, map}
use Rattle.c_rules.specs.PlainScopes.{plain_declared}
use Rattle.typed_unit.specs.Typed.{local_of}
use Rattle.c_types.proofs.units.locals_of.Given as goal

-- the locals so far
abbrev pub invariant-loop-d : goal.invariant-loop-d
invariant-loop-d l = l.locals ≡ map (λ x. local_of (plain_declared x)) (take l.d-index l.d-items)
