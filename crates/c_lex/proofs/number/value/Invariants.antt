use Rattle.std.proofs.Common.{◌≡◌, ◌^◌, min, take}
use Rattle.c_lex.specs.Numbers.{radix, value}
use Rattle.c_lex.proofs.number.value.Given as goal

abbrev pub invariant-loop-digit : goal.invariant-loop-digit
invariant-loop-digit l = l.value ≡ min (2 ^ 32) (value (radix l.base) (take l.digit-index l.digits))
