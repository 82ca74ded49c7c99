use Rattle.std.proofs.Common.{◌≡◌, min, take}
use Rattle.oil_rules.specs.Values.{number_in}
use Rattle.oil_rules.proofs.value.decimal.Given as goal

-- the number of the digits so far
abbrev pub invariant-loop-byte : goal.invariant-loop-byte
invariant-loop-byte l = l.number ≡ min (number_in 10 (take l.byte-index l.digits)) 1000
