-- The operators of expressions, on values of 32 bits: whole numbers modulo 2^32, and their signed reading.
use Rattle.std.specs.Prelude.{ℕ, ◌+◌, ◌-◌, ◌*◌, ◌/◌, ◌%◌, ◌^◌, ◌+ℤ◌, ◌-ℤ◌, ◌*ℤ◌, ℤ, pos, negsuc, Bool, not, if◌then◌else◌, nat_lt, nat_le, ◌==◌, int_lt, int_le, int_div, int_rem, bit_and, bit_or, bit_xor}
use Rattle.chk_base.specs.declared.expr.UnOp.{UnOp}
use Rattle.chk_base.specs.declared.expr.UnOp.TheVariants as Un
use Rattle.chk_base.specs.declared.expr.BinOp.{BinOp}
use Rattle.chk_base.specs.declared.expr.BinOp.TheVariants as Bin
use Rattle.chk_base.specs.Widths.{signed_of, unsigned}

-- the signed reading of 32 bits
abbrev pub signed : ℕ → ℤ
signed n = signed_of 32 n

-- 1 for true, 0 for false
abbrev pub one_if : Bool → ℕ
one_if b = if b then 1 else 0

-- a value counts as true where it isn't 0
abbrev pub truth : ℕ → Bool
truth a = not (a == 0)

-- 1 where a whole number leaves the range of signed 32 bits
abbrev pub outside : ℤ → ℕ
outside (pos n) = one_if (nat_le (2 ^ 31) n)
outside (negsuc n) = one_if (nat_le (2 ^ 31) n)

-- a whole number divided by 2^k, rounded down
abbrev pub halved : ℤ → ℕ → ℤ
halved (pos n) k = pos (n / 2 ^ k)
halved (negsuc n) k = negsuc (n / 2 ^ k)

-- the value of an operator with one operand (ISO/IEC 9899:1999, 6.5.3.3, and conversions, 6.3.1)
abbrev pub unary_value : UnOp → ℕ → ℕ
unary_value Un.Not a = one_if (a == 0)
unary_value Un.Neg a = (2 ^ 32 - a) % 2 ^ 32
unary_value Un.Inv a = 2 ^ 32 - 1 - a
unary_value Un.Low8 a = a % 2 ^ 8
unary_value Un.Low16 a = a % 2 ^ 16
unary_value Un.Sign8 a = unsigned (signed_of 8 (a % 2 ^ 8))
unary_value Un.Sign16 a = unsigned (signed_of 16 (a % 2 ^ 16))
unary_value Un.Bool a = one_if (truth a)

-- the value of an operator with two operands (ISO/IEC 9899:1999, 6.5.5 to 6.5.12); a zero divisor and a shift by 32 or more give 0
abbrev pub binary_value : BinOp → ℕ → ℕ → ℕ
binary_value Bin.Add a b = (a + b) % 2 ^ 32
binary_value Bin.Sub a b = (a + (2 ^ 32 - b)) % 2 ^ 32
binary_value Bin.Mul a b = (a * b) % 2 ^ 32
binary_value Bin.DivU a b = if b == 0 then 0 else a / b
binary_value Bin.DivS a b = if b == 0 then 0 else unsigned (int_div (signed a) (signed b))
binary_value Bin.RemU a b = if b == 0 then 0 else a % b
binary_value Bin.RemS a b = if b == 0 then 0 else unsigned (int_rem (signed a) (signed b))
binary_value Bin.And a b = bit_and a b
binary_value Bin.Or a b = bit_or a b
binary_value Bin.Xor a b = bit_xor a b
binary_value Bin.Shl a b = if nat_lt b 32 then (a * 2 ^ b) % 2 ^ 32 else 0
binary_value Bin.ShrU a b = if nat_lt b 32 then a / 2 ^ b else 0
binary_value Bin.ShrS a b = if nat_lt b 32 then unsigned (halved (signed a) b) else 0
binary_value Bin.Eq a b = one_if (a == b)
binary_value Bin.LtU a b = one_if (nat_lt a b)
binary_value Bin.LtS a b = one_if (int_lt (signed a) (signed b))
binary_value Bin.LeU a b = one_if (nat_le a b)
binary_value Bin.LeS a b = one_if (int_le (signed a) (signed b))
binary_value Bin.AddOver a b = outside (signed a +ℤ signed b)
binary_value Bin.SubOver a b = outside (signed a -ℤ signed b)
binary_value Bin.MulOver a b = outside (signed a *ℤ signed b)
