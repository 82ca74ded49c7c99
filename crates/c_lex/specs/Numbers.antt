-- Integer constants (ISO/IEC 9899:1999, 6.4.4.1), with `int` and `long` of 32 bits.
use Rattle.std.specs.Prelude.{ℕ, ◌+◌, ◌-◌, ◌*◌, ◌^◌, Bool, true, false, not, ◌&&◌, ◌||◌, if◌then◌else◌, ◌==◌, nat_le, nat_lt, List, [], ◌∷◌, length, take, drop, Option, Some, None}
use Rattle.std.specs.List.{list_any, prefix_len}
use Rattle.c_lex.specs.declared.number.Base.{Base}
use Rattle.c_lex.specs.declared.number.Base.TheVariants.{Decimal, Octal, Hexadecimal}
use Rattle.c_lex.specs.declared.token.TokenKind.{TokenKind}
use Rattle.c_lex.specs.declared.token.TokenKind.TheVariants.{Number}
use Rattle.c_lex.specs.Blanks.{begins, begins_two}

abbrev pub is_digit : ℕ → Bool
is_digit b = nat_le 48 b && nat_le b 57

-- a digit of numbers with this base
abbrev pub is_digit_of : Base → ℕ → Bool
is_digit_of Decimal b = is_digit b
is_digit_of Octal b = nat_le 48 b && nat_le b 55
is_digit_of Hexadecimal b = is_digit b || (nat_le 97 b && nat_le b 102) || (nat_le 65 b && nat_le b 70)

abbrev pub digit_value : ℕ → ℕ
digit_value b = if is_digit b then b - 48 else (if nat_le 97 b then b - 87 else b - 55)

abbrev pub radix : Base → ℕ
radix Decimal = 10
radix Octal = 8
radix Hexadecimal = 16

-- the value of digits, of which the first counts most
abbrev pub value : ℕ → List ℕ → ℕ
value radix [] = 0
value radix (d ∷ ds) = digit_value d * radix ^ length ds + value radix ds

-- `u` or `U`
abbrev pub is_u : ℕ → Bool
is_u b = (b == 117) || (b == 85)

-- `l` or `L`
abbrev pub is_l : ℕ → Bool
is_l b = (b == 108) || (b == 76)

-- at most one of each, in either order
abbrev pub is_suffix : List ℕ → Bool
is_suffix [] = true
is_suffix (b ∷ []) = is_u b || is_l b
is_suffix (b ∷ c ∷ []) = (is_u b && is_l c) || (is_l b && is_u c)
is_suffix _ = false

abbrev pub has_u : List ℕ → Bool
has_u suffix = list_any is_u suffix

abbrev pub is_decimal : Base → Bool
is_decimal Decimal = true
is_decimal _ = false

-- a number of 32 bits, which must fit the signed type where it is decimal and doesn't ask for the unsigned one
abbrev pub fits : Base → Bool → ℕ → Bool
fits base asks_unsigned bits = nat_lt bits (2 ^ 32) && (not (is_decimal base) || asks_unsigned || nat_le bits 2147483647)

-- the type is unsigned where the number asks for it, or where it isn't decimal and doesn't fit the signed type
abbrev pub is_unsigned : Base → Bool → ℕ → Bool
is_unsigned base asks_unsigned bits = asks_unsigned || (not (is_decimal base) && nat_lt 2147483647 bits)

-- the number of these digits and this suffix, if they are those of one
abbrev pub number_with : Base → List ℕ → List ℕ → Option TokenKind
number_with base digits suffix =
    let bits = value (radix base) digits in
    if nat_lt 0 (length digits) && is_suffix suffix && fits base (has_u suffix) bits
    then Some (Number bits (is_unsigned base (has_u suffix) bits))
    else None

-- the number of a run of digits of this base, as many as there are, and of a suffix
abbrev pub number_in : Base → List ℕ → Option TokenKind
number_in base run =
    let count = prefix_len (is_digit_of base) run in
    number_with base (take count run) (drop count run)

-- the number that a run of digits, letters and `_` is: hexadecimal after `0x` or `0X`, octal if its first digit is 0, else decimal
abbrev pub number_of : List ℕ → Option TokenKind
number_of run =
    if begins_two 48 120 run || begins_two 48 88 run
    then number_in Hexadecimal (drop 2 run)
    else (if begins 48 run then number_in Octal run else number_in Decimal run)
