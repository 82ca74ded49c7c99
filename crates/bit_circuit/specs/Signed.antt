-- Words by sign and size, for the circuits of the signed operators.
use Rattle.std.specs.Prelude.{ℕ, ◌+◌, ◌-◌, ◌%◌, ◌^◌, Bool, if◌then◌else◌, nat_le, not}
use Rattle.bit_circuit.specs.Extension.{xor}

-- the sign of a word
abbrev pub is_negative : ℕ → Bool
is_negative n = nat_le (2 ^ 31) n

-- all bits turned where the test is true
abbrev pub flipped_if : Bool → ℕ → ℕ
flipped_if c n = if c then 2 ^ 32 - 1 - n else n

-- the negative of a word where the test is true
abbrev pub negated_if : Bool → ℕ → ℕ
negated_if c n = if c then (2 ^ 32 - n) % 2 ^ 32 else n

-- the absolute value
abbrev pub absolute_value : ℕ → ℕ
absolute_value n = negated_if (is_negative n) n

-- the highest bit turned: the signed reading plus 2^31
abbrev pub turned_word : ℕ → ℕ
turned_word n = (n + 2 ^ 31) % 2 ^ 32

-- the signed range, moved up by 2^32
abbrev pub is_outside : ℕ → Bool
is_outside x = not (xor (nat_le (2 ^ 32) x) (nat_le (2 ^ 31) (x % 2 ^ 32)))

-- the low bits, and above them all ones where the test is true
abbrev pub extended : ℕ → Bool → ℕ → ℕ
extended k c n = if c then n % 2 ^ k + (2 ^ 32 - 2 ^ k) else n % 2 ^ k
