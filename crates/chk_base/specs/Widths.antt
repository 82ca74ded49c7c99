-- Words of 1, 8, 16 or 32 bits, as plain data.
use Rattle.std.specs.Prelude.{ℕ, suc, ◌-◌, ◌^◌, ℤ, pos, negsuc, Bool, if◌then◌else◌, nat_lt}
use Rattle.chk_base.specs.declared.word.Width.{Width}
use Rattle.chk_base.specs.declared.word.Width.TheVariants.{W1, W8, W16, W32}

-- the number of bits of a width
abbrev pub bits_of : Width → ℕ
bits_of W1 = 1
bits_of W8 = 8
bits_of W16 = 16
bits_of W32 = 32

-- the values of a width are the numbers below its limit
abbrev pub limit_of : Width → ℕ
limit_of w = 2 ^ bits_of w

-- what contracts see of a word: its width and its bits as a number
pub record PlainWord : Type 0 where
  pub width : Width
  pub bits : ℕ

-- the word 0 of a width
abbrev pub zero_word : Width → PlainWord
zero_word w = record { width = w; bits = 0 }

-- the signed reading of a number of so many bits: 2^bits is subtracted where the top bit is 1
abbrev pub signed_of : ℕ → ℕ → ℤ
signed_of bits n = if nat_lt n (2 ^ (bits - 1)) then pos n else negsuc (2 ^ bits - suc n)

-- a whole number from -2^32 to 2^32 - 1, modulo 2^32
abbrev pub unsigned : ℤ → ℕ
unsigned (pos n) = n
unsigned (negsuc n) = 2 ^ 32 - suc n

-- the reading of a word, signed or unsigned
abbrev pub reading_of : Bool → PlainWord → ℤ
reading_of is_signed w = if is_signed then signed_of (bits_of w.width) w.bits else pos w.bits

-- the reading of a word as a value of 32 bits
abbrev pub read_as : Bool → PlainWord → ℕ
read_as is_signed w = if is_signed then unsigned (signed_of (bits_of w.width) w.bits) else w.bits
