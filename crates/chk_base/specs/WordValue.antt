-- The value of an expression over cells.
use Rattle.std.specs.Prelude.{ℕ, ◌+◌, ◌<◌, ◌≤◌, Bool, if◌then◌else◌, nat_lt, List, Option, Some, None, slice_get}
use Rattle.chk_base.specs.declared.word.Width.TheVariants.{W32}
use Rattle.chk_base.specs.Widths.{PlainWord, zero_word, read_as}
use Rattle.chk_base.specs.Operators.{truth, unary_value, binary_value}
use Rattle.chk_base.specs.Term.{Term, Const, Cell, Pick, Un, Bin, Choose}

-- the element of an array at this index, and 0 outside the array
abbrev pub picked : (ℕ → PlainWord) → ℕ → ℕ → Bool → ℕ → ℕ
picked cells base len s index = if nat_lt index len then read_as s (cells (base + index)) else 0

-- the second value where the first isn't 0, and else the third
abbrev pub chosen : ℕ → ℕ → ℕ → ℕ
chosen c a b = if truth c then a else b

-- the value of an expression where the cells hold these words: a number below 2^32
abbrev pub value : Term → (ℕ → PlainWord) → ℕ
value (Const n) cells = n
value (Cell at s) cells = read_as s (cells at)
value (Pick base len s index) cells = picked cells base len s (value index cells)
value (Un op a) cells = unary_value op (value a cells)
value (Bin op a b) cells = binary_value op (value a cells) (value b cells)
value (Choose c a b) cells = chosen (value c cells) (value a cells) (value b cells)

-- the word of a cell that is there, and else the word 0
abbrev pub word_or : Option PlainWord → PlainWord
word_or None = zero_word W32
word_or (Some w) = w

-- the word with this number
abbrev pub word_at : List PlainWord → ℕ → PlainWord
word_at cells at = word_or (slice_get cells at)

-- every cell that an expression names is among the first n
abbrev pub IsWithin : ℕ → Term → Type 0
IsWithin n (Const k) = Unit {0}
IsWithin n (Cell at s) = at < n
IsWithin n (Pick base len s index) = (base + len ≤ n) × IsWithin n index
IsWithin n (Un op a) = IsWithin n a
IsWithin n (Bin op a b) = IsWithin n a × IsWithin n b
IsWithin n (Choose c a b) = IsWithin n c × IsWithin n a × IsWithin n b
