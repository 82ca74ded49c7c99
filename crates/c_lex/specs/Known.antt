-- What the reader of tokens keeps, as plain data.
use Rattle.std.specs.Prelude.{◌≡◌, ℕ, ◌<◌, ◌≤◌, List, length, map, Option, None}
use Rattle.std.specs.Borrow.{Bor}
use Rattle.std.specs.Option.{option_map}
use Rattle.c_lex.specs.declared.piece.NumberToken.{NumberToken}
use Rattle.c_lex.specs.declared.piece.Piece.{Piece}
use Rattle.c_lex.specs.declared.piece.Piece.TheVariants as of
use Rattle.c_lex.specs.Pieces.{PlainNumber, PlainPiece, Known, meaning, End, Space, Defined, Spelled, BadByte, BadDirective, BadNumber}

-- a number token without where its bytes lie in memory
abbrev pub plain_number : NumberToken → PlainNumber
plain_number number = record { kind = number.kind; text = number.text.now }

-- a name and what it stands for, without where they lie in memory
abbrev pub plain_entry : Bor (List ℕ) × NumberToken → List ℕ × PlainNumber
plain_entry entry = (entry.0.now, plain_number entry.1)

-- the entries of a map of names
abbrev pub plain_known : List (Bor (List ℕ) × NumberToken) → Known
plain_known entries = map plain_entry entries

-- a piece without where its bytes lie in memory
abbrev pub plain_piece : Piece → PlainPiece
plain_piece of.End = End
plain_piece (of.Space size) = Space size
plain_piece (of.Defined size name number) = Defined size name.now (plain_number number)
plain_piece (of.Spelled size kind text) = Spelled size kind text.now
plain_piece of.BadByte = BadByte
plain_piece of.BadDirective = BadDirective
plain_piece (of.BadNumber offset) = BadNumber offset

-- a piece has one byte at least, and no more than there are; what stands before a run that is no number has no more; there is no piece
-- where there are no bytes
abbrev pub IsWithin : ℕ → PlainPiece → Type 0
IsWithin count End = count ≡ 0
IsWithin count (Space size) = (0 < size) × (size ≤ count)
IsWithin count (Defined size name number) = (0 < size) × (size ≤ count)
IsWithin count (Spelled size kind text) = (0 < size) × (size ≤ count)
IsWithin count (BadNumber offset) = offset ≤ count
IsWithin count _ = Unit {0}

-- a name that is defined wasn't defined before
abbrev pub DefinesNew : Known → PlainPiece → Type 0
DefinesNew known (Defined size name number) = meaning known name ≡ None
DefinesNew known _ = Unit {0}
