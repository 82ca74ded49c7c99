-- The tokens that a text of C spells, or its first fault.
use Rattle.std.specs.Prelude.{◌≡◌, ℕ, ◌+◌, List, [], ◌∷◌, ◌++◌, take, drop, Result, Ok, Err}
use Rattle.chk_base.specs.Places.{place_after}
use Rattle.c_lex.specs.declared.fault.LexFault.{LexFault}
use Rattle.c_lex.specs.declared.fault.LexFault.TheVariants as fault
use Rattle.c_lex.specs.declared.token.Token.{Token}
use Rattle.c_lex.specs.Cursor.{is_bare}
use Rattle.c_lex.specs.Pieces.{Known, PlainNumber, PlainPiece, End, Space, Defined, Spelled, BadByte, BadDirective, BadNumber, piece}
use Rattle.c_lex.specs.PlainTokens.{PlainTokens}

-- tokens, or the first fault
abbrev pub Reading : Type 0
Reading = Result (List Token) LexFault

-- these tokens, and then those of the rest, if it has no fault
abbrev pub prepend : List Token → Reading → Reading
prepend tokens (Ok others) = Ok (tokens ++ others)
prepend tokens (Err fault) = Err fault

-- what begins after so many bytes of a text
abbrev pub piece_at : List ℕ → Known → ℕ → PlainPiece
piece_at text known at = piece known (is_bare (take at text)) (drop at text)

-- After so many bytes of a text, where these names are defined, the rest of it spells these tokens, or has this as its first fault.
pub data Reads (text : List ℕ) : Known → ℕ → Reading → Type 0 where
  Ends : (known : Known) (at : ℕ) → piece_at text known at ≡ End → Reads text known at (Ok [])
  Passes : (known : Known) (at : ℕ) (rest : Reading) (size : ℕ) → piece_at text known at ≡ Space size → Reads text known (at + size) rest → Reads text known at rest
  -- a name is defined from after its line on
  Defines : (known : Known) (at : ℕ) (rest : Reading) (size : ℕ) (name : List ℕ) (number : PlainNumber) → piece_at text known at ≡ Defined size name number → Reads text (known ++ (name, number) ∷ []) (at + size) rest → Reads text known at rest
  Spells : (known : Known) (at : ℕ) (rest : Reading) (size : ℕ) (token : Token) → piece_at text known at ≡ Spelled size token.kind token.text → token.place ≡ place_after (take at text) → Reads text known (at + size) rest → Reads text known at (prepend (token ∷ []) rest)
  HasByte : (known : Known) (at : ℕ) → piece_at text known at ≡ BadByte → Reads text known at (Err (fault.Byte (place_after (take at text))))
  HasDirective : (known : Known) (at : ℕ) → piece_at text known at ≡ BadDirective → Reads text known at (Err (fault.Directive (place_after (take at text))))
  HasNumber : (known : Known) (at offset : ℕ) → piece_at text known at ≡ BadNumber offset → Reads text known at (Err (fault.Number (place_after (take (at + offset) text))))

-- what a whole text spells, or its first fault
abbrev pub IsReading : List ℕ → Reading → Type 0
IsReading text reading = Reads text [] 0 reading

-- a text spells these tokens
pub record IsCTokens (text : List ℕ) (tokens : PlainTokens) : Type 0 where
  pub spelled : IsReading text (Ok tokens.items)
  pub end : tokens.end ≡ place_after text

-- a text has this as its first fault; memory may run out at any text
abbrev pub IsFirstFault : List ℕ → LexFault → Type 0
IsFirstFault text fault.Memory = Unit {0}
IsFirstFault text other = IsReading text (Err other)
