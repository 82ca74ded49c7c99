-- The tokens of an OIL text, and the first byte where none begins.
use Rattle.std.specs.Prelude.{◌≡◌, ℕ, ◌-◌, List, [], ◌∷◌, ◌++◌, length, take, drop, Option, Some, None}
use Rattle.std.specs.List.{concat}
use Rattle.chk_base.specs.declared.place.Place.{Place}
use Rattle.chk_base.specs.Places.{place_after}
use Rattle.oil_text.specs.declared.token.Kind.{Kind}
use Rattle.oil_text.specs.declared.token.Kind.TheVariants as kinds
use Rattle.oil_text.specs.declared.token.Piece.{Piece}
use Rattle.oil_text.specs.declared.token.Piece.TheVariants.{Skipped, Spelled}
use Rattle.oil_text.specs.declared.token.Token.{Token}
use Rattle.oil_text.specs.Pieces.{piece_of, is_piece, IsLongest, NonePasses}

-- the text that a token of this kind and these bytes has: that of a string is what stands between the quotation marks, marks and includes have none
abbrev pub text_of : Kind → List ℕ → List ℕ
text_of kinds.Quoted bytes = take (length bytes - 2) (drop 1 bytes)
text_of kinds.Include bytes = []
text_of (kinds.Mark mark) bytes = []
text_of _ bytes = bytes

-- the token of a piece with these bytes at this place, if it is one
abbrev pub token_of : Option Piece → List ℕ → Place → List Token
token_of (Some (Spelled kind)) bytes place = record { kind = kind; text = text_of kind bytes; place = place } ∷ []
token_of (Some Skipped) bytes place = []
token_of None bytes place = []

-- the tokens of pieces that stand after these bytes
abbrev pub tokens_of : List ℕ → List (List ℕ) → List Token
tokens_of before [] = []
tokens_of before (bytes ∷ more) = token_of (piece_of bytes) bytes (place_after before) ++ tokens_of (before ++ bytes) more

-- each of the pieces is the longest that begins at its place, where the rest stands after the last
abbrev pub AreLongest : List (List ℕ) → List ℕ → Type 0
AreLongest [] rest = Unit {0}
AreLongest (bytes ∷ more) rest = IsLongest is_piece (bytes ++ (concat more ++ rest)) (length bytes) × AreLongest more rest

-- the text is the tokens' bytes in order, with blanks and comments between them, each the longest that begins at its place
pub record AreTokensOf (text : List ℕ) (tokens : List Token) : Type 0 where
  pub pieces : List (List ℕ)
  pub parts : text ≡ concat pieces
  pub longest : AreLongest pieces []
  pub tokens_are : tokens_of [] pieces ≡ tokens

-- the place is that of the first byte where no blank, comment or token begins
pub record IsByteFault (text : List ℕ) (place : Place) : Type 0 where
  pub pieces : List (List ℕ)
  pub rest : List ℕ
  pub parts : text ≡ concat pieces ++ rest
  pub longest : AreLongest pieces rest
  pub not_at_end : rest ≡ [] → ⊥
  pub none_begins : NonePasses is_piece rest
  pub place_is : place ≡ place_after (concat pieces)
