-- Pieces of a text: blanks, comments and tokens.
use Rattle.std.specs.Prelude.{◌≡◌, ℕ, ◌≤◌, ◌<◌, Bool, true, false, ◌&&◌, ◌==◌, cond, List, [], ◌∷◌, length, take, Option, Some, None}
use Rattle.std.specs.List.{list_all}
use Rattle.std.specs.Option.{is_some}
use Rattle.oil_text.specs.Bytes.{is_blank, is_digit, is_hexadecimal, is_letter, is_of_name, is_of_line, is_x, is_e, is_sign, mark_of}
use Rattle.oil_text.specs.declared.token.Mark.{Mark}
use Rattle.oil_text.specs.declared.token.Kind.{Kind}
use Rattle.oil_text.specs.declared.token.Kind.TheVariants as kinds
use Rattle.oil_text.specs.declared.token.Piece.{Piece}
use Rattle.oil_text.specs.declared.token.Piece.TheVariants.{Skipped, Spelled}

abbrev pub is_end : List ℕ → Bool
is_end [] = true
is_end (b ∷ bs) = false

-- after all bytes in front that pass the test, what follows passes next
abbrev pub after : (ℕ → Bool) → (List ℕ → Bool) → List ℕ → Bool
after test next [] = next []
after test next (b ∷ bs) = cond (test b) (after test next bs) (next (b ∷ bs))

-- at least one byte in front passes the test, and what follows all that do passes next
abbrev pub after_some : (ℕ → Bool) → (List ℕ → Bool) → List ℕ → Bool
after_some test next [] = false
after_some test next (b ∷ bs) = test b && after test next bs

-- these bytes stand in front, and what follows them passes next
abbrev pub after_bytes : List ℕ → (List ℕ → Bool) → List ℕ → Bool
after_bytes [] next bs = next bs
after_bytes (c ∷ cs) next [] = false
after_bytes (c ∷ cs) next (b ∷ bs) = c == b && after_bytes cs next bs

-- ---- numbers

-- 0x or 0X and then hexadecimal digits
abbrev pub is_hexadecimal_number : List ℕ → Bool
is_hexadecimal_number (b ∷ c ∷ bs) = (b == 48 && is_x c) && after_some is_hexadecimal is_end bs
is_hexadecimal_number _ = false

-- digits, or a hexadecimal number
abbrev pub is_integer : List ℕ → Bool
is_integer bs = cond (after_some is_digit is_end bs) true (is_hexadecimal_number bs)

-- nothing, or e or E, a sign and digits
abbrev pub is_exponent : List ℕ → Bool
is_exponent [] = true
is_exponent (b ∷ c ∷ bs) = (is_e b && is_sign c) && after_some is_digit is_end bs
is_exponent (b ∷ []) = false

-- a point, digits, and an exponent if there is one
abbrev pub is_fraction : List ℕ → Bool
is_fraction [] = false
is_fraction (b ∷ bs) = b == 46 && after_some is_digit is_exponent bs

-- digits and a fraction
abbrev pub is_point : List ℕ → Bool
is_point bs = after_some is_digit is_fraction bs

-- ---- strings, comments and includes, each without its first byte

-- bytes but the quotation mark and the line feed, and then a quotation mark
abbrev pub is_string_end : List ℕ → Bool
is_string_end [] = false
is_string_end (b ∷ bs) = cond (b == 34) (is_end bs) (is_of_line b && is_string_end bs)

-- any bytes up to the first */, and that
abbrev pub is_comment_end : List ℕ → Bool
is_comment_end [] = false
is_comment_end (b ∷ bs) = cond (after_bytes (42 ∷ 47 ∷ []) (λ more. true) (b ∷ bs)) (after_bytes (42 ∷ 47 ∷ []) is_end (b ∷ bs)) (is_comment_end bs)

-- after a /: another and no line feed, or * and any bytes up to the first */, and that
abbrev pub is_comment : List ℕ → Bool
is_comment [] = false
is_comment (b ∷ bs) = cond (b == 47) (list_all is_of_line bs) (b == 42 && is_comment_end bs)

-- after a #: the word include, and no line feed
abbrev pub is_include : List ℕ → Bool
is_include bs = after_bytes (105 ∷ 110 ∷ 99 ∷ 108 ∷ 117 ∷ 100 ∷ 101 ∷ []) (list_all is_of_line) bs

-- ---- pieces

-- the kind of a name: the words OIL_VERSION, IMPLEMENTATION and CPU have kinds of their own
abbrev pub name_kind : List ℕ → Kind
name_kind bs =
    cond (after_bytes (79 ∷ 73 ∷ 76 ∷ 95 ∷ 86 ∷ 69 ∷ 82 ∷ 83 ∷ 73 ∷ 79 ∷ 78 ∷ []) is_end bs) kinds.Version
    (cond (after_bytes (73 ∷ 77 ∷ 80 ∷ 76 ∷ 69 ∷ 77 ∷ 69 ∷ 78 ∷ 84 ∷ 65 ∷ 84 ∷ 73 ∷ 79 ∷ 78 ∷ []) is_end bs) kinds.Implementation
    (cond (after_bytes (67 ∷ 80 ∷ 85 ∷ []) is_end bs) kinds.Cpu kinds.OtherName))

-- the piece, where the bytes are one
abbrev pub given : Bool → Piece → Option Piece
given holds piece = cond holds (Some piece) None

abbrev pub number_piece : List ℕ → Option Piece
number_piece bs = cond (is_integer bs) (Some (Spelled kinds.Integer)) (given (is_point bs) (Spelled kinds.Point))

abbrev pub mark_piece : Option Mark → List ℕ → Option Piece
mark_piece None bs = None
mark_piece (Some mark) bs = given (is_end bs) (Spelled (kinds.Mark mark))

-- The piece that the bytes are as a whole, if they are one. The first byte says of which sort it can be.
abbrev pub piece_of : List ℕ → Option Piece
piece_of [] = None
piece_of (b ∷ bs) =
    cond (is_blank b) (given (is_end bs) Skipped)
    (cond (is_letter b) (given (list_all is_of_name bs) (Spelled (name_kind (b ∷ bs))))
    (cond (is_digit b) (number_piece (b ∷ bs))
    (cond (b == 34) (given (is_string_end bs) (Spelled kinds.Quoted))
    (cond (b == 35) (given (is_include bs) (Spelled kinds.Include))
    (cond (b == 47) (given (is_comment bs) Skipped)
    (mark_piece (mark_of b) bs))))))

abbrev pub is_piece : List ℕ → Bool
is_piece bs = is_some (piece_of bs)

-- ---- the longest match

-- so many bytes in front of the text pass, and no more do
pub record IsLongest (passes : List ℕ → Bool) (text : List ℕ) (n : ℕ) : Type 0 where
  pub within : n ≤ length text
  pub passing : passes (take n text) ≡ true
  pub no_longer : (m : ℕ) → n < m → m ≤ length text → passes (take m text) ≡ false

-- no bytes in front of the text pass
abbrev pub NonePasses : (List ℕ → Bool) → List ℕ → Type 0
NonePasses passes text = (m : ℕ) → m ≤ length text → passes (take m text) ≡ false

-- the longest piece that the text begins with has so many bytes, and is this one
pub record BeginsWith (text : List ℕ) (piece : Piece) (n : ℕ) : Type 0 where
  pub longest : IsLongest is_piece text n
  pub is_so : piece_of (take n text) ≡ Some piece
