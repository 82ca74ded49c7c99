-- Pieces, and how many bytes they have.
use Rattle.std.proofs.Common.{◌≡◌, ℕ, ◌+◌, ◌≤◌, ◌<◌, Bool, true, false, cond, not, ◌||◌, ◌==◌, List, [], ◌∷◌, length, take, Option, Some, None, refl, sym, ap, ◌∙◌, arith}
use Rattle.std.specs.List.{prefix_len}
use Rattle.chk_base.specs.Places.{is_line_feed}
use Rattle.std.proofs.lemmas.List.Folds.{length-prefix_len}
use Rattle.c_lex.specs.Blanks.{begins, line_length, space_length}
use Rattle.c_lex.specs.Numbers.{is_digit}
use Rattle.c_lex.specs.Pieces.{Known, PlainPiece, End, Space, Defined, Spelled, BadByte, BadDirective, BadNumber, is_letter, is_of_word, is_name, begins_digit, word_of, piece, other_piece, space_or}
use Rattle.c_lex.specs.Known.{IsWithin}

-- a text that isn't empty begins with a blank or comment, or with what begins it else
pub space_piece : (known : Known) (bare : Bool) (bytes : List ℕ) (size : ℕ) → space_length bytes ≡ Some size → piece known bare bytes ≡ Space size
space_piece known bare [] size h = absurd cc
space_piece known bare (b ∷ bytes) size h = rw h refl

pub no_space_piece : (known : Known) (bare : Bool) (bytes : List ℕ) → 0 < length bytes → space_length bytes ≡ None → piece known bare bytes ≡ other_piece known bare bytes
no_space_piece known bare [] some h = absurd (omega arith)
no_space_piece known bare (b ∷ bytes) some h = rw h refl

-- more bytes are there
pub within_more : (few many : ℕ) (found : PlainPiece) → 0 < few → few ≤ many → IsWithin few found → IsWithin many found
within_more few many End lo le h = absurd (omega (arith, h))
within_more few many (Space size) lo le h = (h.0, omega (arith, h.1))
within_more few many (Defined size name number) lo le h = (h.0, omega (arith, h.1))
within_more few many (Spelled size kind text) lo le h = (h.0, omega (arith, h.1))
within_more few many BadByte lo le h = tt
within_more few many BadDirective lo le h = tt
within_more few many (BadNumber offset) lo le h = omega (arith, h)

run_some : (b : ℕ) (bytes : List ℕ) → is_of_word b ≡ true → 0 < length (word_of (b ∷ bytes))
run_some b bytes h = rw (length-prefix_len is_of_word (b ∷ bytes)) (rw h (omega arith))

-- a name has a byte
pub name_some : (bytes : List ℕ) → is_name bytes ≡ true → 0 < length (word_of bytes)
name_some [] h = absurd cc
name_some (b ∷ bytes) h = run_some b bytes (rw h refl)

-- a number has a byte
pub number_some : (bytes : List ℕ) → begins_digit bytes ≡ true → 0 < length (word_of bytes)
number_some [] h = absurd cc
number_some (b ∷ bytes) h = run_some b bytes (go (is_letter b) h)
  where
    go : (c : Bool) → is_digit b ≡ true → (c || is_digit b) ≡ true
    go true h = refl
    go false h = h
