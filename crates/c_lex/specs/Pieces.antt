-- What begins a text of C: a blank, a comment, a directive or a token, the longest that begins there, or a fault.
use Rattle.std.specs.Prelude.{ℕ, ◌+◌, ◌-◌, Bool, not, ◌&&◌, ◌||◌, if◌then◌else◌, ◌==◌, nat_le, nat_eq, max, true, false, List, [], ◌∷◌, length, fold, take, drop, codes, Option, Some, None, is_some}
use Rattle.std.specs.List.{list_any, prefix_len, starts_with}
use Rattle.std.specs.Map.{lookup}
use Rattle.std.specs.Str.{bytes_eq}
use Rattle.c_lex.specs.declared.words.TheConstants.{MARKS, RESERVED}
use Rattle.c_lex.specs.declared.token.TokenKind.{TokenKind}
use Rattle.c_lex.specs.declared.token.TokenKind.TheVariants.{Word, Name, Mark}
use Rattle.c_lex.specs.Blanks.{begins, begins_two, line_length, space_length, after_spaces}
use Rattle.c_lex.specs.Numbers.{is_digit, number_of}

-- an ASCII letter or `_`
abbrev pub is_letter : ℕ → Bool
is_letter b = (nat_le 65 b && nat_le b 90) || (nat_le 97 b && nat_le b 122) || (b == 95)

-- a letter, a digit or `_`
abbrev pub is_of_word : ℕ → Bool
is_of_word b = is_letter b || is_digit b

-- the longest run of letters, digits and `_` at the front
abbrev pub word_of : List ℕ → List ℕ
word_of bytes = take (prefix_len is_of_word bytes) bytes

-- what stands after that run
abbrev pub after_word : List ℕ → List ℕ
after_word bytes = drop (prefix_len is_of_word bytes) bytes

-- a name or a reserved word, and no number
abbrev pub is_name : List ℕ → Bool
is_name [] = false
is_name (b ∷ bs) = is_letter b

-- these bytes begin with a digit
abbrev pub begins_digit : List ℕ → Bool
begins_digit [] = false
begins_digit (b ∷ bs) = is_digit b

-- there are no bytes
abbrev pub is_nil : List ℕ → Bool
is_nil [] = true
is_nil _ = false

-- a word is reserved
unfoldable pub is_reserved : List ℕ → Bool
is_reserved word = list_any (λ reserved. bytes_eq reserved.now word) RESERVED

-- how many bytes a mark has, if it begins these bytes, and else 0
abbrev pub front_length : (mark bytes : List ℕ) → ℕ
front_length mark bytes = if starts_with nat_eq bytes mark then length mark else 0

-- how many bytes the longest of these marks has that begins here, 0 where none does
abbrev pub longest_of : {X : Type 0} → (X → List ℕ) → List X → List ℕ → ℕ
longest_of spelling marks bytes = fold (λ n mark. max n (front_length (spelling mark) bytes)) 0 marks

-- how many bytes the longest mark has that begins here (ISO/IEC 9899:1999, 6.4.6), 0 where none does
unfoldable pub mark_length : List ℕ → ℕ
mark_length bytes = longest_of (λ mark. mark.now) MARKS bytes

-- a number token: its kind, and the bytes that it has
pub record PlainNumber : Type 0 where
  pub kind : TokenKind
  pub text : List ℕ

-- the names that are defined, each with the number token that it stands for
abbrev pub Known : Type 0
Known = List (List ℕ × PlainNumber)

-- the number token that a name stands for, if it is defined
abbrev pub meaning : Known → List ℕ → Option PlainNumber
meaning known name = lookup (bytes_eq name) known

-- what begins a text, with how many bytes it has
pub data PlainPiece : Type 0 where
  -- the text is empty
  End : PlainPiece
  -- a blank, a comment, or a line that includes
  Space : (size : ℕ) → PlainPiece
  -- a line that defines a name
  Defined : (size : ℕ) → (name : List ℕ) → PlainNumber → PlainPiece
  -- a token of this kind and these bytes
  Spelled : (size : ℕ) → TokenKind → (text : List ℕ) → PlainPiece
  -- nothing begins here
  BadByte : PlainPiece
  -- no directive that is read begins here
  BadDirective : PlainPiece
  -- the run of digits and letters after so many bytes is no number
  BadNumber : (offset : ℕ) → PlainPiece

-- a line that defines, by the run that is to be the number and stands at an offset
abbrev pub definition : (size : ℕ) → (name run : List ℕ) → (offset : ℕ) → Option TokenKind → PlainPiece
definition size name run offset None = BadNumber offset
definition size name run offset (Some kind) = Defined size name (record { kind = kind; text = run })

-- a name may be defined, a number may begin behind it, and nothing is left behind that
abbrev pub may_define : Known → (name run_on rest : List ℕ) → Bool
may_define known name run_on rest = is_name name && not (is_reserved name) && not (is_some (meaning known name)) && begins_digit run_on && is_nil rest

-- a line of so many bytes that defines, from after its word `define` on: blanks and comments may stand around a name that isn't reserved
-- and not yet defined, and around a number, and nothing else may stand there
abbrev pub define_piece : Known → (size : ℕ) → List ℕ → PlainPiece
define_piece known size rest =
    let name_on = after_spaces rest in
    let name = word_of name_on in
    let run_on = after_spaces (after_word name_on) in
    let run = word_of run_on in
    if may_define known name run_on (after_spaces (after_word run_on))
    then definition size name run (size - length run_on) (number_of run)
    else BadDirective

-- how many spaces and tabs stand at the front
abbrev pub gap_length : List ℕ → ℕ
gap_length bytes = prefix_len (λ b. (b == 32) || (b == 9)) bytes

-- a line that begins with `#` (ISO/IEC 9899:1999, 6.10), of which only `include` and `define` are read
abbrev pub directive_piece : Known → List ℕ → PlainPiece
directive_piece known line =
    let word_on = drop (gap_length (drop 1 line)) (drop 1 line) in
    if bytes_eq (word_of word_on) (codes "include")
    then Space (length line)
    else (if bytes_eq (word_of word_on) (codes "define") then define_piece known (length line) (after_word word_on) else BadDirective)

-- a word that is reserved or a name; a defined name is the number token that it stands for
abbrev pub name_piece : Option PlainNumber → List ℕ → PlainPiece
name_piece None word = Spelled (length word) (if is_reserved word then Word else Name) word
name_piece (Some number) word = Spelled (length word) number.kind number.text

-- a number
abbrev pub number_piece : Option TokenKind → List ℕ → PlainPiece
number_piece None run = BadNumber 0
number_piece (Some kind) run = Spelled (length run) kind run

-- a mark; none begins where a comment does
abbrev pub mark_piece : List ℕ → PlainPiece
mark_piece bytes =
    if begins_two 47 42 bytes
    then BadByte
    else (if mark_length bytes == 0 then BadByte else Spelled (mark_length bytes) Mark (take (mark_length bytes) bytes))

-- what begins here that is no blank or comment; only a `#` before which nothing but blanks stands on its line begins a directive
abbrev pub other_piece : Known → Bool → List ℕ → PlainPiece
other_piece known bare bytes =
    if begins 35 bytes && bare
    then directive_piece known (take (line_length bytes) bytes)
    else (if is_name bytes
    then name_piece (meaning known (word_of bytes)) (word_of bytes)
    else (if begins_digit bytes then number_piece (number_of (word_of bytes)) (word_of bytes) else mark_piece bytes))

-- a blank or comment of this length, or else what begins here
abbrev pub space_or : Option ℕ → PlainPiece → PlainPiece
space_or None other = other
space_or (Some size) other = Space size

-- what begins here, where these names are defined, and only blanks stand before it on its line or not
abbrev pub piece : Known → Bool → List ℕ → PlainPiece
piece known bare [] = End
piece known bare (b ∷ bs) = space_or (space_length (b ∷ bs)) (other_piece known bare (b ∷ bs))
