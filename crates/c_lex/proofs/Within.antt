-- What begins a text has one byte at least and no more than there are, and a name that it defines is new.
use Rattle.std.proofs.Common.{◌≡◌, ℕ, suc, ◌+◌, ◌-◌, ◌≤◌, ◌<◌, Bool, true, false, not, ◌&&◌, ◌==◌, if◌then◌else◌, List, [], ◌∷◌, length, take, drop, codes, Option, Some, None, refl, sym, ap, ◌∙◌, arith, length-drop}
use Rattle.std.proofs.lemmas.Bool.Decides.{nat_tests}
use Rattle.std.proofs.lemmas.List.Folds.{length-prefix_len}
use Rattle.std.proofs.lemmas.List.Sums.{prefix_len-le-length}
use Rattle.std.specs.List.{prefix_len}
use Rattle.std.specs.Option.{option_map}
use Rattle.std.specs.Str.{bytes_eq}
use Rattle.chk_base.specs.Places.{is_line_feed}
use Rattle.c_lex.specs.declared.token.TokenKind.{TokenKind}
use Rattle.c_lex.specs.declared.token.TokenKind.TheVariants.{Mark}
use Rattle.c_lex.specs.Blanks.{is_blank, begins, begins_two, line_length, close_length, comment_length, space_length, after_spaces}
use Rattle.c_lex.specs.Numbers.{number_of}
use Rattle.c_lex.specs.Pieces.{Known, PlainNumber, PlainPiece, End, Space, Defined, Spelled, BadByte, BadDirective, BadNumber, is_of_word, is_name, begins_digit, word_of, after_word, mark_length, meaning, may_define, definition, define_piece, gap_length, directive_piece, name_piece, number_piece, mark_piece, other_piece, space_or, piece}
use Rattle.c_lex.specs.Known.{IsWithin, DefinesNew}
use Rattle.c_lex.proofs.Closing.{two_long}
use Rattle.c_lex.proofs.Marks.{mark_within}
use Rattle.c_lex.proofs.Names.{may_be_new}
use Rattle.c_lex.proofs.Pieces.{name_some, number_some, within_more}

-- what holds of both answers of a test
either : (P : PlainPiece → Type 0) (c : Bool) (p q : PlainPiece) → (c ≡ true → P p) → (c ≡ false → P q) → P (if c then p else q)
either P true p q first second = first refl
either P false p q first second = second refl

close_within : (bytes : List ℕ) (n : ℕ) → close_length bytes ≡ Some n → (0 < n) × (n ≤ length bytes)
close_within [] n e = absurd cc
close_within (b ∷ bytes) n e = go (begins_two 42 47 (b ∷ bytes)) refl (close_length bytes) (close_within bytes) e
  where
    go : (c : Bool) → begins_two 42 47 (b ∷ bytes) ≡ c → (found : Option ℕ) → ((m : ℕ) → found ≡ Some m → (0 < m) × (m ≤ length bytes))
        → (if c then Some 2 else option_map (λ n. n + 1) found) ≡ Some n → (0 < n) × (n ≤ suc (length bytes))
    go true h found more e =
        let two : 2 ≤ suc (length bytes) = two_long 42 47 (b ∷ bytes) h in
        let s : n ≡ 2 = cc in
        (omega arith, omega arith)
    go false h None more e = absurd cc
    go false h (Some m) more e =
        let w : (0 < m) × (m ≤ length bytes) = more m refl in
        let s : n ≡ m + 1 = cc in
        (omega arith, omega arith)

left : (a b : Bool) → (a && b) ≡ true → a ≡ true
left true b h = refl
left false b h = h

slash_line : (bytes : List ℕ) → begins_two 47 47 bytes ≡ true → 0 < line_length bytes
slash_line [] h = absurd cc
slash_line (b ∷ bytes) h =
    let f : (b == 47) ≡ true = left (b == 47) (begins 47 bytes) h in
    let e : b ≡ 47 = grind arith in
    rw e (omega arith)

comment_within : (bytes : List ℕ) (n : ℕ) → comment_length bytes ≡ Some n → (0 < n) × (n ≤ length bytes)
comment_within bytes n e = go (begins_two 47 47 bytes) refl (begins_two 47 42 bytes) refl (close_length (drop 2 bytes)) (close_within (drop 2 bytes)) e
  where
    go : (c : Bool) → begins_two 47 47 bytes ≡ c → (d : Bool) → begins_two 47 42 bytes ≡ d → (found : Option ℕ) → ((m : ℕ) → found ≡ Some m → (0 < m) × (m ≤ length (drop 2 bytes)))
        → (if c then Some (line_length bytes) else (if d then option_map (λ n. n + 2) found else None)) ≡ Some n → (0 < n) × (n ≤ length bytes)
    go true h d i found more e =
        let s : n ≡ line_length bytes = cc in
        let lo : 0 < line_length bytes = slash_line bytes h in
        let hi : line_length bytes ≤ length bytes = prefix_len-le-length (λ b. not (is_line_feed b)) bytes in
        (rw s lo, rw s hi)
    go false h true i None more e = absurd cc
    go false h true i (Some m) more e =
        let w : (0 < m) × (m ≤ length (drop 2 bytes)) = more m refl in
        let s : n ≡ m + 2 = cc in
        let two : 2 ≤ length bytes = two_long 47 42 bytes i in
        let d : length (drop 2 bytes) ≡ length bytes - 2 = length-drop 2 bytes in
        (omega arith, omega arith)
    go false h false i found more e = absurd cc

-- a blank or comment has one byte at least, and no more than there are
pub space_within : (bytes : List ℕ) (n : ℕ) → space_length bytes ≡ Some n → (0 < n) × (n ≤ length bytes)
space_within [] n e = absurd cc
space_within (b ∷ bytes) n e = go (is_blank b) (comment_within (b ∷ bytes) n) e
  where
    go : (c : Bool) → (comment_length (b ∷ bytes) ≡ Some n → (0 < n) × (n ≤ suc (length bytes))) → (if c then Some 1 else comment_length (b ∷ bytes)) ≡ Some n → (0 < n) × (n ≤ suc (length bytes))
    go true more e = let s : n ≡ 1 = cc in (omega arith, omega arith)
    go false more e = more e

definition_within : (size : ℕ) (name run : List ℕ) (offset : ℕ) (kind : Option TokenKind) → 0 < size → offset ≤ size → IsWithin size (definition size name run offset kind)
definition_within size name run offset None lo le = le
definition_within size name run offset (Some kind) lo le = (lo, omega arith)

define_within : (known : Known) (size : ℕ) (rest : List ℕ) → 0 < size → IsWithin size (define_piece known size rest)
define_within known size rest lo =
    let name_on = after_spaces rest in
    let name = word_of name_on in
    let run_on = after_spaces (after_word name_on) in
    let run = word_of run_on in
    either (IsWithin size) (may_define known name run_on (after_spaces (after_word run_on))) (definition size name run (size - length run_on) (number_of run)) BadDirective
    (λ _. definition_within size name run (size - length run_on) (number_of run) lo (omega arith)) (λ _. tt)

directive_within : (known : Known) (line : List ℕ) → 0 < length line → IsWithin (length line) (directive_piece known line)
directive_within known line lo =
    let word_on = drop (gap_length (drop 1 line)) (drop 1 line) in
    let defines = define_piece known (length line) (after_word word_on) in
    let other = if bytes_eq (word_of word_on) (codes "define") then defines else BadDirective in
    either (IsWithin (length line)) (bytes_eq (word_of word_on) (codes "include")) (Space (length line)) other (λ _. (lo, omega arith))
    (λ _. either (IsWithin (length line)) (bytes_eq (word_of word_on) (codes "define")) defines BadDirective (λ _. define_within known (length line) (after_word word_on) lo) (λ _. tt))

name_within : (number : Option PlainNumber) (word : List ℕ) → 0 < length word → IsWithin (length word) (name_piece number word)
name_within None word lo = (lo, omega arith)
name_within (Some number) word lo = (lo, omega arith)

number_within : (kind : Option TokenKind) (run : List ℕ) → 0 < length run → IsWithin (length run) (number_piece kind run)
number_within None run lo = omega arith
number_within (Some kind) run lo = (lo, omega arith)

mark_piece_within : (bytes : List ℕ) → IsWithin (length bytes) (mark_piece bytes)
mark_piece_within bytes =
    let size = mark_length bytes in
    let mark = Spelled size Mark (take size bytes) in
    either (IsWithin (length bytes)) (begins_two 47 42 bytes) BadByte (if size == 0 then BadByte else mark) (λ _. tt)
    (λ _. either (IsWithin (length bytes)) (size == 0) BadByte mark (λ _. tt) (λ (some : (size == 0) ≡ false). (grind (arith, nat_tests), mark_within bytes)))

-- the line of a directive has a byte
pub hash_line : (bytes : List ℕ) → begins 35 bytes ≡ true → 0 < line_length bytes
hash_line [] h = absurd cc
hash_line (b ∷ bytes) h = let e : b ≡ 35 = grind arith in rw e (omega arith)

pub other_within : (known : Known) (bare : Bool) (bytes : List ℕ) → IsWithin (length bytes) (other_piece known bare bytes)
other_within known bare bytes =
    let line = take (line_length bytes) bytes in
    let word = word_of bytes in
    let n : length line ≡ line_length bytes = length-prefix_len (λ b. not (is_line_feed b)) bytes in
    let le : line_length bytes ≤ length bytes = prefix_len-le-length (λ b. not (is_line_feed b)) bytes in
    let m : length word ≡ prefix_len is_of_word bytes = length-prefix_len is_of_word bytes in
    let wide : prefix_len is_of_word bytes ≤ length bytes = prefix_len-le-length is_of_word bytes in
    let named = name_piece (meaning known word) word in
    let numbered = number_piece (number_of word) word in
    let fewer = if begins_digit bytes then numbered else mark_piece bytes in
    let P = IsWithin (length bytes) in
    either P (begins 35 bytes && bare) (directive_piece known line) (if is_name bytes then named else fewer)
    (λ (h : (begins 35 bytes && bare) ≡ true).
    let lo : 0 < length line = rw n (hash_line bytes (left (begins 35 bytes) bare h)) in
    within_more (length line) (length bytes) (directive_piece known line) lo (omega arith) (directive_within known line lo))
    (λ _. either P (is_name bytes) named fewer
    (λ (h : is_name bytes ≡ true). within_more (length word) (length bytes) named (name_some bytes h) (omega arith) (name_within (meaning known word) word (name_some bytes h)))
    (λ _. either P (begins_digit bytes) numbered (mark_piece bytes)
    (λ (h : begins_digit bytes ≡ true). within_more (length word) (length bytes) numbered (number_some bytes h) (omega arith) (number_within (number_of word) word (number_some bytes h)))
    (λ _. mark_piece_within bytes)))

-- what begins a text has one byte at least, and no more than there are
pub piece_within : (known : Known) (bare : Bool) (bytes : List ℕ) → IsWithin (length bytes) (piece known bare bytes)
piece_within known bare [] = refl
piece_within known bare (b ∷ bytes) = go (space_length (b ∷ bytes)) (space_within (b ∷ bytes))
  where
    go : (found : Option ℕ) → ((n : ℕ) → found ≡ Some n → (0 < n) × (n ≤ suc (length bytes))) → IsWithin (suc (length bytes)) (space_or found (other_piece known bare (b ∷ bytes)))
    go None within = other_within known bare (b ∷ bytes)
    go (Some n) within = within n refl

definition_new : (known : Known) (size : ℕ) (name run : List ℕ) (offset : ℕ) (kind : Option TokenKind) → meaning known name ≡ None → DefinesNew known (definition size name run offset kind)
definition_new known size name run offset None new = tt
definition_new known size name run offset (Some kind) new = new

define_new : (known : Known) (size : ℕ) (rest : List ℕ) → DefinesNew known (define_piece known size rest)
define_new known size rest =
    let name_on = after_spaces rest in
    let name = word_of name_on in
    let run_on = after_spaces (after_word name_on) in
    let run = word_of run_on in
    let last = after_spaces (after_word run_on) in
    either (DefinesNew known) (may_define known name run_on last) (definition size name run (size - length run_on) (number_of run)) BadDirective
    (λ (h : may_define known name run_on last ≡ true). definition_new known size name run (size - length run_on) (number_of run) (may_be_new known name run_on last h)) (λ _. tt)

directive_new : (known : Known) (line : List ℕ) → DefinesNew known (directive_piece known line)
directive_new known line =
    let word_on = drop (gap_length (drop 1 line)) (drop 1 line) in
    let defines = define_piece known (length line) (after_word word_on) in
    let other = if bytes_eq (word_of word_on) (codes "define") then defines else BadDirective in
    either (DefinesNew known) (bytes_eq (word_of word_on) (codes "include")) (Space (length line)) other (λ _. tt)
    (λ _. either (DefinesNew known) (bytes_eq (word_of word_on) (codes "define")) defines BadDirective (λ _. define_new known (length line) (after_word word_on)) (λ _. tt))

name_new : (known : Known) (number : Option PlainNumber) (word : List ℕ) → DefinesNew known (name_piece number word)
name_new known None word = tt
name_new known (Some number) word = tt

number_new : (known : Known) (kind : Option TokenKind) (run : List ℕ) → DefinesNew known (number_piece kind run)
number_new known None run = tt
number_new known (Some kind) run = tt

mark_new : (known : Known) (bytes : List ℕ) → DefinesNew known (mark_piece bytes)
mark_new known bytes =
    let size = mark_length bytes in
    let mark = Spelled size Mark (take size bytes) in
    either (DefinesNew known) (begins_two 47 42 bytes) BadByte (if size == 0 then BadByte else mark) (λ _. tt) (λ _. either (DefinesNew known) (size == 0) BadByte mark (λ _. tt) (λ _. tt))

pub other_new : (known : Known) (bare : Bool) (bytes : List ℕ) → DefinesNew known (other_piece known bare bytes)
other_new known bare bytes =
    let line = take (line_length bytes) bytes in
    let word = word_of bytes in
    let named = name_piece (meaning known word) word in
    let numbered = number_piece (number_of word) word in
    let fewer = if begins_digit bytes then numbered else mark_piece bytes in
    let P = DefinesNew known in
    either P (begins 35 bytes && bare) (directive_piece known line) (if is_name bytes then named else fewer) (λ _. directive_new known line)
    (λ _. either P (is_name bytes) named fewer (λ _. name_new known (meaning known word) word)
    (λ _. either P (begins_digit bytes) numbered (mark_piece bytes) (λ _. number_new known (number_of word) word) (λ _. mark_new known bytes)))

-- a name that a line defines wasn't defined before
pub piece_new : (known : Known) (bare : Bool) (bytes : List ℕ) → DefinesNew known (piece known bare bytes)
piece_new known bare [] = tt
piece_new known bare (b ∷ bytes) = go (space_length (b ∷ bytes))
  where
    go : (found : Option ℕ) → DefinesNew known (space_or found (other_piece known bare (b ∷ bytes)))
    go None = other_new known bare (b ∷ bytes)
    go (Some n) = tt
