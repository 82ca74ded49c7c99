-- With which piece a text begins, by its first byte.
use Rattle.std.proofs.Common.{◌≡◌, ◌∙◌, ℕ, zero, suc, ◌+◌, ◌-◌, ◌≤◌, ◌<◌, Bool, true, false, ◌&&◌, ◌==◌, cond, List, [], ◌∷◌, length, take, drop, get_or, refl, sym, ap, arith, add-one, Some, None}
use Rattle.std.specs.List.{prefix_len, list_all}
use Rattle.std.specs.Option.{is_some}
use Rattle.std.proofs.lemmas.Bool.{eqb-true}
use Rattle.std.proofs.lemmas.List.{get_or-drop, length-drop}
use Rattle.oil_text.specs.Bytes.{is_blank, is_digit, is_hexadecimal, is_letter, is_of_name, is_of_line, is_x, is_e, is_sign, mark_of}
use Rattle.oil_text.specs.Pieces.{after_some, after_bytes, is_end, is_hexadecimal_number, is_integer, is_exponent, is_fraction, is_point, is_string_end, is_comment_end, is_comment, is_include, name_kind, given, number_piece, piece_of, is_piece, IsLongest, NonePasses, BeginsWith}
use Rattle.oil_text.specs.declared.token.Mark.{Mark}
use Rattle.oil_text.specs.declared.token.Kind.TheVariants as kinds
use Rattle.oil_text.specs.declared.token.Piece.{Piece}
use Rattle.oil_text.specs.declared.token.Piece.TheVariants.{Skipped, Spelled}
use Rattle.oil_text.proofs.Longest.{Behind, behind_step, behind_found, behind_none, some_longest, some_none, no_some, end_longest, run_longest, all_longest, bytes_longest, bytes_none}

-- ---- a piece is its first byte and what follows

pub differ : (a b : ℕ) → (a ≡ b → ⊥) → (a == b) ≡ false
differ a b h = go (a == b) refl
  where
    go : (t : Bool) → (a == b) ≡ t → (a == b) ≡ false
    go true e = absurd (h (eqb-true a b e))
    go false e = e

some_given : (t : Bool) (p : Piece) → is_some (given t p) ≡ t
some_given true p = refl
some_given false p = refl

begins : (b : ℕ) (bs : List ℕ) (sort : List ℕ → Bool) (piece : List ℕ → Piece) → ((x : List ℕ) → piece_of (b ∷ x) ≡ given (sort x) (piece x)) → (k : ℕ) → IsLongest sort bs k → BeginsWith (b ∷ bs) (piece (take k bs)) (k + 1)
begins b bs sort piece is k h = record {
  longest = record {
    within = omega (arith, h.within);
    passing = rw add-one (ap is_some (is (take k bs)) ∙ some_given (sort (take k bs)) (piece (take k bs)) ∙ h.passing);
    no_longer = longer;
  };
  is_so = rw add-one (is (take k bs) ∙ rw h.passing refl);
}
  where
    longer : (m : ℕ) → k + 1 < m → m ≤ suc (length bs) → is_piece (take m (b ∷ bs)) ≡ false
    longer zero more most = absurd (omega arith)
    longer (suc m) more most = ap is_some (is (take m bs)) ∙ some_given (sort (take m bs)) (piece (take m bs)) ∙ h.no_longer m (omega arith) (omega arith)

begins_none : (b : ℕ) (bs : List ℕ) (sort : List ℕ → Bool) (piece : List ℕ → Piece) → ((x : List ℕ) → piece_of (b ∷ x) ≡ given (sort x) (piece x)) → NonePasses sort bs → NonePasses is_piece (b ∷ bs)
begins_none b bs sort piece is h zero most = refl
begins_none b bs sort piece is h (suc m) most = ap is_some (is (take m bs)) ∙ some_given (sort (take m bs)) (piece (take m bs)) ∙ h m (omega arith)

-- ---- blanks, names, strings, includes

pub blank_begins : (text : List ℕ) → 0 < length text → is_blank (get_or text 0 0) ≡ true → BeginsWith text Skipped 1
blank_begins [] p b = absurd (omega arith)
blank_begins (c ∷ cs) p b = begins c cs is_end (λ x. Skipped) (λ x. rw b refl) 0 (end_longest cs)

pub name_begins : (text : List ℕ) (n : ℕ) → 0 < length text → is_blank (get_or text 0 0) ≡ false → is_letter (get_or text 0 0) ≡ true → n ≡ prefix_len is_of_name (drop 1 text) → BeginsWith text (Spelled (name_kind (take (n + 1) text))) (n + 1)
name_begins [] n p b l e = absurd (omega arith)
name_begins (c ∷ cs) n p b l e =
    let h = begins c cs (list_all is_of_name) (λ x. Spelled (name_kind (c ∷ x))) (λ x. rw (b, l) refl) n (all_longest is_of_name cs n e) in
    let f : take (n + 1) (c ∷ cs) ≡ c ∷ take n cs = rw add-one refl in
    rw f h

pub string_begins : (text : List ℕ) (n : ℕ) → 0 < length text → get_or text 0 0 ≡ 34 → IsLongest is_string_end (drop 1 text) n → BeginsWith text (Spelled kinds.Quoted) (n + 1)
string_begins [] n p q h = absurd (omega arith)
string_begins (c ∷ cs) n p q h = begins c cs is_string_end (λ x. Spelled kinds.Quoted) (λ x. rw q refl) n h

pub string_none : (text : List ℕ) → 0 < length text → get_or text 0 0 ≡ 34 → NonePasses is_string_end (drop 1 text) → NonePasses is_piece text
string_none [] p q h = absurd (omega arith)
string_none (c ∷ cs) p q h = begins_none c cs is_string_end (λ x. Spelled kinds.Quoted) (λ x. rw q refl) h

abbrev word_include : List ℕ
word_include = 105 ∷ 110 ∷ 99 ∷ 108 ∷ 117 ∷ 100 ∷ 101 ∷ []

pub include_begins : (text : List ℕ) (n : ℕ) → 0 < length text → get_or text 0 0 ≡ 35 → after_bytes word_include (λ more. true) (drop 1 text) ≡ true → n ≡ prefix_len is_of_line (drop 7 (drop 1 text)) → BeginsWith text (Spelled kinds.Include) (n + 8)
include_begins [] n p q w e = absurd (omega arith)
include_begins (c ∷ cs) n p q w e =
    let h = bytes_longest word_include (list_all is_of_line) cs n w (all_longest is_of_line (drop 7 cs) n e) in
    let s : 7 + n + 1 ≡ n + 8 = omega arith in
    rw s at (begins c cs is_include (λ x. Spelled kinds.Include) (λ x. rw q refl) (7 + n) h)

pub include_none : (text : List ℕ) → 0 < length text → get_or text 0 0 ≡ 35 → after_bytes word_include (λ more. true) (drop 1 text) ≡ false → NonePasses is_piece text
include_none [] p q w = absurd (omega arith)
include_none (c ∷ cs) p q w = begins_none c cs is_include (λ x. Spelled kinds.Include) (λ x. rw q refl) (bytes_none word_include (list_all is_of_line) cs w)

-- ---- marks

pub mark_begins : (text : List ℕ) (mark : Mark) → 0 < length text → is_blank (get_or text 0 0) ≡ false → is_letter (get_or text 0 0) ≡ false → is_digit (get_or text 0 0) ≡ false → (get_or text 0 0 ≡ 34 → ⊥) → (get_or text 0 0 ≡ 35 → ⊥) → (get_or text 0 0 ≡ 47 → ⊥) → mark_of (get_or text 0 0) ≡ Some mark → BeginsWith text (Spelled (kinds.Mark mark)) 1
mark_begins [] mark p b l d q h s m = absurd (omega arith)
mark_begins (c ∷ cs) mark p b l d q h s m = begins c cs is_end (λ x. Spelled (kinds.Mark mark)) (λ x. rw (b, l, d, differ c 34 q, differ c 35 h, differ c 47 s, m) refl) 0 (end_longest cs)

pub mark_none : (text : List ℕ) → 0 < length text → is_blank (get_or text 0 0) ≡ false → is_letter (get_or text 0 0) ≡ false → is_digit (get_or text 0 0) ≡ false → (get_or text 0 0 ≡ 34 → ⊥) → (get_or text 0 0 ≡ 35 → ⊥) → (get_or text 0 0 ≡ 47 → ⊥) → mark_of (get_or text 0 0) ≡ None → NonePasses is_piece text
mark_none [] p b l d q h s m n most = absurd (omega arith)
mark_none (c ∷ cs) p b l d q h s m zero most = refl
mark_none (c ∷ cs) p b l d q h s m (suc n) most = rw (b, l, d, differ c 34 q, differ c 35 h, differ c 47 s, m) refl

-- ---- comments

pub line_comment : (text : List ℕ) (n : ℕ) → 2 ≤ length text → get_or text 0 0 ≡ 47 → get_or text 1 0 ≡ 47 → n ≡ prefix_len is_of_line (drop 2 text) → BeginsWith text Skipped (n + 2)
line_comment [] n p q r e = absurd (omega arith)
line_comment (c ∷ []) n p q r e = absurd (omega arith)
line_comment (c ∷ d ∷ cs) n p q r e =
    let a = all_longest is_of_line cs n e in
    let h : IsLongest is_comment (d ∷ cs) (n + 1) = record {
      within = omega (arith, a.within);
      passing = rw (add-one, r) a.passing;
      no_longer = λ m more most. longer m more most a;
    } in
    let s : n + 1 + 1 ≡ n + 2 = omega arith in
    rw s at (begins c (d ∷ cs) is_comment (λ x. Skipped) (λ x. rw q refl) (n + 1) h)
  where
    longer : (m : ℕ) → n + 1 < m → m ≤ suc (length cs) → IsLongest (list_all is_of_line) cs n → is_comment (take m (d ∷ cs)) ≡ false
    longer zero more most a = absurd (omega arith)
    longer (suc m) more most a = rw r (a.no_longer m (omega arith) (omega arith))

pub block_comment : (text : List ℕ) (n : ℕ) → 2 ≤ length text → get_or text 0 0 ≡ 47 → get_or text 1 0 ≡ 42 → IsLongest is_comment_end (drop 2 text) n → BeginsWith text Skipped (n + 2)
block_comment [] n p q r a = absurd (omega arith)
block_comment (c ∷ []) n p q r a = absurd (omega arith)
block_comment (c ∷ d ∷ cs) n p q r a =
    let h : IsLongest is_comment (d ∷ cs) (n + 1) = record {
      within = omega (arith, a.within);
      passing = rw (add-one, r) a.passing;
      no_longer = λ m more most. longer m more most;
    } in
    let s : n + 1 + 1 ≡ n + 2 = omega arith in
    rw s at (begins c (d ∷ cs) is_comment (λ x. Skipped) (λ x. rw q refl) (n + 1) h)
  where
    longer : (m : ℕ) → n + 1 < m → m ≤ suc (length cs) → is_comment (take m (d ∷ cs)) ≡ false
    longer zero more most = absurd (omega arith)
    longer (suc m) more most = rw r (a.no_longer m (omega arith) (omega arith))

pub block_none : (text : List ℕ) → 2 ≤ length text → get_or text 0 0 ≡ 47 → get_or text 1 0 ≡ 42 → NonePasses is_comment_end (drop 2 text) → NonePasses is_piece text
block_none [] p q r h = absurd (omega arith)
block_none (c ∷ []) p q r h = absurd (omega arith)
block_none (c ∷ d ∷ cs) p q r h = begins_none c (d ∷ cs) is_comment (λ x. Skipped) (λ x. rw q refl) none
  where
    none : NonePasses is_comment (d ∷ cs)
    none zero most = refl
    none (suc m) most = rw r (h m (omega arith))

pub slash_alone : (text : List ℕ) → 0 < length text → length text < 2 → get_or text 0 0 ≡ 47 → NonePasses is_piece text
slash_alone [] p l q = absurd (omega arith)
slash_alone (c ∷ []) p l q = begins_none c [] is_comment (λ x. Skipped) (λ x. rw q refl) none
  where
    none : NonePasses is_comment []
    none zero most = refl
    none (suc m) most = absurd (omega arith)
slash_alone (c ∷ d ∷ cs) p l q = absurd (omega arith)

pub slash_other : (text : List ℕ) → 2 ≤ length text → get_or text 0 0 ≡ 47 → (get_or text 1 0 ≡ 47 → ⊥) → (get_or text 1 0 ≡ 42 → ⊥) → NonePasses is_piece text
slash_other [] p q r t = absurd (omega arith)
slash_other (c ∷ []) p q r t = absurd (omega arith)
slash_other (c ∷ d ∷ cs) p q r t = begins_none c (d ∷ cs) is_comment (λ x. Skipped) (λ x. rw q refl) none
  where
    none : NonePasses is_comment (d ∷ cs)
    none zero most = refl
    none (suc m) most = rw (differ d 47 r, differ d 42 t) refl

-- ---- where strings and comments end

pub quote_here : (text : List ℕ) → 0 < length text → get_or text 0 0 ≡ 34 → IsLongest is_string_end text 1
quote_here [] p q = absurd (omega arith)
quote_here (c ∷ cs) p q = record { within = omega arith; passing = rw q (end_longest cs).passing; no_longer = longer }
  where
    longer : (m : ℕ) → 1 < m → m ≤ suc (length cs) → is_string_end (take m (c ∷ cs)) ≡ false
    longer zero more most = absurd (omega arith)
    longer (suc m) more most = rw q ((end_longest cs).no_longer m (omega arith) (omega arith))

pub line_feed_here : (text : List ℕ) → 0 < length text → get_or text 0 0 ≡ 10 → NonePasses is_string_end text
line_feed_here [] p q m most = absurd (omega arith)
line_feed_here (c ∷ cs) p q zero most = refl
line_feed_here (c ∷ cs) p q (suc m) most = rw q refl

pub star_here : (text : List ℕ) → 2 ≤ length text → get_or text 0 0 ≡ 42 → get_or text 1 0 ≡ 47 → IsLongest is_comment_end text 2
star_here [] p q r = absurd (omega arith)
star_here (c ∷ []) p q r = absurd (omega arith)
star_here (c ∷ d ∷ cs) p q r = record { within = omega arith; passing = rw (q, r) (end_longest cs).passing; no_longer = longer }
  where
    longer : (m : ℕ) → 2 < m → m ≤ suc (suc (length cs)) → is_comment_end (take m (c ∷ d ∷ cs)) ≡ false
    longer zero more most = absurd (omega arith)
    longer (suc zero) more most = absurd (omega arith)
    longer (suc (suc m)) more most = rw (q, r) ((end_longest cs).no_longer m (omega arith) (omega arith))

pub no_comment_end : (text : List ℕ) → length text < 2 → NonePasses is_comment_end text
no_comment_end [] l zero most = refl
no_comment_end [] l (suc m) most = refl
no_comment_end (c ∷ []) l zero most = refl
no_comment_end (c ∷ []) l (suc zero) most = go (42 == c)
  where
    go : (t : Bool) → cond (t && false) (t && false) false ≡ false
    go true = refl
    go false = refl
no_comment_end (c ∷ []) l (suc (suc m)) most = absurd (omega arith)
no_comment_end (c ∷ d ∷ cs) l m most = absurd (omega arith)

-- ---- the same behind some bytes

left : (text : List ℕ) (i : ℕ) → length (drop i text) ≡ length text - i
left text i = length-drop i text

byte_at : (text : List ℕ) (i : ℕ) → get_or (drop i text) 0 0 ≡ get_or text i 0
byte_at text i = let z : i + 0 ≡ i = omega arith in rw z at (get_or-drop i text 0 0)

byte_after : (text : List ℕ) (i : ℕ) → get_or (drop i text) 1 0 ≡ get_or text (i + 1) 0
byte_after text i = get_or-drop i text 1 0

pub quote_at : (text : List ℕ) (i : ℕ) → i < length text → get_or text i 0 ≡ 34 → Behind is_string_end text i → IsLongest is_string_end text (i + 1)
quote_at text i less q b = behind_found is_string_end text i 1 (quote_here (drop i text) (omega (arith, left text i)) (byte_at text i ∙ q)) b

pub line_feed_at : (text : List ℕ) (i : ℕ) → i < length text → get_or text i 0 ≡ 10 → Behind is_string_end text i → NonePasses is_string_end text
line_feed_at text i less q b = behind_none is_string_end text i (line_feed_here (drop i text) (omega (arith, left text i)) (byte_at text i ∙ q)) b

pub string_byte : (text : List ℕ) (i : ℕ) → i < length text → (get_or text i 0 ≡ 34 → ⊥) → (get_or text i 0 ≡ 10 → ⊥) → Behind is_string_end text i → Behind is_string_end text (i + 1)
string_byte text i less q l b = behind_step is_string_end text i less refl (λ m. rw (differ (get_or text i 0) 34 q, differ (get_or text i 0) 10 l) refl) b

pub star_at : (text : List ℕ) (i : ℕ) → i + 1 < length text → get_or text i 0 ≡ 42 → get_or text (i + 1) 0 ≡ 47 → Behind is_comment_end text i → IsLongest is_comment_end text (i + 2)
star_at text i less q r b = behind_found is_comment_end text i 2 (star_here (drop i text) (omega (arith, left text i)) (byte_at text i ∙ q) (byte_after text i ∙ r)) b

goes_by : (b : ℕ) (x : List ℕ) → after_bytes (42 ∷ 47 ∷ []) (λ more. true) (b ∷ x) ≡ false → is_comment_end (b ∷ x) ≡ is_comment_end x
goes_by b x h = rw h refl

no_star : (b : ℕ) (x : List ℕ) → (42 == b) ≡ false → after_bytes (42 ∷ 47 ∷ []) (λ more. true) (b ∷ x) ≡ false
no_star b x h = rw h refl

no_slash : (b : ℕ) (rest : List ℕ) (m : ℕ) → 0 < length rest → (47 == get_or rest 0 0) ≡ false → after_bytes (42 ∷ 47 ∷ []) (λ more. true) (b ∷ take m rest) ≡ false
no_slash b [] m p h = absurd (omega arith)
no_slash b (d ∷ rest) zero p h = go (42 == b)
  where
    go : (t : Bool) → (t && false) ≡ false
    go true = refl
    go false = refl
no_slash b (d ∷ rest) (suc m) p h = go (42 == b) (47 == d) h
  where
    go : (t u : Bool) → u ≡ false → (t && (u && true)) ≡ false
    go true u h = rw h refl
    go false u h = refl

pub other_at : (text : List ℕ) (i : ℕ) → i + 1 < length text → (get_or text i 0 ≡ 42 → ⊥) → Behind is_comment_end text i → Behind is_comment_end text (i + 1)
other_at text i less q b = behind_step is_comment_end text i (omega arith) refl (λ m. goes_by (get_or text i 0) (take m (drop (suc i) text)) (no_star (get_or text i 0) (take m (drop (suc i) text)) (differ 42 (get_or text i 0) (λ e. q (sym e))))) b

pub star_alone : (text : List ℕ) (i : ℕ) → i + 1 < length text → (get_or text (i + 1) 0 ≡ 47 → ⊥) → Behind is_comment_end text i → Behind is_comment_end text (i + 1)
star_alone text i less r b =
    let s : suc i ≡ i + 1 = omega arith in
    let e : get_or (drop (suc i) text) 0 0 ≡ get_or text (i + 1) 0 = rw s (byte_at text (i + 1)) in
    let d : (47 == get_or (drop (suc i) text) 0 0) ≡ false = differ 47 (get_or (drop (suc i) text) 0 0) (λ f. r (sym e ∙ sym f)) in
    behind_step is_comment_end text i (omega arith) refl (λ m. goes_by (get_or text i 0) (take m (drop (suc i) text)) (no_slash (get_or text i 0) (drop (suc i) text) m (omega (arith, left text (suc i))) d)) b

pub comment_open : (text : List ℕ) (i : ℕ) → length text ≤ i + 1 → Behind is_comment_end text i → NonePasses is_comment_end text
comment_open text i e b = behind_none is_comment_end text i (no_comment_end (drop i text) (omega (arith, left text i, e))) b

-- ---- numbers

pub with_exponent : (text : List ℕ) (n : ℕ) → 2 ≤ length text → is_e (get_or text 0 0) ≡ true → is_sign (get_or text 1 0) ≡ true → n ≡ prefix_len is_digit (drop 2 text) → 0 < n → IsLongest is_exponent text (n + 2)
with_exponent [] n p e s d q = absurd (omega arith)
with_exponent (a ∷ []) n p e s d q = absurd (omega arith)
with_exponent (a ∷ b ∷ bs) n p e s d q =
    let h = run_longest is_digit bs n d q in
    record { within = omega (arith, h.within); passing = rw (n_two, e, s) h.passing; no_longer = λ m more most. longer m more most h }
  where
    n_two : n + 2 ≡ suc (suc n)
    n_two = omega arith

    longer : (m : ℕ) → n + 2 < m → m ≤ suc (suc (length bs)) → IsLongest (after_some is_digit is_end) bs n → is_exponent (take m (a ∷ b ∷ bs)) ≡ false
    longer zero more most h = absurd (omega arith)
    longer (suc zero) more most h = absurd (omega arith)
    longer (suc (suc m)) more most h = rw (e, s) (h.no_longer m (omega arith) (omega arith))

no_exponent_from : (text : List ℕ) → ((m : ℕ) → 0 < m → m ≤ length text → is_exponent (take m text) ≡ false) → IsLongest is_exponent text 0
no_exponent_from text h = record { within = omega arith; passing = none text; no_longer = h }
  where
    none : (xs : List ℕ) → is_exponent (take 0 xs) ≡ true
    none [] = refl
    none (b ∷ bs) = refl

pub no_exponent_short : (text : List ℕ) → length text < 2 → IsLongest is_exponent text 0
no_exponent_short [] l = no_exponent_from [] (λ m p q. absurd (omega arith))
no_exponent_short (a ∷ []) l = no_exponent_from (a ∷ []) one
  where
    one : (m : ℕ) → 0 < m → m ≤ 1 → is_exponent (take m (a ∷ [])) ≡ false
    one zero p q = absurd (omega arith)
    one (suc zero) p q = refl
    one (suc (suc m)) p q = absurd (omega arith)
no_exponent_short (a ∷ b ∷ bs) l = absurd (omega arith)

-- without an e, or a sign, or a digit
pub no_exponent : (text : List ℕ) → 2 ≤ length text → (is_e (get_or text 0 0) && is_sign (get_or text 1 0)) ≡ false → IsLongest is_exponent text 0
no_exponent [] p e = absurd (omega arith)
no_exponent (a ∷ []) p e = absurd (omega arith)
no_exponent (a ∷ b ∷ bs) p e = no_exponent_from (a ∷ b ∷ bs) none
  where
    none : (m : ℕ) → 0 < m → m ≤ suc (suc (length bs)) → is_exponent (take m (a ∷ b ∷ bs)) ≡ false
    none zero p q = absurd (omega arith)
    none (suc zero) p q = refl
    none (suc (suc m)) p q = rw e refl

pub no_exponent_digits : (text : List ℕ) → 2 ≤ length text → prefix_len is_digit (drop 2 text) ≡ 0 → IsLongest is_exponent text 0
no_exponent_digits [] p d = absurd (omega arith)
no_exponent_digits (a ∷ []) p d = absurd (omega arith)
no_exponent_digits (a ∷ b ∷ bs) p d = no_exponent_from (a ∷ b ∷ bs) none
  where
    both : (t u : Bool) → u ≡ false → (t && u) ≡ false
    both true u h = h
    both false u h = refl

    none : (m : ℕ) → 0 < m → m ≤ suc (suc (length bs)) → is_exponent (take m (a ∷ b ∷ bs)) ≡ false
    none zero p q = absurd (omega arith)
    none (suc zero) p q = refl
    none (suc (suc m)) p q = both (is_e a && is_sign b) (after_some is_digit is_end (take m bs)) (no_some is_digit is_end bs d m (omega arith))

pub with_fraction : (text : List ℕ) (n k : ℕ) → 0 < length text → get_or text 0 0 ≡ 46 → n ≡ prefix_len is_digit (drop 1 text) → 0 < n → IsLongest is_exponent (drop n (drop 1 text)) k → IsLongest is_fraction text (k + n + 1)
with_fraction [] n k p q d r h = absurd (omega arith)
with_fraction (c ∷ cs) n k p q d r h =
    let a = some_longest is_digit is_exponent cs n k d r h in
    record { within = omega (arith, a.within); passing = rw (s, q) a.passing; no_longer = λ m more most. longer m more most a }
  where
    s : k + n + 1 ≡ suc (n + k)
    s = omega arith

    longer : (m : ℕ) → k + n + 1 < m → m ≤ suc (length cs) → IsLongest (after_some is_digit is_exponent) cs (n + k) → is_fraction (take m (c ∷ cs)) ≡ false
    longer zero more most a = absurd (omega arith)
    longer (suc m) more most a = rw q (a.no_longer m (omega arith) (omega arith))

pub no_fraction_empty : (text : List ℕ) → length text ≡ 0 → NonePasses is_fraction text
no_fraction_empty [] l zero most = refl
no_fraction_empty [] l (suc m) most = refl
no_fraction_empty (c ∷ cs) l m most = absurd (omega arith)

pub no_fraction : (text : List ℕ) → 0 < length text → (get_or text 0 0 == 46) ≡ false → NonePasses is_fraction text
no_fraction [] p q m most = absurd (omega arith)
no_fraction (c ∷ cs) p q zero most = refl
no_fraction (c ∷ cs) p q (suc m) most = rw q refl

pub no_fraction_digits : (text : List ℕ) → 0 < length text → prefix_len is_digit (drop 1 text) ≡ 0 → NonePasses is_fraction text
no_fraction_digits [] p d m most = absurd (omega arith)
no_fraction_digits (c ∷ cs) p d zero most = refl
no_fraction_digits (c ∷ cs) p d (suc m) most = both (c == 46) (after_some is_digit is_exponent (take m cs)) (no_some is_digit is_exponent cs d m (omega arith))
  where
    both : (t u : Bool) → u ≡ false → (t && u) ≡ false
    both true u h = h
    both false u h = refl

pub with_hexadecimal : (text : List ℕ) (n : ℕ) → 2 ≤ length text → get_or text 0 0 ≡ 48 → is_x (get_or text 1 0) ≡ true → n ≡ prefix_len is_hexadecimal (drop 2 text) → 0 < n → IsLongest is_hexadecimal_number text (n + 2)
with_hexadecimal [] n p z x d q = absurd (omega arith)
with_hexadecimal (a ∷ []) n p z x d q = absurd (omega arith)
with_hexadecimal (a ∷ b ∷ bs) n p z x d q =
    let h = run_longest is_hexadecimal bs n d q in
    record { within = omega (arith, h.within); passing = rw (n_two, z, x) h.passing; no_longer = λ m more most. longer m more most h }
  where
    n_two : n + 2 ≡ suc (suc n)
    n_two = omega arith

    longer : (m : ℕ) → n + 2 < m → m ≤ suc (suc (length bs)) → IsLongest (after_some is_hexadecimal is_end) bs n → is_hexadecimal_number (take m (a ∷ b ∷ bs)) ≡ false
    longer zero more most h = absurd (omega arith)
    longer (suc zero) more most h = absurd (omega arith)
    longer (suc (suc m)) more most h = rw (z, x) (h.no_longer m (omega arith) (omega arith))

pub no_hexadecimal_short : (text : List ℕ) → length text < 2 → NonePasses is_hexadecimal_number text
no_hexadecimal_short [] l zero most = refl
no_hexadecimal_short [] l (suc m) most = refl
no_hexadecimal_short (a ∷ []) l zero most = refl
no_hexadecimal_short (a ∷ []) l (suc zero) most = refl
no_hexadecimal_short (a ∷ []) l (suc (suc m)) most = absurd (omega arith)
no_hexadecimal_short (a ∷ b ∷ bs) l m most = absurd (omega arith)

pub no_hexadecimal : (text : List ℕ) → 2 ≤ length text → ((get_or text 0 0 == 48) && is_x (get_or text 1 0)) ≡ false → NonePasses is_hexadecimal_number text
no_hexadecimal [] p e m most = absurd (omega arith)
no_hexadecimal (a ∷ []) p e m most = absurd (omega arith)
no_hexadecimal (a ∷ b ∷ bs) p e zero most = refl
no_hexadecimal (a ∷ b ∷ bs) p e (suc zero) most = refl
no_hexadecimal (a ∷ b ∷ bs) p e (suc (suc m)) most = rw e refl

pub no_hexadecimal_digits : (text : List ℕ) → 2 ≤ length text → prefix_len is_hexadecimal (drop 2 text) ≡ 0 → NonePasses is_hexadecimal_number text
no_hexadecimal_digits [] p d m most = absurd (omega arith)
no_hexadecimal_digits (a ∷ []) p d m most = absurd (omega arith)
no_hexadecimal_digits (a ∷ b ∷ bs) p d zero most = refl
no_hexadecimal_digits (a ∷ b ∷ bs) p d (suc zero) most = refl
no_hexadecimal_digits (a ∷ b ∷ bs) p d (suc (suc m)) most = both ((a == 48) && is_x b) (after_some is_hexadecimal is_end (take m bs)) (no_some is_hexadecimal is_end bs d m (omega arith))
  where
    both : (t u : Bool) → u ≡ false → (t && u) ≡ false
    both true u h = h
    both false u h = refl

-- ---- which number

digits_first : (text : List ℕ) → 0 < length text → is_digit (get_or text 0 0) ≡ true → 0 < prefix_len is_digit text
digits_first [] p d = absurd (omega arith)
digits_first (c ∷ cs) p d = rw d (omega arith)

number_as : (text : List ℕ) (n : ℕ) (piece : Piece) → 0 < length text → is_blank (get_or text 0 0) ≡ false → is_letter (get_or text 0 0) ≡ false → is_digit (get_or text 0 0) ≡ true → 0 < n → n ≤ length text → number_piece (take n text) ≡ Some piece → ((m : ℕ) → n < m → m ≤ length text → (is_integer (take m text) ≡ false) × (is_point (take m text) ≡ false)) → BeginsWith text piece n
number_as [] n piece p b l d q w e h = absurd (omega arith)
number_as (c ∷ cs) zero piece p b l d q w e h = absurd (omega arith)
number_as (c ∷ cs) (suc n) piece p b l d q w e h = record {
  longest = record { within = w; passing = ap is_some (one n ∙ e); no_longer = longer };
  is_so = one n ∙ e;
}
  where
    one : (m : ℕ) → piece_of (c ∷ take m cs) ≡ number_piece (c ∷ take m cs)
    one m = rw (b, l, d) refl

    longer : (m : ℕ) → suc n < m → m ≤ suc (length cs) → is_piece (take m (c ∷ cs)) ≡ false
    longer zero more most = absurd (omega arith)
    longer (suc m) more most = let f = h (suc m) more most in ap is_some (one m) ∙ rw (f.0, f.1) refl

second : (t u : Bool) → u ≡ true → cond t true u ≡ true
second true u h = refl
second false u h = h

neither : (t u : Bool) → t ≡ false → u ≡ false → cond t true u ≡ false
neither t u h k = rw (h, k) refl

as_integer : (bs : List ℕ) → is_integer bs ≡ true → number_piece bs ≡ Some (Spelled kinds.Integer)
as_integer bs h = rw h refl

as_point : (bs : List ℕ) → is_integer bs ≡ false → is_point bs ≡ true → number_piece bs ≡ Some (Spelled kinds.Point)
as_point bs h k = rw (h, k) refl

-- digits with a fraction
pub point_begins : (text : List ℕ) (n k : ℕ) → 0 < length text → is_blank (get_or text 0 0) ≡ false → is_letter (get_or text 0 0) ≡ false → is_digit (get_or text 0 0) ≡ true → NonePasses is_hexadecimal_number text → n ≡ prefix_len is_digit text → IsLongest is_fraction (drop n text) k → BeginsWith text (Spelled kinds.Point) (n + k)
point_begins text n k p b l d x e h =
    let some : 0 < n = omega (arith, digits_first text p d) in
    let whole = run_longest is_digit text n e some in
    let all = some_longest is_digit is_fraction text n k e some h in
    let pos : 0 < k = positive k (drop n text) h in
    number_as text (n + k) (Spelled kinds.Point) p b l d (omega arith) all.within
    (as_point (take (n + k) text) (neither _ _ (whole.no_longer (n + k) (omega arith) all.within) (x (n + k) all.within)) all.passing)
    (λ m more most. (neither _ _ (whole.no_longer m (omega arith) most) (x m most), all.no_longer m more most))
  where
    empty : (xs : List ℕ) → is_fraction (take 0 xs) ≡ true → ⊥
    empty [] h = cc
    empty (c ∷ cs) h = cc

    positive : (k : ℕ) (xs : List ℕ) → IsLongest is_fraction xs k → 0 < k
    positive zero xs h = absurd (empty xs h.passing)
    positive (suc k) xs h = omega arith

-- digits alone
pub digits_begin : (text : List ℕ) (n : ℕ) → 0 < length text → is_blank (get_or text 0 0) ≡ false → is_letter (get_or text 0 0) ≡ false → is_digit (get_or text 0 0) ≡ true → NonePasses is_hexadecimal_number text → n ≡ prefix_len is_digit text → NonePasses is_fraction (drop n text) → BeginsWith text (Spelled kinds.Integer) n
digits_begin text n p b l d x e h =
    let some : 0 < n = omega (arith, digits_first text p d) in
    let whole = run_longest is_digit text n e some in
    let none = some_none is_digit is_fraction text n e h in
    number_as text n (Spelled kinds.Integer) p b l d some whole.within
    (as_integer (take n text) (rw whole.passing refl))
    (λ m more most. (neither _ _ (whole.no_longer m more most) (x m most), none m most))

-- a hexadecimal number
pub hexadecimal_begins : (text : List ℕ) (n : ℕ) → 0 < length text → is_blank (get_or text 0 0) ≡ false → is_letter (get_or text 0 0) ≡ false → is_digit (get_or text 0 0) ≡ true → IsLongest is_hexadecimal_number text n → BeginsWith text (Spelled kinds.Integer) n
hexadecimal_begins [] n p b l d h = absurd (omega arith)
hexadecimal_begins (a ∷ []) zero p b l d h = let q = h.passing in absurd cc
hexadecimal_begins (a ∷ []) (suc zero) p b l d h = let q = h.passing in absurd cc
hexadecimal_begins (a ∷ []) (suc (suc n)) p b l d h = let q = h.within in absurd (omega arith)
hexadecimal_begins (a ∷ c ∷ cs) zero p b l d h = let q = h.passing in absurd cc
hexadecimal_begins (a ∷ c ∷ cs) (suc zero) p b l d h = let q = h.passing in absurd cc
hexadecimal_begins (a ∷ c ∷ cs) (suc (suc n)) p b l d h =
    number_as (a ∷ c ∷ cs) (suc (suc n)) (Spelled kinds.Integer) p b l d (omega arith) h.within
    (as_integer (take (suc (suc n)) (a ∷ c ∷ cs)) (second _ _ h.passing))
    (λ m more most. (neither _ _ (one_digit m (omega arith) most) (h.no_longer m more most), no_point m most))
  where
    sound : (t u v : Bool) → ((t && u) && v) ≡ true → u ≡ true
    sound true true v e = refl
    sound true false v e = absurd cc
    sound false u v e = absurd cc

    x_is : is_x c ≡ true
    x_is = sound (a == 48) (is_x c) (after_some is_hexadecimal is_end (take n cs)) h.passing

    not_digit : is_digit c ≡ false
    not_digit = grind (arith, x_is)

    not_point : (c == 46) ≡ false
    not_point = grind (arith, x_is)

    one : 1 ≡ prefix_len is_digit (a ∷ c ∷ cs)
    one = rw (d, not_digit) refl

    one_digit : (m : ℕ) → 1 < m → m ≤ suc (suc (length cs)) → after_some is_digit is_end (take m (a ∷ c ∷ cs)) ≡ false
    one_digit m more most = (run_longest is_digit (a ∷ c ∷ cs) 1 one (omega arith)).no_longer m more most

    no_point : (m : ℕ) → m ≤ suc (suc (length cs)) → is_point (take m (a ∷ c ∷ cs)) ≡ false
    no_point m most = some_none is_digit is_fraction (a ∷ c ∷ cs) 1 one (no_fraction (c ∷ cs) (omega arith) not_point) m most
