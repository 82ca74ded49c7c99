-- Where a text is read on, a byte at a time.
use Rattle.std.proofs.Common.{◌≡◌, ℕ, ◌+◌, ◌≤◌, Bool, true, false, not, ◌&&◌, cond, ◌==◌, List, [], ◌∷◌, ◌++◌, length, take, add-one, refl, sym, ap, ◌∙◌, arith, length-append, reverse}
use Rattle.std.proofs.lemmas.List.{reverse-append}
use Rattle.std.specs.List.{count_by, prefix_len, suffix_len, list_all}
use Rattle.std.proofs.lemmas.List.Sums.{fold-append, count_by-le-length, suffix_len-le-length}
use Rattle.chk_base.specs.declared.place.Place.{Place}
use Rattle.chk_base.specs.Places.{is_line_feed, place_after}
use Rattle.c_lex.specs.declared.cursor.Cursor.{Cursor}
use Rattle.c_lex.specs.Blanks.{is_blank}
use Rattle.c_lex.specs.Cursor.{is_bare, cursor_after}

count_yes : (p : ℕ → Bool) (before : List ℕ) (b : ℕ) → p b ≡ true → count_by p (before ++ b ∷ []) ≡ count_by p before + 1
count_yes p before b h = fold-append (λ n x. n + cond (p x) 1 0) 0 before (b ∷ []) ∙ rw h refl

count_no : (p : ℕ → Bool) (before : List ℕ) (b : ℕ) → p b ≡ false → count_by p (before ++ b ∷ []) ≡ count_by p before
count_no p before b h = fold-append (λ n x. n + cond (p x) 1 0) 0 before (b ∷ []) ∙ rw h (omega arith)

last_first : (before : List ℕ) (b : ℕ) → reverse (before ++ b ∷ []) ≡ b ∷ reverse before
last_first before b = reverse-append before (b ∷ [])

-- one more byte is one more in length
one_longer : (before : List ℕ) (b : ℕ) → length (before ++ b ∷ []) ≡ length before + 1
one_longer before b = length-append before (b ∷ [])

ends_no : (p : ℕ → Bool) (before : List ℕ) (b : ℕ) → p b ≡ false → suffix_len p (before ++ b ∷ []) ≡ 0
ends_no p before b h = rw (last_first before b) (rw h refl)

ends_yes : (p : ℕ → Bool) (before : List ℕ) (b : ℕ) → p b ≡ true → suffix_len p (before ++ b ∷ []) ≡ suffix_len p before + 1
ends_yes p before b h = rw (last_first before b) (rw h (omega arith))

bare_line : (before : List ℕ) → is_bare (before ++ 10 ∷ []) ≡ true
bare_line before = rw (ends_no (λ b. not (is_line_feed b)) before 10 refl) refl

bare_other : (before : List ℕ) (b : ℕ) → (b == 10) ≡ false → is_bare (before ++ b ∷ []) ≡ (is_blank b && is_bare before)
bare_other before b h = rw (ends_yes (λ b. not (is_line_feed b)) before b (ap not h), last_first before b, add-one) refl

same : (l l' c c' o o' : ℕ) (b b' : Bool) → l ≡ l' → c ≡ c' → o ≡ o' → b ≡ b'
    → ◌≡◌ {A = Cursor} (record { place = record { line = l; column = c; offset = o }; bare = b }) (record { place = record { line = l'; column = c'; offset = o' }; bare = b' })
same l l' c c' o o' b b' p q r s = rw (p, q, r, s) refl

-- after a line feed
pub after_line_feed : (cursor : Cursor) (before : List ℕ) → cursor ≡ cursor_after before
    → record { place = record { line = cursor.place.line + 1; column = 1; offset = cursor.place.offset + 1 }; bare = true } ≡ cursor_after (before ++ 10 ∷ [])
after_line_feed cursor before e =
    rw e (same _ _ _ _ _ _ _ _ (ap (λ n. n + 1) (sym (count_yes is_line_feed before 10 refl))) (ap (λ n. n + 1) (sym (ends_no (λ b. not (is_line_feed b)) before 10 refl))) (sym (one_longer before 10)) (sym (bare_line before)))

-- after any other byte
pub after_other : (cursor : Cursor) (before : List ℕ) (b : ℕ) → cursor ≡ cursor_after before → (b == 10) ≡ false
    → record { place = record { line = cursor.place.line; column = cursor.place.column + 1; offset = cursor.place.offset + 1 }; bare = is_blank b && cursor.bare } ≡ cursor_after (before ++ b ∷ [])
after_other cursor before b e other =
    rw e (same _ _ _ _ _ _ _ _ (ap (λ n. n + 1) (sym (count_no is_line_feed before b other))) (ap (λ n. n + 1) (sym (ends_yes (λ b. not (is_line_feed b)) before b (ap not other)))) (sym (one_longer before b)) (sym (bare_other before b other)))

-- after a blank that is no line feed, only blanks stand on the line where they did before
pub after_blank : (cursor : Cursor) (before : List ℕ) (b : ℕ) → cursor ≡ cursor_after before → (b == 10) ≡ false → is_blank b ≡ true
    → record { place = record { line = cursor.place.line; column = cursor.place.column + 1; offset = cursor.place.offset + 1 }; bare = cursor.bare } ≡ cursor_after (before ++ b ∷ [])
after_blank cursor before b e other blank = rw blank at (after_other cursor before b e other)

-- after what is no blank, they don't
pub after_mark : (cursor : Cursor) (before : List ℕ) (b : ℕ) → cursor ≡ cursor_after before → (b == 10) ≡ false → is_blank b ≡ false
    → record { place = record { line = cursor.place.line; column = cursor.place.column + 1; offset = cursor.place.offset + 1 }; bare = false } ≡ cursor_after (before ++ b ∷ [])
after_mark cursor before b e other mark = rw mark at (after_other cursor before b e other)
