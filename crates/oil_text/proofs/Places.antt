-- The place after one byte more.
use Rattle.std.proofs.Common.{◌≡◌, ℕ, ◌+◌, ◌-◌, ◌≤◌, ◌<◌, true, false, not, List, length, take, get_or, refl, ap, arith}
use Rattle.std.specs.List.{count_by, suffix_len}
use Rattle.std.proofs.lemmas.List.{length-take-le}
use Rattle.std.proofs.lemmas.List.Sums.{count_by_more_yes, count_by_more_no, suffix_len-take_yes, suffix_len-take_no, count_by-le-length, suffix_len-le-length}
use Rattle.chk_base.specs.declared.place.Place.{Place}
use Rattle.chk_base.specs.Places.{is_line_feed, place_after}
use Rattle.oil_text.proofs.PieceLaws.{differ}

pub offset_is : (text : List ℕ) (n : ℕ) → n ≤ length text → (place_after (take n text)).offset ≡ n
offset_is text n h = length-take-le n text h

-- lines and columns are no more than bytes
pub few_lines : (text : List ℕ) (p : Place) → p.offset ≤ length text → p ≡ place_after (take p.offset text) → p.line ≤ p.offset + 1
few_lines text p h here =
    let e = count_by-le-length is_line_feed (take p.offset text) in
    let line : p.line ≡ count_by is_line_feed (take p.offset text) + 1 = ap (λ (q : Place). q.line) here in
    omega (arith, e, line, length-take-le p.offset text h)

pub few_columns : (text : List ℕ) (p : Place) → p.offset ≤ length text → p ≡ place_after (take p.offset text) → p.column ≤ p.offset + 1
few_columns text p h here =
    let e = suffix_len-le-length (λ b. not (is_line_feed b)) (take p.offset text) in
    let column : p.column ≡ suffix_len (λ b. not (is_line_feed b)) (take p.offset text) + 1 = ap (λ (q : Place). q.column) here in
    omega (arith, e, column, length-take-le p.offset text h)

pub after_line_feed : (text : List ℕ) (p : Place) → p.offset < length text → p ≡ place_after (take p.offset text) → get_or text p.offset 0 ≡ 10 → record { line = p.line + 1; column = 1; offset = p.offset + 1 } ≡ place_after (take (p.offset + 1) text)
after_line_feed text p less here b =
    let n = p.offset in
    let is_feed : is_line_feed (get_or text n 0) ≡ true = rw b refl in
    let back : n + 1 - 1 ≡ n = omega arith in
    let lines : count_by is_line_feed (take (n + 1) text) ≡ count_by is_line_feed (take n text) + 1 = count_by_more_yes is_line_feed text n 0 less is_feed in
    let none : suffix_len (λ b. not (is_line_feed b)) (take (n + 1) text) ≡ 0 = suffix_len-take_no (λ b. not (is_line_feed b)) text (n + 1) 0 (omega arith) (omega arith) (rw (back, is_feed) refl) in
    let line : p.line ≡ count_by is_line_feed (take n text) + 1 = ap (λ (q : Place). q.line) here in
    let offset : length (take (n + 1) text) ≡ n + 1 = length-take-le (n + 1) text (omega arith) in
    rw (lines, none, offset, line) refl

pub after_other : (text : List ℕ) (p : Place) → p.offset < length text → p ≡ place_after (take p.offset text) → (get_or text p.offset 0 ≡ 10 → ⊥) → record { line = p.line; column = p.column + 1; offset = p.offset + 1 } ≡ place_after (take (p.offset + 1) text)
after_other text p less here b =
    let n = p.offset in
    let is_none : is_line_feed (get_or text n 0) ≡ false = differ (get_or text n 0) 10 b in
    let back : n + 1 - 1 ≡ n = omega arith in
    let lines : count_by is_line_feed (take (n + 1) text) ≡ count_by is_line_feed (take n text) = count_by_more_no is_line_feed text n 0 less is_none in
    let longer : suffix_len (λ b. not (is_line_feed b)) (take (n + 1) text) ≡ 1 + suffix_len (λ b. not (is_line_feed b)) (take n text) = rw back at (suffix_len-take_yes (λ b. not (is_line_feed b)) text (n + 1) 0 (omega arith) (omega arith) (rw (back, is_none) refl)) in
    let line : p.line ≡ count_by is_line_feed (take n text) + 1 = ap (λ (q : Place). q.line) here in
    let column : p.column ≡ suffix_len (λ b. not (is_line_feed b)) (take n text) + 1 = ap (λ (q : Place). q.column) here in
    let one : suffix_len (λ b. not (is_line_feed b)) (take n text) + 1 + 1 ≡ 1 + suffix_len (λ b. not (is_line_feed b)) (take n text) + 1 = omega arith in
    let offset : length (take (n + 1) text) ≡ n + 1 = length-take-le (n + 1) text (omega arith) in
    rw (lines, longer, offset, line, column, one) refl
