-- The lines of a text, one after another.
use Rattle.std.proofs.Common.{◌≡◌, ℕ, zero, suc, ◌+◌, ◌<◌, Bool, true, false, not, cond, if◌then◌else◌, List, [], ◌∷◌, ◌++◌, length, take, drop, get_or, refl, sym, ap, ◌∙◌, append_assoc, arith}
use Rattle.std.specs.List.{prefix_len}
use Rattle.std.proofs.lemmas.Bool.{eqb-true}
use Rattle.std.proofs.lemmas.List.Sums.{prefix_len_stops}
use Rattle.std.proofs.Math.Seq.{split_at}
use Rattle.chk_base.specs.Places.{is_line_feed}
use Rattle.replay.specs.ScheduleText.{ended, lines_of, onto}

-- the bytes of the first line
abbrev pub count : List ℕ → ℕ
count bs = prefix_len (λ b. not (is_line_feed b)) bs

-- the first line of a text with a first byte, by whether that is a line feed
abbrev IsCut : ℕ → List ℕ → Bool → Type 0
IsCut b bs t =
    (if t then [] ∷ lines_of bs else onto b (lines_of bs)) ≡ take (cond (not t) (1 + count bs) 0) (b ∷ bs) ∷ lines_of (drop (suc (cond (not t) (1 + count bs) 0)) (b ∷ bs))

from_one : (n : ℕ) → 1 + n ≡ suc n
from_one n = omega arith

by_first : (t : Bool) (b : ℕ) (bs : List ℕ) → onto b (lines_of bs) ≡ take (1 + count bs) (b ∷ bs) ∷ lines_of (drop (suc (1 + count bs)) (b ∷ bs)) → IsCut b bs t
by_first true b bs longer = refl
by_first false b bs longer = longer

-- a text with a first byte is its first line, and the lines after it
first_line : (b : ℕ) (bs : List ℕ) → lines_of (b ∷ bs) ≡ take (count (b ∷ bs)) (b ∷ bs) ∷ lines_of (drop (suc (count (b ∷ bs))) (b ∷ bs))
first_line b [] = by_first (is_line_feed b) b [] refl
first_line b (c ∷ cs) =
    by_first
    (is_line_feed b)
    b
    (c ∷ cs)
    (rw (from_one (count (c ∷ cs))) (ap (onto b) (first_line c cs)))

-- the first line of a text that isn't empty, and the lines after it
pub first_of : (bs : List ℕ) (n : ℕ) → 0 < length bs → n ≡ count bs → lines_of bs ≡ take n bs ∷ lines_of (drop (suc n) bs)
first_of [] n some is = absurd (omega (arith, some))
first_of (b ∷ bs) n some is = rw is (first_line b bs)

-- a line feed stands behind the first line, where something does
feed_behind : (bs : List ℕ) (n : ℕ) → n ≡ count bs → n < length bs → bs ≡ take n bs ++ 10 ∷ drop (suc n) bs
feed_behind bs n is within =
    let stops : not (is_line_feed (get_or bs (count bs) 0)) ≡ false = prefix_len_stops (λ b. not (is_line_feed b)) bs 0 (rw (← is) within) in
    let feed : get_or bs n 0 ≡ 10 = eqb-true (get_or bs n 0) 10 (rw is (yes (is_line_feed (get_or bs (count bs) 0)) stops)) in
    split_at bs n 0 within ∙ ap (λ (x : ℕ). take n bs ++ x ∷ drop (suc n) bs) feed
  where
    yes : (t : Bool) → not t ≡ false → t ≡ true
    yes true e = refl
    yes false e = absurd cc

pub ended-append : (ls : List (List ℕ)) (l : List ℕ) → ended (ls ++ l ∷ []) ≡ ended ls ++ (l ++ 10 ∷ [])
ended-append [] l = refl
ended-append (k ∷ ls) l =
    ap (λ (bs : List ℕ). k ++ 10 ∷ bs) (ended-append ls l) ∙ sym (append_assoc k (10 ∷ ended ls) (l ++ 10 ∷ []))

-- one more line with its line feed
pub more_ended : (ls : List (List ℕ)) (text rest : List ℕ) (n : ℕ) → n ≡ count rest → n < length rest → text ≡ ended ls ++ rest → text ≡ ended (ls ++ take n rest ∷ []) ++ drop (suc n) rest
more_ended ls text rest n is within whole =
    whole
    ∙ (ap (λ (bs : List ℕ). ended ls ++ bs) (feed_behind rest n is within)
    ∙ (sym (append_assoc (ended ls) (take n rest) (10 ∷ drop (suc n) rest))
    ∙ (shift (ended ls) (take n rest) (drop (suc n) rest)
    ∙ ap (λ (bs : List ℕ). bs ++ drop (suc n) rest) (sym (ended-append ls (take n rest))))))
  where
    shift : (a b c : List ℕ) → a ++ b ++ (10 ∷ c) ≡ a ++ (b ++ 10 ∷ []) ++ c
    shift a b c =
        sym (append_assoc (a ++ b) (10 ∷ []) c) ∙ ap (λ (bs : List ℕ). bs ++ c) (append_assoc a b (10 ∷ []))

-- what is left behind a line feed
pub drop_one : (n : ℕ) (bs : List ℕ) → drop 1 (drop n bs) ≡ drop (suc n) bs
drop_one zero bs = refl
drop_one (suc n) [] = refl
drop_one (suc n) (b ∷ bs) = drop_one n bs
