-- Blanks and comments, a step at a time.
use Rattle.std.proofs.Common.{◌≡◌, ℕ, zero, suc, ◌+◌, ◌-◌, ◌<◌, ◌≤◌, Bool, true, false, cond, List, [], ◌∷◌, length, drop, get_or, Option, Some, None, refl, sym, ap, ◌∙◌, arith, add-one, drop-cons}
use Rattle.std.specs.Option.{option_map}
use Rattle.c_lex.specs.Blanks.{begins, begins_two, close_length, space_length, after_spaces, after_spaces_from}

-- one more byte before what is counted
more : (i : ℕ) (found : Option ℕ) → option_map (λ n. n + i) (option_map (λ n. n + 1) found) ≡ option_map (λ n. n + (i + 1)) found
more i None = refl
more i (Some n) = ap Some (omega arith)

-- where two bytes begin a list, it has two at least
pub two_long : (c d : ℕ) (bytes : List ℕ) → begins_two c d bytes ≡ true → 2 ≤ length bytes
two_long c d [] h = absurd cc
two_long c d (b ∷ []) h = grind arith
two_long c d (b ∷ e ∷ bytes) h = omega arith

-- no `*/` stands at i
pub close_step : (bytes : List ℕ) (i : ℕ) → i < length bytes → begins_two 42 47 (drop i bytes) ≡ false
    → option_map (λ n. n + i) (close_length (drop i bytes)) ≡ option_map (λ n. n + (i + 1)) (close_length (drop (i + 1) bytes))
close_step bytes i within none =
    let e : drop i bytes ≡ get_or bytes i 0 ∷ drop (i + 1) bytes = rw (add-one, drop-cons bytes i 0) refl in
    at (get_or bytes i 0) (drop (i + 1) bytes) (drop i bytes) e none
  where
    at : (b : ℕ) (rest whole : List ℕ) → whole ≡ b ∷ rest → begins_two 42 47 whole ≡ false → option_map (λ n. n + i) (close_length whole) ≡ option_map (λ n. n + (i + 1)) (close_length rest)
    at b rest whole e none = rw e (rw (rw e at none) (more i (close_length rest)))

-- `*/` stands at i
pub close_here : (bytes : List ℕ) (i : ℕ) → begins_two 42 47 (drop i bytes) ≡ true → option_map (λ n. n + i) (close_length (drop i bytes)) ≡ Some (i + 2)
close_here bytes i here = at (drop i bytes) here
  where
    at : (rest : List ℕ) → begins_two 42 47 rest ≡ true → option_map (λ n. n + i) (close_length rest) ≡ Some (i + 2)
    at [] here = absurd cc
    at (b ∷ rest) here = rw here (ap Some (omega arith))

-- the bytes of a blank or comment are passed
skipped : (n : ℕ) (bytes : List ℕ) → after_spaces_from n bytes ≡ after_spaces (drop n bytes)
skipped zero [] = refl
skipped zero (b ∷ bytes) = refl
skipped (suc n) [] = refl
skipped (suc n) (b ∷ bytes) = skipped n bytes

-- a blank or comment stands at the front
pub spaces_step : (bytes : List ℕ) (n : ℕ) → space_length bytes ≡ Some n → 0 < n → after_spaces bytes ≡ after_spaces (drop n bytes)
spaces_step [] n e more = absurd cc
spaces_step (b ∷ bytes) zero e more = absurd (omega arith)
spaces_step (b ∷ bytes) (suc n) e more =
    let one : suc n - 1 ≡ n = omega arith in
    rw (e, one) (skipped n bytes)

-- neither stands at the front
pub spaces_end : (bytes : List ℕ) → space_length bytes ≡ None → after_spaces bytes ≡ bytes
spaces_end [] e = refl
spaces_end (b ∷ bytes) e = rw e refl
