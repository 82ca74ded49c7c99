-- A list of numbers below n, each at most k times, has at most n * k of them.
use Rattle.std.proofs.Common.{◌≡◌, ℕ, zero, suc, ◌+◌, ◌*◌, ◌≤◌, List, [], ◌∷◌, length, refl, sym, arith, nat_lt, if◌then◌else◌}
use Rattle.std.proofs.lemmas.Bool.Decides.{nat_tests}
use Rattle.step_ir.specs.Numbers.{AreUnder, times}

-- how often the numbers below this one stand in a list together
all_times : ℕ → List ℕ → ℕ
all_times zero xs = 0
all_times (suc n) xs = times n xs + all_times n xs

-- none stands in the empty list
all_times-nil : (n : ℕ) → all_times n [] ≡ 0
unfolding all_times
all_times-nil zero = refl
all_times-nil (suc n) = omega (arith, all_times-nil n)

-- a number below the bound counts once more
all_times-cons : (n x : ℕ) (xs : List ℕ) → all_times n (x ∷ xs) ≡ all_times n xs + (if nat_lt x n then 1 else 0)
unfolding all_times
all_times-cons zero x xs = grind (arith, nat_tests)
all_times-cons (suc n) x xs = let ih = all_times-cons n x xs in grind (arith, nat_tests)

-- every number of the list is counted
length_is : (n : ℕ) (xs : List ℕ) → AreUnder n xs → length xs ≡ all_times n xs
length_is n [] h = sym (all_times-nil n)
length_is n (x ∷ xs) h =
    let ih = length_is n xs h.1 in
    let more = all_times-cons n x xs in
    let lt = h.0 in
    grind (arith, nat_tests)

-- each number counts at most so often
at_most : (n k : ℕ) (xs : List ℕ) → ((q : ℕ) → times q xs ≤ k) → all_times n xs ≤ n * k
unfolding all_times
at_most zero k xs h = omega arith
at_most (suc n) k xs h = omega (arith, at_most n k xs h, h n)

-- so there are at most n * k
pub length_at_most : (n k : ℕ) (xs : List ℕ) → AreUnder n xs → ((q : ℕ) → times q xs ≤ k) → length xs ≤ n * k
length_at_most n k xs under h = omega (arith, length_is n xs under, at_most n k xs h)
