-- Numbers, digit by digit.
use Rattle.std.proofs.Common.{◌≡◌, ℕ, ◌+◌, ◌*◌, ◌<◌, min, List, [], length, get_or, take, refl, arith}
use Rattle.std.proofs.lemmas.List.Sums.{fold_more}
use Rattle.oil_rules.specs.Values.{digit_value, number_in}

-- no digits
pub number_in_none : (base : ℕ) → number_in base [] ≡ 0
unfolding number_in
number_in_none base = refl

-- one more digit
pub number_in_more : (base : ℕ) (ds : List ℕ) (i d : ℕ) → i < length ds → number_in base (take (i + 1) ds) ≡ number_in base (take i ds) * base + digit_value (get_or ds i d)
unfolding number_in
number_in_more base ds i d within = fold_more (λ n b. n * base + digit_value b) 0 ds i d within

-- a number that is cut at 1000 may be cut before a digit too
pub capped_decimal : (n d : ℕ) → min (min n 1000 * 10 + d) 1000 ≡ min (n * 10 + d) 1000
capped_decimal n d = omega arith

pub capped_hexadecimal : (n d : ℕ) → min (min n 1000 * 16 + d) 1000 ≡ min (n * 16 + d) 1000
capped_hexadecimal n d = omega arith
