-- Sums of numbers that stop at the greatest.
use Rattle.std.proofs.Common.{◌≡◌, ℕ, ◌+◌, arith}
use Rattle.lower_law.specs.Counts.{saturated}

-- one more number between others
pub sum_more : (sum one rest : ℕ) → saturated (sum + (one + rest)) ≡ saturated (saturated (sum + saturated one) + rest)
sum_more sum one rest = omega arith

pub sum_two : (a b : ℕ) → saturated (a + b) ≡ saturated (saturated a + saturated b)
sum_two a b = omega arith

pub next_sum : (sum one rest : ℕ) → saturated (sum + (one + rest)) ≡ saturated (saturated (sum + one) + rest)
next_sum sum one rest = omega arith
