-- Lemmas on spelled numbers.
use Rattle.std.proofs.Common.{◌≡◌, ℕ, ◌<◌, ◌^◌, decimal, ap, sym, ◌∙◌}
use Rattle.std.specs.Str.Parse.{digits_value}
use Rattle.std.proofs.lemmas.Fmt.{decimal_is_IsNumeral}

-- a number is spelled in one way
pub same_number : (m n : ℕ) → m < 2 ^ 64 → n < 2 ^ 64 → decimal m ≡ decimal n → m ≡ n
same_number m n small_m small_n is =
    sym (decimal_is_IsNumeral m small_m).1 ∙ (ap (digits_value 10) is ∙ (decimal_is_IsNumeral n small_n).1)
