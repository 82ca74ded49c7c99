-- The value of digits, a digit at a time, and cut off above 32 bits.
use Rattle.std.proofs.Common.{◌≡◌, ℕ, zero, suc, ◌+◌, ◌-◌, ◌*◌, ◌^◌, ◌<◌, ◌≤◌, min, Bool, true, false, ◌&&◌, if◌then◌else◌, nat_lt, List, [], ◌∷◌, ◌++◌, length, Option, Some, None, refl, sym, ap, ◌∙◌, arith, add-one, length-append, inl, inr, ◌⊎◌}
use native.Mathlib.Numerals.{unary_clauses}
use Rattle.std.proofs.Math.Nat.{pow-suc, add-mul, mul_assoc, min-eq_left, min-eq_right}
use Rattle.std.proofs.lemmas.Bool.Decides.{nat_tests}
use Rattle.c_lex.specs.declared.number.Base.{Base}
use Rattle.c_lex.specs.declared.number.Base.TheVariants.{Decimal, Octal, Hexadecimal}
use Rattle.c_lex.specs.declared.token.TokenKind.{TokenKind}
use Rattle.c_lex.specs.declared.token.TokenKind.TheVariants.{Number}
use Rattle.c_lex.specs.Numbers.{digit_value, radix, value, is_suffix, has_u, fits, is_unsigned, number_with}

only_digit : (r d : ℕ) → d * r ^ 0 + 0 ≡ 0 * r + d
only_digit r d = simp unary_clauses (omega arith)

-- a digit behind the others
pub value_more : (r : ℕ) (ds : List ℕ) (d : ℕ) → value r (ds ++ d ∷ []) ≡ value r ds * r + digit_value d
value_more r [] d = only_digit r (digit_value d)
value_more r (x ∷ ds) d =
    let n : length (ds ++ d ∷ []) ≡ suc (length ds) = simp length-append (omega arith) in
    let p : r ^ suc (length ds) ≡ r ^ length ds * r = pow-suc r (length ds) in
    let a : digit_value x * (r ^ length ds * r) ≡ digit_value x * r ^ length ds * r = sym (mul_assoc (digit_value x) (r ^ length ds) r) in
    let s : (digit_value x * r ^ length ds + value r ds) * r ≡ digit_value x * r ^ length ds * r + value r ds * r = add-mul (digit_value x * r ^ length ds) (value r ds) r in
    rw (n, p, a, value_more r ds d, s) (omega arith)

by_ten : (capped v w d : ℕ) → capped ≡ min (2 ^ 32) v → w ≡ v * 10 + d → min (capped * 10 + d) (2 ^ 32) ≡ min (2 ^ 32) w
by_ten capped v w d e f = omega arith

by_eight : (capped v w d : ℕ) → capped ≡ min (2 ^ 32) v → w ≡ v * 8 + d → min (capped * 8 + d) (2 ^ 32) ≡ min (2 ^ 32) w
by_eight capped v w d e f = omega arith

by_sixteen : (capped v w d : ℕ) → capped ≡ min (2 ^ 32) v → w ≡ v * 16 + d → min (capped * 16 + d) (2 ^ 32) ≡ min (2 ^ 32) w
by_sixteen capped v w d e f = omega arith

-- what is cut off stays above 32 bits
pub capped_more : (base : Base) (capped : ℕ) (ds : List ℕ) (d : ℕ) → capped ≡ min (2 ^ 32) (value (radix base) ds)
    → min (capped * radix base + digit_value d) (2 ^ 32) ≡ min (2 ^ 32) (value (radix base) (ds ++ d ∷ []))
capped_more Decimal capped ds d e = by_ten capped (value 10 ds) (value 10 (ds ++ d ∷ [])) (digit_value d) e (value_more 10 ds d)
capped_more Octal capped ds d e = by_eight capped (value 8 ds) (value 8 (ds ++ d ∷ [])) (digit_value d) e (value_more 8 ds d)
capped_more Hexadecimal capped ds d e = by_sixteen capped (value 16 ds) (value 16 (ds ++ d ∷ [])) (digit_value d) e (value_more 16 ds d)

-- a number whose value was cut off is none, and any other is as it was
pub with_capped : (base : Base) (digits suffix : List ℕ) (capped : ℕ) → capped ≡ min (2 ^ 32) (value (radix base) digits)
    → number_with base digits suffix ≡ (if nat_lt 0 (length digits) && is_suffix suffix && fits base (has_u suffix) capped then Some (Number capped (is_unsigned base (has_u suffix) capped)) else None)
with_capped base digits suffix capped e = go (nat_lt (value (radix base) digits) (2 ^ 32)) refl
  where
    v : ℕ
    v = value (radix base) digits

    none : (a b : Bool) (n : ℕ) → nat_lt n (2 ^ 32) ≡ false → (if a && b && fits base (has_u suffix) n then Some (Number n (is_unsigned base (has_u suffix) n)) else None) ≡ None
    none false b n h = refl
    none true false n h = refl
    none true true n h = rw h refl

    go : (c : Bool) → nat_lt (value (radix base) digits) (2 ^ 32) ≡ c → number_with base digits suffix ≡ (if nat_lt 0 (length digits) && is_suffix suffix && fits base (has_u suffix) capped then Some (Number capped (is_unsigned base (has_u suffix) capped)) else None)
    go true h = let same : capped ≡ value (radix base) digits = grind (arith, nat_tests) in rw same refl
    go false h =
        let big : nat_lt capped (2 ^ 32) ≡ false = grind (arith, nat_tests) in
        none (nat_lt 0 (length digits)) (is_suffix suffix) (value (radix base) digits) h ∙ sym (none (nat_lt 0 (length digits)) (is_suffix suffix) capped big)
