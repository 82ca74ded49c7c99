-- Numbers of lists of literals.
use Rattle.std.proofs.Common.{◌≡◌, ℕ, zero, suc, ◌+◌, ◌*◌, ◌^◌, ◌<◌, ◌≤◌, Bool, true, false, List, [], ◌∷◌, ◌++◌, length, take, drop, set, get_or, refl, arith, pow-suc, mul_assoc, mul_comm, add-one}
use Rattle.clause_form.specs.declared.lit.Lit.{Lit}
use Rattle.clause_form.specs.ClauseTruth.{Values, is_lit_true}
use Rattle.clause_form.specs.Literals.{IsOf, AreOf}
use Rattle.chk_base.specs.Operators.{one_if}
use Rattle.bit_circuit.specs.BusValue.{bit, number}

pub pow-suc-mul : (i x : ℕ) → 2 ^ suc i * x ≡ 2 * (2 ^ i * x)
pow-suc-mul i x = rw (pow-suc, mul_comm (2 ^ i) 2, mul_assoc) refl

pub one_if-le : (b : Bool) → one_if b ≤ 1
one_if-le true = omega arith
one_if-le false = omega arith

pub number-lt : (v : Values) (xs : List Lit) → number v xs < 2 ^ length xs
number-lt v [] = omega arith
number-lt v (x ∷ xs) = let h = number-lt v xs in let b = one_if-le (is_lit_true v x) in rw pow-suc (omega arith)

pub number-append : (v : Values) (xs ys : List Lit) → number v (xs ++ ys) ≡ number v xs + 2 ^ length xs * number v ys
number-append v [] ys = omega arith
number-append v (x ∷ xs) ys = let h = number-append v xs ys in let e = pow-suc-mul (length xs) (number v ys) in omega arith

pub number-set : (v : Values) (xs : List Lit) (i : ℕ) (d y : Lit) → i < length xs → number v (set xs i y) + 2 ^ i * bit v (get_or xs i d) ≡ number v xs + 2 ^ i * bit v y
number-set v [] i d y h = absurd (omega arith)
number-set v (x ∷ xs) zero d y h = omega arith
number-set v (x ∷ xs) (suc i) d y h =
    let e = number-set v xs i d y (omega arith) in
    let f = pow-suc-mul i (bit v (get_or xs i d)) in
    let g = pow-suc-mul i (bit v y) in
    omega arith

pub number-take_more : (v : Values) (xs : List Lit) (i : ℕ) (d : Lit) → i < length xs → number v (take (suc i) xs) ≡ number v (take i xs) + 2 ^ i * bit v (get_or xs i d)
number-take_more v [] i d h = absurd (omega arith)
number-take_more v (x ∷ xs) zero d h = omega arith
number-take_more v (x ∷ xs) (suc i) d h =
    let e = number-take_more v xs i d (omega arith) in
    let f = pow-suc-mul i (bit v (get_or xs i d)) in
    omega arith

pub number-place_le : (v : Values) (xs : List Lit) (i : ℕ) (d : Lit) → i < length xs → 2 ^ i * bit v (get_or xs i d) ≤ number v xs
number-place_le v [] i d h = absurd (omega arith)
number-place_le v (x ∷ xs) zero d h = omega arith
number-place_le v (x ∷ xs) (suc i) d h =
    let e = number-place_le v xs i d (omega arith) in
    let f = pow-suc-mul i (bit v (get_or xs i d)) in
    omega arith

pub number-take_at : (v : Values) (xs : List Lit) (i : ℕ) (d : Lit) → i < length xs → number v (take (i + 1) xs) ≡ number v (take i xs) + 2 ^ i * bit v (get_or xs i d)
number-take_at v xs i d h = rw (add-one) (number-take_more v xs i d h)

pub pow_more : (i x : ℕ) → 2 ^ (i + 1) * x ≡ 2 * (2 ^ i * x)
pow_more i x = rw add-one (pow-suc-mul i x)

pub are-set : (n : ℕ) (xs : List Lit) (i : ℕ) (y : Lit) → AreOf n xs → IsOf n y → AreOf n (set xs i y)
are-set n [] i y o p = o
are-set n (x ∷ xs) zero y o p = (p, o.1)
are-set n (x ∷ xs) (suc i) y o p = (o.0, are-set n xs i y o.1 p)

pub are-get : (n : ℕ) (xs : List Lit) (i : ℕ) (d : Lit) → AreOf n xs → i < length xs → IsOf n (get_or xs i d)
are-get n [] i d o h = absurd (omega arith)
are-get n (x ∷ xs) zero d o h = o.0
are-get n (x ∷ xs) (suc i) d o h = are-get n xs i d o.1 (omega arith)

pub are-append : (n : ℕ) (xs ys : List Lit) → AreOf n xs → AreOf n ys → AreOf n (xs ++ ys)
are-append n [] ys p q = q
are-append n (x ∷ xs) ys p q = (p.0, are-append n xs ys p.1 q)

pub are-take : (n : ℕ) (i : ℕ) (xs : List Lit) → AreOf n xs → AreOf n (take i xs)
are-take n zero xs o = tt
are-take n (suc i) [] o = tt
are-take n (suc i) (x ∷ xs) o = (o.0, are-take n i xs o.1)

pub are-drop : (n : ℕ) (i : ℕ) (xs : List Lit) → AreOf n xs → AreOf n (drop i xs)
are-drop n zero xs o = o
are-drop n (suc i) [] o = tt
are-drop n (suc i) (x ∷ xs) o = are-drop n i xs o.1
