-- Tests of numbers below a bound.
use Rattle.std.proofs.Common.{◌≡◌, ℕ, zero, suc, ◌+◌, ◌<◌, Bool, true, false, ◌||◌, List, ◌++◌, ◌⊎◌, inl, inr, refl, sym, ap, ◌∙◌, add-one, arith}
use Rattle.std.proofs.lemmas.Bool.{false≢true, cases_eq, or_cases, or_left, or_right}
use Rattle.static_rules.specs.Chains.{any_below, all_below}

pub or_false : (b : Bool) → (b || false) ≡ b
or_false true = refl
or_false false = refl

pub or_assoc : (a b c : Bool) → ((a || b) || c) ≡ (a || (b || c))
or_assoc true b c = refl
or_assoc false b c = refl

-- two tests with the same answer
pub same_tests : (a b : Bool) → (a ≡ true → b ≡ true) → (b ≡ true → a ≡ true) → a ≡ b
same_tests true true to from = refl
same_tests true false to from = sym (to refl)
same_tests false true to from = from refl
same_tests false false to from = refl

-- one more number
pub any_more : (p : ℕ → Bool) (n : ℕ) → any_below p (n + 1) ≡ (any_below p n || p n)
any_more p n = rw add-one refl

pub all_more : {X : Type 0} (f : ℕ → List X) (n : ℕ) → all_below f (n + 1) ≡ all_below f n ++ f n
all_more f n = rw add-one refl

-- it holds for one number
pub any_at : (p : ℕ → Bool) (n k : ℕ) → k < n → p k ≡ true → any_below p n ≡ true
any_at p zero k within holds = absurd (omega arith)
any_at p (suc n) k within holds = by (any_at p n k) (cases_eq k n)
  where
    by : (k < n → p k ≡ true → any_below p n ≡ true) → (k ≡ n) ⊎ (k ≡ n → ⊥) → any_below p (suc n) ≡ true
    by below (inl e) = or_right (any_below p n) (p n) (ap p (sym e) ∙ holds)
    by below (inr other) = or_left (any_below p n) (p n) (below (omega arith) holds)

-- and so there is one where it holds for some
pub any_some : (p : ℕ → Bool) (n : ℕ) → any_below p n ≡ true → (k : ℕ) × (k < n) × (p k ≡ true)
any_some p zero holds = absurd (false≢true holds)
any_some p (suc n) holds = by (any_some p n) (or_cases (any_below p n) (p n) holds)
  where
    by : (any_below p n ≡ true → (k : ℕ) × (k < n) × (p k ≡ true)) → (any_below p n ≡ true) ⊎ (p n ≡ true) → (k : ℕ) × (k < suc n) × (p k ≡ true)
    by some (inl below) = let found = some below in (found.0, omega (arith, found.1), found.2)
    by some (inr here) = (n, omega arith, here)

-- the same tests below a bound
pub any_same : (p q : ℕ → Bool) (n : ℕ) → ((k : ℕ) → k < n → p k ≡ q k) → any_below p n ≡ any_below q n
any_same p q zero same = refl
any_same p q (suc n) same = ap (λ b. b || p n) (any_same p q n (λ k h. same k (omega arith))) ∙ ap (λ b. any_below q n || b) (same n (omega arith))

-- the same lists below a bound
pub all_same : {X : Type 0} (f g : ℕ → List X) (n : ℕ) → ((k : ℕ) → k < n → f k ≡ g k) → all_below f n ≡ all_below g n
all_same f g zero same = refl
all_same f g (suc n) same = ap (λ xs. xs ++ f n) (all_same f g n (λ k h. same k (omega arith))) ∙ ap (λ xs. all_below g n ++ xs) (same n (omega arith))
