-- A chain of calls need not have more calls than there are functions.
use Rattle.std.proofs.Common.{◌≡◌, ℕ, zero, suc, ◌+◌, ◌<◌, ◌≤◌, Bool, true, false, ◌&&◌, cond, List, ◌⊎◌, inl, inr, length, refl, sym, ap, ◌∙◌, arith}
use Rattle.std.proofs.lemmas.Bool.{cases_lt, and_parts, false≢true}
use Rattle.static_rules.specs.declared.site.Site.{Site}
use Rattle.static_rules.specs.Chains.{calls, body, any_below, called_after, reaches}
use Rattle.static_rules.proofs.Bounds.{any_at, any_some}
use Rattle.static_rules.proofs.Reaching.{after_more, called_next}

-- how many numbers below a bound pass a test
abbrev count : (ℕ → Bool) → ℕ → ℕ
count p zero = 0
count p (suc n) = count p n + cond (p n) 1 0

one_at_most : (b : Bool) → cond b 1 0 ≤ 1
one_at_most true = omega arith
one_at_most false = omega arith

count_most : (p : ℕ → Bool) (n : ℕ) → count p n ≤ n
count_most p zero = omega arith
count_most p (suc n) = omega (arith, count_most p n, one_at_most (p n))

-- whatever passes one test passes another
abbrev Within : (ℕ → Bool) → (ℕ → Bool) → ℕ → Type 0
Within p q n = (k : ℕ) → k < n → p k ≡ true → q k ≡ true

one_more : (a b : Bool) → (a ≡ true → b ≡ true) → cond a 1 0 ≤ cond b 1 0
one_more true true h = omega arith
one_more true false h = absurd (false≢true (h refl))
one_more false b h = omega arith

count_more : (p q : ℕ → Bool) (n : ℕ) → Within p q n → count p n ≤ count q n
count_more p q zero h = omega arith
count_more p q (suc n) h = omega (arith, count_more p q n (λ k l. h k (omega arith)), one_more (p n) (q n) (h n (omega arith)))

-- and where no more pass the other, the same pass both
same_one : (a b : Bool) → cond b 1 0 ≤ cond a 1 0 → b ≡ true → a ≡ true
same_one true b h is = refl
same_one false true h is = absurd (omega (arith, h))
same_one false false h is = is

count_same : (p q : ℕ → Bool) (n : ℕ) → Within p q n → count q n ≤ count p n → Within q p n
count_same p q zero h few k l is = absurd (omega arith)
count_same p q (suc n) h few k l is =
    let below = count_more p q n (λ j m. h j (omega arith)) in
    let here = one_more (p n) (q n) (h n (omega arith)) in
    by (count_same p q n (λ j m. h j (omega arith)) (omega (arith, few, below, here))) (same_one (p n) (q n) (omega (arith, few, below, here))) (cases_lt k n)
  where
    by : Within q p n → (q n ≡ true → p n ≡ true) → (k < n) ⊎ (n ≤ k) → p k ≡ true
    by rest last (inl lower) = rest k lower is
    by rest last (inr upper) = let e : k ≡ n = omega arith in ap p e ∙ last (ap q (sym e) ∙ is)

-- a longer bound
any_longer : (p : ℕ → Bool) (m n : ℕ) → m ≤ n → any_below p m ≡ true → any_below p n ≡ true
any_longer p m n longer is = let found = any_some p m is in any_at p n found.0 (omega (arith, found.1)) found.2

-- chains of fewer calls than this lead to it
abbrev reached : List (List Site) → List Site → ℕ → ℕ → Bool
reached bodies start k g = any_below (λ n. called_after bodies start n g) k

-- one call more reaches no more
abbrev IsStill : List (List Site) → List Site → ℕ → Type 0
IsStill bodies start k = Within (reached bodies start (k + 1)) (reached bodies start k) (length bodies)

-- and then no number of calls does
still_for_ever : (bodies : List (List Site)) (start : List Site) (k : ℕ) → IsStill bodies start k → (n : ℕ) → Within (called_after bodies start n) (reached bodies start k) (length bodies)
still_for_ever bodies start k still zero g inside led = still g inside (any_at (λ n. called_after bodies start n g) (k + 1) 0 (omega arith) led)
still_for_ever bodies start k still (suc n) g inside led =
    let one = any_some (λ f. called_after bodies start n f && calls (body bodies f) g) (length bodies) (sym (after_more bodies start n g) ∙ led) in
    let both = and_parts (called_after bodies start n one.0) (calls (body bodies one.0) g) one.2 in
    let before = any_some (λ m. called_after bodies start m one.0) k (still_for_ever bodies start k still n one.0 one.1 both.0) in
    still g inside (any_at (λ m. called_after bodies start m g) (k + 1) (suc before.0) (omega (arith, before.1)) (called_next bodies start before.0 one.0 g one.1 before.2 both.1))

-- each call more reaches another function, until one reaches no more
progress : (bodies : List (List Site)) (start : List Site) (k : ℕ) → ((m : ℕ) × (m < k) × IsStill bodies start m) ⊎ (k ≤ count (reached bodies start k) (length bodies))
progress bodies start zero = inr (omega arith)
progress bodies start (suc k) = by (progress bodies start k) (cases_lt (count (reached bodies start k) (length bodies)) (count (reached bodies start (k + 1)) (length bodies)))
  where
    more : Within (reached bodies start k) (reached bodies start (k + 1)) (length bodies)
    more g inside is = any_longer (λ n. called_after bodies start n g) k (k + 1) (omega arith) is

    by : ((m : ℕ) × (m < k) × IsStill bodies start m) ⊎ (k ≤ count (reached bodies start k) (length bodies))
        → (count (reached bodies start k) (length bodies) < count (reached bodies start (k + 1)) (length bodies)) ⊎ (count (reached bodies start (k + 1)) (length bodies) ≤ count (reached bodies start k) (length bodies))
        → ((m : ℕ) × (m < suc k) × IsStill bodies start m) ⊎ (suc k ≤ count (reached bodies start (suc k)) (length bodies))
    by (inl found) _ = inl (found.0, omega (arith, found.1), found.2)
    by (inr enough) (inr none) = inl (k, omega arith, count_same (reached bodies start k) (reached bodies start (k + 1)) (length bodies) more none)
    by (inr enough) (inl some) =
        let e : k + 1 ≡ suc k = omega arith in
        let same = ap (λ n. count (reached bodies start n) (length bodies)) e in
        inr (omega (arith, enough, some, same))

pub short_chain : (bodies : List (List Site)) (start : List Site) (n g : ℕ) → g < length bodies → called_after bodies start n g ≡ true → reaches bodies start g ≡ true
unfolding reaches
short_chain bodies start n g inside led = by (progress bodies start (length bodies + 1))
  where
    by : ((m : ℕ) × (m < length bodies + 1) × IsStill bodies start m) ⊎ (length bodies + 1 ≤ count (reached bodies start (length bodies + 1)) (length bodies)) → reached bodies start (length bodies) g ≡ true
    by (inl found) = any_longer (λ k. called_after bodies start k g) found.0 (length bodies) (omega (arith, found.1)) (still_for_ever bodies start found.0 found.2 n g inside led)
    by (inr many) = absurd (omega (arith, many, count_most (reached bodies start (length bodies + 1)) (length bodies)))
