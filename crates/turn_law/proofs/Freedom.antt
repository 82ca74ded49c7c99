-- Free literals: what is read fixes them, and they can be set so that any turn is read.
use Rattle.std.proofs.Common.{◌≡◌, ℕ, suc, zero, ◌+◌, ◌-◌, ◌*◌, ◌/◌, ◌%◌, ◌^◌, ◌<◌, ◌≤◌, Bool, true, false, not, ◌&&◌, ◌||◌, List, [], ◌∷◌, ◌++◌, map, refl, sym, ◌∙◌, ap, subst, inl, inr, ◌⊎◌, arith, if◌then◌else◌, length, ◌==◌, get_or, pow-suc}
use Rattle.std.proofs.lemmas.Bool.Decides.{nat_tests}
use Rattle.clause_form.specs.declared.lit.Lit.{Lit}
use Rattle.clause_form.specs.ClauseTruth.{Values, is_lit_true}
use Rattle.clause_form.proofs.Negations.{is_lit_true-literal, is_lit_true-negation}
use Rattle.clause_form.specs.Literals.{literal, negation, is_positive, variable}
use Rattle.bit_circuit.specs.BusValue.{bit, number}
use Rattle.turn_law.specs.Building.{is_no, free_of, HasRoom}
use Rattle.turn_law.specs.Symbol.{no, nth, row_true, first_true, trues}
use Rattle.turn_law.proofs.Taking.{same_number}

-- ---- the literal that is false
pub no_false : (v : Values) → v 1 ≡ true → is_lit_true v no ≡ false
unfolding is_lit_true is_positive variable
no_false v o = ap not o

pub same_no : (l : Lit) → is_no l ≡ true → l ≡ no
same_no l e = let h = same_number l.0 3 e in λ i. record { 0 = h i }

is_no_false : (v : Values) (l : Lit) → v 1 ≡ true → is_no l ≡ true → is_lit_true v l ≡ false
is_no_false v l o e = ap (is_lit_true v) (same_no l e) ∙ no_false v o

-- ---- values for the free literals
-- the values at the free places, from a number on
abbrev pub targets : List Lit → ℕ → (ℕ → Bool) → List Bool
targets [] i f = []
targets (l ∷ ls) i f = if is_no l then targets ls (suc i) f else f i ∷ targets ls (suc i) f

pub length-targets : (ls : List Lit) (i : ℕ) (f : ℕ → Bool) → length (targets ls i f) ≡ length (free_of ls)
length-targets [] i f = refl
length-targets (l ∷ ls) i f = go (is_no l) (length-targets ls (suc i) f)
  where
    go : (b : Bool) → length (targets ls (suc i) f) ≡ length (free_of ls) → length (if b then targets ls (suc i) f else f i ∷ targets ls (suc i) f) ≡ length (if b then free_of ls else l ∷ free_of ls)
    go true e = e
    go false e = ap suc e

-- a row whose free literals have these values has them at each place, if they are false elsewhere
pub targets_read : (v : Values) (ls : List Lit) (i : ℕ) (f : ℕ → Bool) → v 1 ≡ true → map (is_lit_true v) (free_of ls) ≡ targets ls i f → ((j : ℕ) → is_no (nth ls j) ≡ true → f (i + j) ≡ false) → (j : ℕ) → row_true v ls j ≡ f (i + j)
targets_read v [] i f o e h j = no_false v o ∙ sym (h j refl)
targets_read v (l ∷ ls) i f o e h j = go (λ d k. targets_read v ls (suc i) f o d (λ k g. ap f (s k) ∙ h (suc k) g) k) (is_no l) refl e j
  where
    s : (k : ℕ) → suc i + k ≡ i + suc k
    s k = omega arith

    z : i + 0 ≡ i
    z = omega arith

    go : (map (is_lit_true v) (free_of ls) ≡ targets ls (suc i) f → (j : ℕ) → row_true v ls j ≡ f (suc i + j)) → (b : Bool) → is_no l ≡ b → map (is_lit_true v) (if b then free_of ls else l ∷ free_of ls) ≡ (if b then targets ls (suc i) f else f i ∷ targets ls (suc i) f) → (j : ℕ) → row_true v (l ∷ ls) j ≡ f (i + j)
    go again true n e zero = is_no_false v l o n ∙ sym (h 0 n)
    go again true n e (suc j) = again e j ∙ ap f (s j)
    go again false n e zero = let g : is_lit_true v l ≡ f i = cc in g ∙ ap f (sym z)
    go again false n e (suc j) = let g : map (is_lit_true v) (free_of ls) ≡ targets ls (suc i) f = cc in again g j ∙ ap f (s j)

-- rows with equal values have equal values of the free literals
pub free_fixed : (v w : Values) (ls : List Lit) → map (is_lit_true v) ls ≡ map (is_lit_true w) ls → map (is_lit_true v) (free_of ls) ≡ map (is_lit_true w) (free_of ls)
free_fixed v w [] e = refl
free_fixed v w (l ∷ ls) e =
    let f : map (is_lit_true v) ls ≡ map (is_lit_true w) ls = cc in
    let g : is_lit_true v l ≡ is_lit_true w l = cc in
    go (is_no l) g (free_fixed v w ls f)
  where
    go : (b : Bool) → is_lit_true v l ≡ is_lit_true w l → map (is_lit_true v) (free_of ls) ≡ map (is_lit_true w) (free_of ls) → map (is_lit_true v) (if b then free_of ls else l ∷ free_of ls) ≡ map (is_lit_true w) (if b then free_of ls else l ∷ free_of ls)
    go true h k = k
    go false h k = cc

pub rows_fix : (v w : Values) (ls : List Lit) → ((i : ℕ) → row_true v ls i ≡ row_true w ls i) → map (is_lit_true v) ls ≡ map (is_lit_true w) ls
rows_fix v w [] h = refl
rows_fix v w (l ∷ ls) h = let e : is_lit_true v l ≡ is_lit_true w l = h 0 in let f = rows_fix v w ls (λ i. h (suc i)) in cc

-- ---- words
bit_low : (v : Values) (l : Lit) (ls : List Lit) → number v (l ∷ ls) % 2 ≡ bit v l
bit_low v l ls = go (is_lit_true v l)
  where
    go : (b : Bool) → ((if b then 1 else 0) + 2 * number v ls) % 2 ≡ (if b then 1 else 0)
    go true = omega arith
    go false = omega arith

number_high : (v : Values) (l : Lit) (ls : List Lit) → number v (l ∷ ls) / 2 ≡ number v ls
number_high v l ls = go (is_lit_true v l)
  where
    go : (b : Bool) → ((if b then 1 else 0) + 2 * number v ls) / 2 ≡ number v ls
    go true = omega arith
    go false = omega arith

abbrev pub worth : Bool → ℕ
worth b = if b then 1 else 0

same_bit : (a b : Bool) → worth a ≡ worth b → a ≡ b
same_bit true true e = refl
same_bit true false e = absurd (omega (arith, e))
same_bit false true e = absurd (omega (arith, e))
same_bit false false e = refl

-- a word fixes its bits
pub number_fixes : (v w : Values) (ls : List Lit) → number v ls ≡ number w ls → map (is_lit_true v) ls ≡ map (is_lit_true w) ls
number_fixes v w [] e = refl
number_fixes v w (l ∷ ls) e =
    let f = same_bit (is_lit_true v l) (is_lit_true w l) (sym (bit_low v l ls) ∙ ap (λ n. n % 2) e ∙ bit_low w l ls) in
    let g = number_fixes v w ls (sym (number_high v l ls) ∙ ap (λ n. n / 2) e ∙ number_high w l ls) in
    cc

-- the bit of a number at a place
abbrev pub digit : ℕ → ℕ → Bool
digit m zero = m % 2 == 1
digit m (suc j) = digit (m / 2) j

half : (k m : ℕ) → m < 2 ^ suc k → m / 2 < 2 ^ k
half k m h = let e : 2 ^ suc k ≡ 2 * 2 ^ k = omega arith in omega (arith, e)

pub digit_high : (bits m : ℕ) → m < 2 ^ bits → (j : ℕ) → bits ≤ j → digit m j ≡ false
digit_high zero m h zero k = let e : m ≡ 0 = omega arith in rw e refl
digit_high zero m h (suc j) k = digit_high zero (m / 2) (omega arith) j (omega arith)
digit_high (suc bits) m h zero k = absurd (omega arith)
digit_high (suc bits) m h (suc j) k = digit_high bits (m / 2) (half bits m h) j (omega arith)

digits_none : (bits m : ℕ) → m < 2 ^ bits → ((j : ℕ) → digit m j ≡ false) → m ≡ 0
digits_none zero m h d = omega arith
digits_none (suc bits) m h d =
    let e = digits_none bits (m / 2) (half bits m h) (λ j. d (suc j)) in
    let f : (m % 2 == 1) ≡ false = d 0 in
    let g : m % 2 ≡ 0 = grind (arith, nat_tests) in
    omega arith

pub number_digits : (v : Values) (ls : List Lit) (bits m : ℕ) → v 1 ≡ true → m < 2 ^ bits → ((j : ℕ) → row_true v ls j ≡ digit m j) → number v ls ≡ m
number_digits v [] bits m o h d = sym (digits_none bits m h (λ j. sym (d j) ∙ no_false v o))
number_digits v (l ∷ ls) bits m o h d =
    let i = number_digits v ls bits (m / 2) o (omega arith) (λ j. d (suc j)) in
    let f : is_lit_true v l ≡ (m % 2 == 1) = d 0 in
    rw (f, i) (parts m (m % 2 == 1) refl)
  where
    parts : (m : ℕ) (b : Bool) → (m % 2 == 1) ≡ b → (if b then 1 else 0) + 2 * (m / 2) ≡ m
    parts m true e = grind (arith, nat_tests)
    parts m false e = grind (arith, nat_tests)

-- the digits of a number for which the row has room are false where the row isn't free
pub room_high : (row : List Lit) (word : ℕ) → HasRoom row word → (j : ℕ) → is_no (nth row j) ≡ true → digit word j ≡ false
room_high row word r j e = digit_high r.bits word r.fits j (go (nat_below j r.bits))
  where
    nat_below : (j b : ℕ) → (j < b) ⊎ (b ≤ j)
    nat_below zero zero = inr (omega arith)
    nat_below zero (suc b) = inl (omega arith)
    nat_below (suc j) zero = inr (omega arith)
    nat_below (suc j) (suc b) = go' (nat_below j b)
      where
        go' : (j < b) ⊎ (b ≤ j) → (suc j < suc b) ⊎ (suc b ≤ suc j)
        go' (inl h) = inl (omega arith)
        go' (inr h) = inr (omega arith)

    go : (j < r.bits) ⊎ (r.bits ≤ j) → r.bits ≤ j
    go (inl h) = absurd (let f = r.free j h in cc)
    go (inr h) = h

-- ---- labels
-- with no true literal each is false
pub none_at : (v : Values) (ls : List Lit) → v 1 ≡ true → trues v ls ≡ 0 → (i : ℕ) → row_true v ls i ≡ false
none_at v [] o e i = no_false v o
none_at v (l ∷ ls) o e i = go (is_lit_true v l) refl i (none_at v ls o)
  where
    go : (b : Bool) → is_lit_true v l ≡ b → (i : ℕ) → (trues v ls ≡ 0 → (j : ℕ) → row_true v ls j ≡ false) → row_true v (l ∷ ls) i ≡ false
    go true f i h = absurd (let g : bit v l ≡ 1 = rw f refl in omega (arith, g, e))
    go false f zero h = f
    go false f (suc j) h = h (omega (arith, e)) j

-- with one true literal each is known
pub one_at : (v : Values) (ls : List Lit) → v 1 ≡ true → trues v ls ≡ 1 → (i : ℕ) → row_true v ls i ≡ (i == first_true v ls)
one_at v [] o e i = absurd (omega (arith, e))
one_at v (l ∷ ls) o e i = go (is_lit_true v l) refl i (one_at v ls o)
  where
    go : (b : Bool) → is_lit_true v l ≡ b → (i : ℕ) → (trues v ls ≡ 1 → (j : ℕ) → row_true v ls j ≡ (j == first_true v ls)) → row_true v (l ∷ ls) i ≡ (i == (if b then 0 else suc (first_true v ls)))
    go true f zero h = f
    go true f (suc j) h = none_at v ls o (let g : bit v l ≡ 1 = rw f refl in omega (arith, g, e)) j ∙ grind (arith, nat_tests)
    go false f zero h = f ∙ grind (arith, nat_tests)
    go false f (suc j) h = let g : bit v l ≡ 0 = rw f refl in h (omega (arith, g, e)) j ∙ grind (arith, nat_tests)

-- where each is false none is counted
pub trues_none : (v : Values) (ls : List Lit) → ((j : ℕ) → row_true v ls j ≡ false) → trues v ls ≡ 0
trues_none v [] h = refl
trues_none v (l ∷ ls) h =
    let f : is_lit_true v l ≡ false = h 0 in
    let g = trues_none v ls (λ j. h (suc j)) in
    rw (f, g) refl

-- where one is true it is the one that is counted, and the first
pub trues_one : (v : Values) (ls : List Lit) (t : ℕ) → v 1 ≡ true → ((j : ℕ) → row_true v ls j ≡ (j == t)) → (trues v ls ≡ 1) × (first_true v ls ≡ t)
trues_one v [] t o h = absurd (let f : false ≡ (t == t) = sym (no_false v o) ∙ h t in let g : (t == t) ≡ true = grind (arith, nat_tests) in cc)
trues_one v (l ∷ ls) zero o h =
    let f : is_lit_true v l ≡ true = h 0 in
    let g = trues_none v ls (λ j. h (suc j) ∙ grind (arith, nat_tests)) in
    rw f (omega arith, refl)
trues_one v (l ∷ ls) (suc t) o h =
    let f : is_lit_true v l ≡ false = h 0 ∙ grind (arith, nat_tests) in
    let g = trues_one v ls t o (λ j. h (suc j) ∙ grind (arith, nat_tests)) in
    let i = g.0 in
    let k = g.1 in
    rw f (omega arith, omega arith)

-- a true literal is counted
pub trues_some : (v : Values) (ls : List Lit) (j : ℕ) → v 1 ≡ true → row_true v ls j ≡ true → 0 < trues v ls
trues_some v ls j o h = go (trues v ls) refl
  where
    go : (n : ℕ) → trues v ls ≡ n → 0 < trues v ls
    go zero e = absurd (let f = none_at v ls o e j in cc)
    go (suc n) e = omega arith
