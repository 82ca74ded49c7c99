-- The word of a turn, from its bits.
use Rattle.std.proofs.Common.{◌≡◌, ℕ, suc, zero, ◌+◌, ◌-◌, ◌*◌, ◌^◌, ◌<◌, ◌≤◌, Bool, true, false, not, ◌&&◌, ◌||◌, List, [], ◌∷◌, refl, sym, ◌∙◌, ap, subst, arith, if◌then◌else◌, length, ◌==◌, nat_le, nat_lt, Option, Some, None}
use Rattle.std.proofs.lemmas.Bool.Decides.{nat_tests}
use Rattle.chk_base.specs.Widths.{bits_of, limit_of}
use Rattle.chk_base.specs.declared.word.Width.{Width}
use Rattle.chk_base.specs.declared.word.Width.TheVariants.{W1, W8, W16, W32}
use Rattle.clause_form.specs.declared.lit.Lit.{Lit}
use Rattle.clause_form.specs.ClauseTruth.{Values, is_lit_true}
use Rattle.bit_circuit.specs.BusValue.{bit, number}
use Rattle.guard_prog.specs.GuardedRun.{PlainAlternative, takes_word}
use Rattle.turn_law.specs.Sight.{Offer, any, is_all, AllTaken}
use Rattle.turn_law.specs.Symbol.{row_true}
use Rattle.turn_law.proofs.Taking.{on, Hits, same_number}
use Rattle.turn_unroll.specs.Ways.{input_bits, wider}

-- no bit of a place from k on is true exactly where the word is below 2^k
pub word_from : (v : Values) (ls : List Lit) (k : ℕ) → ((i : ℕ) → k ≤ i → i < length ls → row_true v ls i ≡ false) → number v ls < 2 ^ k
word_from v [] k h = power k
  where
    power : (k : ℕ) → 0 < 2 ^ k
    power zero = omega arith
    power (suc k) = let e : 2 ^ suc k ≡ 2 * 2 ^ k = omega arith in omega (arith, e, power k)
word_from v (l ∷ ls) zero h =
    let e : is_lit_true v l ≡ false = h 0 (omega arith) (omega arith) in
    let g = word_from v ls zero (λ i a b. h (suc i) (omega arith) (omega (arith, b))) in
    rw e (omega (arith, g))
word_from v (l ∷ ls) (suc k) h =
    let g = word_from v ls k (λ i a b. h (suc i) (omega (arith, a)) (omega (arith, b))) in
    go (is_lit_true v l) g
  where
    go : (b : Bool) → number v ls < 2 ^ k → (if b then 1 else 0) + 2 * number v ls < 2 ^ suc k
    go true g = let e : 2 ^ suc k ≡ 2 * 2 ^ k = omega arith in omega (arith, e, g)
    go false g = let e : 2 ^ suc k ≡ 2 * 2 ^ k = omega arith in omega (arith, e, g)

pub word_to : (v : Values) (ls : List Lit) (k : ℕ) → number v ls < 2 ^ k → (i : ℕ) → k ≤ i → i < length ls → row_true v ls i ≡ false
word_to v [] k h i a b = absurd (omega (arith, b))
word_to v (l ∷ ls) zero h zero a b = go (is_lit_true v l) refl
  where
    go : (c : Bool) → is_lit_true v l ≡ c → c ≡ false
    go true e = absurd (let g : bit v l ≡ 1 = rw e refl in omega (arith, g, h))
    go false e = refl
word_to v (l ∷ ls) zero h (suc i) a b = word_to v ls zero (omega (arith, h)) i (omega arith) (omega (arith, b))
word_to v (l ∷ ls) (suc k) h zero a b = absurd (omega (arith, a))
word_to v (l ∷ ls) (suc k) h (suc i) a b = let e : 2 ^ suc k ≡ 2 * 2 ^ k = omega arith in word_to v ls k (omega (arith, e, h)) i (omega (arith, a)) (omega (arith, b))

-- each bit that is true belongs to the input of an alternative that is taken
pub record HasTakers (v : Values) (ls : List Lit) (at label : ℕ → Bool) (os : List Offer) : Type 0 where
  pub taker : (i : ℕ) → i < length ls → row_true v ls i ≡ true → any at label (wider i) os ≡ true

-- every bit that no alternative takes is false
dark_from : (v : Values) (ls : List Lit) (k i : ℕ) → (row_true v ls i ≡ true → nat_lt i k ≡ true) → k ≤ i → row_true v ls i ≡ false
dark_from v ls k i h g = go (row_true v ls i) refl
  where
    go : (b : Bool) → row_true v ls i ≡ b → b ≡ false
    go true e = absurd (let f = h e in let j : nat_lt i k ≡ false = grind (arith, nat_tests, g) in cc)
    go false e = refl

pub record Worded (v : Values) (ls : List Lit) (at label : ℕ → Bool) (os : List Offer) : Type 0 where
  pub word : AllTaken at label (λ a. takes_word a.input (number v ls)) os
  pub unused : any at label is_all os ≡ false → number v ls ≡ 0

-- from the bits to the word
pub words_from : (v : Values) (ls : List Lit) (at label : ℕ → Bool) (os : List Offer) (hit : Option PlainAlternative) → Hits at label os hit → HasTakers v ls at label os → Worded v ls at label os
words_from v ls at label os None h e =
    let z : number v ls < 2 ^ 0 = word_from v ls 0 (λ i g j. dark_from v ls 0 i (λ f. absurd (let x = e.taker i j f in let y = h.any (wider i) in cc)) g) in
    record { word = record { none = h.any (λ a. not (takes_word a.input (number v ls))) }; unused = λ f. omega (arith, z) }
words_from v ls at label os (Some a) h e = record {
  word = record { none = h.any (λ a. not (takes_word a.input (number v ls))) ∙ ap not (go a.input (λ i j f. sym (h.any (wider i)) ∙ e.taker i j f)) };
  unused = λ f. absurd (let x = h.any is_all in cc);
}
  where
    go : (w : Option Width) → ((i : ℕ) → i < length ls → row_true v ls i ≡ true → nat_lt i (input_bits w) ≡ true) → takes_word w (number v ls) ≡ true
    go None k =
        let z : number v ls < 2 ^ 0 = word_from v ls 0 (λ i g j. dark_from v ls 0 i (λ f. k i j f) g) in
        grind (arith, nat_tests, z)
    go (Some w) k =
        let z : number v ls < 2 ^ bits_of w = word_from v ls (bits_of w) (λ i g j. dark_from v ls (bits_of w) i (λ f. k i j f) g) in
        grind (arith, nat_tests, z)

not_false : (b : Bool) → not b ≡ false → b ≡ true
not_false true e = refl
not_false false e = absurd (cc)

-- and back
pub words_to : (v : Values) (ls : List Lit) (at label : ℕ → Bool) (os : List Offer) (hit : Option PlainAlternative) → Hits at label os hit → Worded v ls at label os → HasTakers v ls at label os
words_to v ls at label os hit h w = record { taker = λ i g f. taken i g hit h f }
  where
    wide : (i : ℕ) → i < length ls → (o : Option Width) → takes_word o (number v ls) ≡ true → row_true v ls i ≡ true → nat_lt i (input_bits o) ≡ true
    wide i g None e f =
        let z : number v ls ≡ 0 = same_number (number v ls) 0 e in
        absurd (let x = word_to v ls 0 (omega (arith, z)) i (omega arith) g in cc)
    wide i g (Some w) e f = here (nat_lt i (bits_of w)) refl
      where
        here : (b : Bool) → nat_lt i (bits_of w) ≡ b → b ≡ true
        here true d = refl
        here false d =
            let z : number v ls < 2 ^ bits_of w = grind (arith, nat_tests, e) in
            let q : bits_of w ≤ i = grind (arith, nat_tests, d) in
            absurd (let x = word_to v ls (bits_of w) z i q g in cc)

    taken : (i : ℕ) → i < length ls → (hit : Option PlainAlternative) → Hits at label os hit → row_true v ls i ≡ true → any at label (wider i) os ≡ true
    taken i g None h f =
        let z = w.unused (h.any is_all) in
        absurd (let x = word_to v ls 0 (omega (arith, z)) i (omega arith) g in cc)
    taken i g (Some a) h f = h.any (wider i) ∙ wide i g a.input (not_false (takes_word a.input (number v ls)) (sym (h.any (λ a. not (takes_word a.input (number v ls)))) ∙ w.word.none)) f
