-- Answers of 32 literals.
use Rattle.std.proofs.Common.{◌≡◌, ℕ, zero, suc, ◌+◌, ◌*◌, ◌/◌, ◌%◌, ◌^◌, ◌<◌, ◌≤◌, Bool, true, false, List, map, length, set, get_or, replicate, mul-zero, mul-add, mul_left_comm, refl, sym, ◌∙◌, ap, subst, arith, nat_eq, if◌then◌else◌}
use Rattle.std.proofs.lemmas.Bool.Decides.{nat_tests}
use Rattle.std.proofs.lemmas.List.{length-set, get_or-set_other, length-replicate}
use Rattle.clause_form.specs.declared.lit.Lit.{Lit}
use Rattle.clause_form.specs.ClauseTruth.{Values, is_lit_true}
use Rattle.clause_form.specs.Literals.{IsOf, AreOf, negation, literal}
use Rattle.clause_form.proofs.Negations.{is_lit_true-literal}
use Rattle.chk_base.specs.Operators.{one_if}
use Rattle.bit_circuit.specs.Extension.{PlainFormula, IsModel, Makes, IsCircuit}
use Rattle.bit_circuit.specs.BusValue.{bit, number, nth, MakesEach, gated, choice, gate_word, MakesBus, MakesSum, MakesDifference}
use Rattle.bit_circuit.specs.declared.bits.Gate.{Gate}
use Rattle.bit_circuit.specs.declared.bits.Gate.TheVariants.{And, Or, Xor}
use Rattle.bit_circuit.proofs.LoopInvariants.{IsConstant}
use Rattle.bit_circuit.proofs.Growth.{extends_refl, extends_trans, kept}
use Rattle.bit_circuit.proofs.OneByOne.{number_and, number_or, number_xor, number_chosen, number-map_negation}
use Rattle.bit_circuit.proofs.Numbers.{number-lt, one_if-le, number-set, are-set, pow_more}
use Rattle.bit_circuit.proofs.GateClauses.{literal_of}
use Rattle.bit_circuit.proofs.Composition.{made_here, made_negated}

number_gate : (g : Gate) (old new : PlainFormula) (was now b : List Lit) (most : ℕ) → length was ≡ length b → MakesEach old new (gated g) was now b (length b) most → (v : Values) → IsModel v new → number v now ≡ gate_word g (number v was) (number v b)
number_gate And = number_and
number_gate Or = number_or
number_gate Xor = number_xor

pub each_bus : (g : Gate) (old new : PlainFormula) (was now b : List Lit) → length was ≡ 32 → length b ≡ 32 → MakesEach old new (gated g) was now b (length b) (1 * length b) → MakesBus old new now (λ v. gate_word g (number v was) (number v b)) 32
each_bus g old new was now b l k p = record {
  extends = p.extends;
  width = p.length_kept ∙ l;
  inside = p.inside;
  equal = number_gate g old new was now b _ (l ∙ sym k) p;
  few = omega (arith, p.few);
}

pub chosen_bus : (old new : PlainFormula) (c : Lit) (was now b : List Lit) → length was ≡ 32 → length b ≡ 32 → MakesEach old new (choice c) was now b (length b) (1 * length b) → MakesBus old new now (λ v. if is_lit_true v c then number v b else number v was) 32
chosen_bus old new c was now b l k p = record {
  extends = p.extends;
  width = p.length_kept ∙ l;
  inside = p.inside;
  equal = number_chosen old new c was now b _ (l ∙ sym k) p;
  few = omega (arith, p.few);
}

-- ---- composition
pub bus_here : (s : PlainFormula) (ls : List Lit) (value : Values → ℕ) (n : ℕ) → length ls ≡ 32 → AreOf s.variables ls → ((v : Values) → IsModel v s → number v ls ≡ value v) → MakesBus s s ls value n
bus_here s ls value n w o e = record { extends = extends_refl s; width = w; inside = o; equal = e; few = omega arith }

pub bus_as : (s new : PlainFormula) (ls : List Lit) (f g : Values → ℕ) (n m : ℕ) → MakesBus s new ls f n → ((v : Values) → IsModel v new → f v ≡ g v) → n ≤ m → MakesBus s new ls g m
bus_as s new ls f g n m k e h = record { extends = k.extends; width = k.width; inside = k.inside; equal = λ v i. k.equal v i ∙ e v i; few = omega (arith, k.few) }

-- a bus after a bus
pub bus_bus : (a b c : PlainFormula) (x y : List Lit) (f g h : Values → ℕ) (n m k : ℕ) → MakesBus a b x f n → MakesBus b c y g m → ((v : Values) → IsModel v c → number v x ≡ f v → g v ≡ h v) → n + m ≤ k → MakesBus a c y h k
bus_bus a b c x y f g h n m k p q e l = record {
  extends = extends_trans a b c p.extends q.extends;
  width = q.width;
  inside = q.inside;
  equal = λ v i. q.equal v i ∙ e v i (p.equal v (kept q.extends v i));
  few = omega (arith, p.few, q.few);
}

-- a bus after a literal
pub lit_bus : (a b c : PlainFormula) (x : Lit) (y : List Lit) (f : Values → Bool) (g h : Values → ℕ) (n m k : ℕ) → Makes a b x f n → MakesBus b c y g m → ((v : Values) → IsModel v c → is_lit_true v x ≡ f v → g v ≡ h v) → n + m ≤ k → MakesBus a c y h k
lit_bus a b c x y f g h n m k p q e l = record {
  extends = extends_trans a b c p.extends q.extends;
  width = q.width;
  inside = q.inside;
  equal = λ v i. q.equal v i ∙ e v i (p.equal v (kept q.extends v i));
  few = omega (arith, p.few, q.few);
}

-- a literal after a bus
pub bus_lit : (a b c : PlainFormula) (x : List Lit) (y : Lit) (f : Values → ℕ) (g h : Values → Bool) (n m k : ℕ) → MakesBus a b x f n → Makes b c y g m → ((v : Values) → IsModel v c → number v x ≡ f v → g v ≡ h v) → n + m ≤ k → Makes a c y h k
bus_lit a b c x y f g h n m k p q e l = record {
  extends = extends_trans a b c p.extends q.extends;
  inside = q.inside;
  equal = λ v i. q.equal v i ∙ e v i (p.equal v (kept q.extends v i));
  few = omega (arith, p.few, q.few);
}

-- ---- sums and differences
pub sum_bus : (s new : PlainFormula) (a b : List Lit) (never : Lit) (answer : List Lit) (to : Lit) → ((v : Values) → IsModel v s → is_lit_true v never ≡ false) → MakesSum s new a b never answer to 160 → MakesBus s new answer (λ v. (number v a + number v b) % 2 ^ 32) 160
sum_bus s new a b never answer to z p = record {
  extends = p.extends;
  width = p.width;
  inside = p.inside;
  equal = λ v m.
      let h : number v answer < 2 ^ 32 = subst (λ n. number v answer < 2 ^ n) p.width (number-lt v answer) in
      let e : bit v never ≡ 0 = ap one_if (z v (kept p.extends v m)) in
      let f = p.equal v m in
      let g = one_if-le (is_lit_true v to) in
      omega arith;
  few = p.few;
}

pub difference_made : (s new : PlainFormula) (a b : List Lit) (always : Lit) (answer : List Lit) (to : Lit) → length b ≡ 32 → ((v : Values) → IsModel v s → is_lit_true v always ≡ true) → MakesSum s new a (map negation b) always answer to 160 → MakesDifference s new a b answer to 160
difference_made s new a b always answer to l z p = record {
  extends = p.extends;
  width = p.width;
  inside = p.inside;
  fits_inside = p.carry_inside;
  equal = λ v m.
      let e : bit v always ≡ 1 = ap one_if (z v (kept p.extends v m)) in
      let f = p.equal v m in
      let g : number v (map negation b) + number v b + 1 ≡ 2 ^ 32 = subst (λ n. number v (map negation b) + number v b + 1 ≡ 2 ^ n) l (number-map_negation v b) in
      omega arith;
  few = p.few;
}

-- ---- constants
pub one_true : (s : PlainFormula) → IsCircuit s → (v : Values) → IsModel v s → is_lit_true v (literal 1) ≡ true
one_true s k v m = is_lit_true-literal v 1 ∙ k.one v m

pub yes_made : (s : PlainFormula) (r : Lit) → IsCircuit s → r ≡ literal 1 → Makes s s r (λ _. true) 0
yes_made s r k e = rw e (made_here s (literal 1) (λ _. true) 0 (literal_of 1 s.variables (omega arith) k.starts) (one_true s k))

pub no_made : (s : PlainFormula) (r : Lit) → IsCircuit s → r ≡ negation (literal 1) → Makes s s r (λ _. false) 0
no_made s r k e = rw e (made_negated s s (literal 1) (λ _. true) (λ _. false) 0 (yes_made s (literal 1) k refl) (λ v. refl))

pub number-replicate : (v : Values) (never : Lit) → is_lit_true v never ≡ false → (n : ℕ) → number v (replicate n never) ≡ 0
number-replicate v never e zero = refl
number-replicate v never e (suc n) = let h = number-replicate v never e n in let f : bit v never ≡ 0 = ap one_if e in omega arith

pub are-replicate : (m : ℕ) (never : Lit) → IsOf m never → (n : ℕ) → AreOf m (replicate n never)
are-replicate m never o zero = tt
are-replicate m never o (suc n) = (o, are-replicate m never o n)

get_or-replicate : (never d : Lit) (n k : ℕ) → k < n → get_or (replicate n never) k d ≡ never
get_or-replicate never d zero k h = absurd (omega arith)
get_or-replicate never d (suc n) zero h = refl
get_or-replicate never d (suc n) (suc k) h = get_or-replicate never d n k (omega arith)

pub constant_none : (s : PlainFormula) (n : ℕ) (never : Lit) (ls : List Lit) → Makes s s never (λ _. false) 0 → ls ≡ replicate 32 never → IsConstant s n 0 n ls
constant_none s n never ls p e = rw e (record {
  width = length-replicate 32 never;
  inside = are-replicate s.variables never p.inside 32;
  empty = λ v m k h g. rw (get_or-replicate never (literal 0) 32 k g) (p.equal v m);
  equal = λ v m. rw (number-replicate v never (p.equal v m) 32) (omega arith);
})

pub constant_more : (s : PlainFormula) (n i rest : ℕ) (ls : List Lit) (b : Bool) (r : Lit) → i < 32 → Makes s s r (λ _. b) 0 → one_if b ≡ rest % 2 → IsConstant s n i rest ls → IsConstant s n (i + 1) (rest / 2) (set ls i r)
constant_more s n i rest ls b r h p e c =
    let within : i < length ls = omega (arith, c.width) in
    record {
      width = length-set ls i r ∙ c.width;
      inside = are-set s.variables ls i r c.inside p.inside;
      empty = λ v m k g l. rw (get_or-set_other ls i k r (literal 0) (λ q. omega arith)) (c.empty v m k (omega arith) l);
      equal = λ v m.
          let f = number-set v ls i (literal 0) r within in
          let g : 2 ^ i * bit v (nth ls i) ≡ 0 = ap (λ z. 2 ^ i * one_if z) (c.empty v m i (omega arith) h) ∙ mul-zero (2 ^ i) in
          let j : 2 ^ i * bit v r ≡ 2 ^ i * (rest % 2) = ap (λ z. 2 ^ i * z) (ap one_if (p.equal v m) ∙ e) in
          let k : 2 ^ i * rest ≡ 2 * (2 ^ i * (rest / 2)) + 2 ^ i * (rest % 2) = split i rest in
          let w = pow_more i (rest / 2) in
          let q = c.equal v m in
          omega arith;
    }
  where
    split : (i rest : ℕ) → 2 ^ i * rest ≡ 2 * (2 ^ i * (rest / 2)) + 2 ^ i * (rest % 2)
    split i rest =
        let d : rest ≡ 2 * (rest / 2) + rest % 2 = omega arith in
        let a : 2 ^ i * rest ≡ 2 ^ i * (2 * (rest / 2) + rest % 2) = ap (λ z. 2 ^ i * z) d in
        let b : 2 ^ i * (2 * (rest / 2) + rest % 2) ≡ 2 ^ i * (2 * (rest / 2)) + 2 ^ i * (rest % 2) = mul-add (2 ^ i) (2 * (rest / 2)) (rest % 2) in
        let c : 2 ^ i * (2 * (rest / 2)) ≡ 2 * (2 ^ i * (rest / 2)) = mul_left_comm (2 ^ i) 2 (rest / 2) in
        omega arith

pub constant_all : (s : PlainFormula) (n i rest : ℕ) (ls : List Lit) → i ≡ 32 → n < 2 ^ 32 → IsConstant s n i rest ls → MakesBus s s ls (λ _. n) 0
constant_all s n i rest ls e h c = bus_here s ls (λ _. n) 0 c.width c.inside (λ v m. let f : number v ls + 2 ^ 32 * rest ≡ n = rw e at (c.equal v m) in omega arith)

pub odd_bit : (n : ℕ) → one_if (nat_eq (n % 2) 1) ≡ n % 2
odd_bit n = grind (arith, nat_tests)
