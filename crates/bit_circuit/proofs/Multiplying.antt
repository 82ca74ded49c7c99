-- Products and quotients.
use Rattle.std.proofs.Common.{◌≡◌, ℕ, zero, suc, ◌+◌, ◌-◌, ◌*◌, ◌^◌, ◌<◌, ◌≤◌, Bool, true, false, List, [], ◌∷◌, ◌++◌, map, length, take, drop, set, get_or, replicate, refl, sym, ◌∙◌, ap, subst, arith, nat_le, if◌then◌else◌, mul_comm, mul_assoc, mul-zero, length-append, length-drop, mul-add, add-mul, add-zero, add-one, mul_left_comm}
use Rattle.std.proofs.lemmas.Bool.Decides.{nat_tests}
use Rattle.std.proofs.lemmas.Nat.{div-mul-add, mod-mul-add}
use Rattle.std.proofs.lemmas.List.{length-set, length-take-le, length-replicate, take_all}
use Rattle.clause_form.specs.declared.lit.Lit.{Lit}
use Rattle.clause_form.specs.ClauseTruth.{Values, is_lit_true}
use Rattle.clause_form.specs.Literals.{IsOf, AreOf, negation}
use Rattle.clause_form.proofs.Rising.{IsOf-more, AreOf-more}
use Rattle.chk_base.specs.Operators.{one_if}
use Rattle.bit_circuit.specs.Extension.{PlainFormula, IsModel, Makes}
use Rattle.bit_circuit.specs.BusValue.{bit, number, MakesEach, choice, AddsInto, moved_lits}
use Rattle.bit_circuit.specs.Arithmetic.{IsWide, MultiplyStep, MakesProduct, DivideStep, MakesQuotient}
use Rattle.bit_circuit.specs.declared.shift.Way.TheVariants.{Up, Down}
use Rattle.bit_circuit.proofs.LoopInvariants.{IsMultiplying, IsDividing}
use Rattle.bit_circuit.proofs.Growth.{extends_refl, extends_trans, kept}
use Rattle.bit_circuit.proofs.Numbers.{number-lt, one_if-le, number-append, number-take_at, are-append, are-take, are-set, are-get, pow-suc-mul, pow_more}
use Rattle.bit_circuit.proofs.OneByOne.{number_chosen, number-map_negation}
use Rattle.bit_circuit.proofs.Buses.{number-replicate, are-replicate}
use Rattle.bit_circuit.proofs.Comparing.{number-lt_word}
use Rattle.bit_circuit.proofs.Shifting.{number-parts, are-moved, length-moved}

pub wide_made : (s : PlainFormula) (a copy : List Lit) (never : Lit) → length a ≡ 32 → AreOf s.variables a → Makes s s never (λ _. false) 0 → copy ≡ a → IsWide s a (copy ++ never ∷ [])
wide_made s a copy never w o p e = rw e (record {
  width = length-append a (never ∷ []) ∙ omega arith;
  inside = are-append s.variables a (never ∷ []) o (p.inside, tt);
  equal = λ v m.
      let f = number-append v a (never ∷ []) in
      let g : 2 ^ length a * number v (never ∷ []) ≡ 0 = ap (λ z. 2 ^ length a * (one_if z + 2 * 0)) (p.equal v m) ∙ mul-zero (2 ^ length a) in
      omega arith;
})

-- the number without the digits above, where it is small
pub number-take_small : (v : Values) (ls : List Lit) (k : ℕ) → k ≤ length ls → number v ls < 2 ^ k → number v (take k ls) ≡ number v ls
number-take_small v ls k h b = small (number v ls) (number v (take k ls)) (number v (drop k ls)) (2 ^ k) (number-parts v k ls h) b
  where
    small : (n t d p : ℕ) → n ≡ t + p * d → n < p → t ≡ n
    small n t zero p e h = sym (e ∙ ap (λ z. t + z) (mul-zero p) ∙ add-zero t)
    small n t (suc d) p e h = let f = mul-add p d 1 in let g : p * suc d ≡ p * (d + 1) = ap (λ z. p * z) (sym (add-one d)) in absurd (omega arith)

first_rest : (v : Values) (ls : List Lit) (d : Lit) → 0 < length ls → number v ls ≡ bit v (get_or ls 0 d) + 2 * number v (drop 1 ls)
first_rest v [] d h = absurd (omega arith)
first_rest v (x ∷ xs) d h = refl

pub number-drop_at : (v : Values) (ls : List Lit) (k : ℕ) (d : Lit) → k < length ls → number v (drop k ls) ≡ bit v (get_or ls k d) + 2 * number v (drop (suc k) ls)
number-drop_at v [] k d h = absurd (omega arith)
number-drop_at v (x ∷ xs) zero d h = refl
number-drop_at v (x ∷ xs) (suc k) d h = number-drop_at v xs k d (omega arith)

pub number-drop_set : (v : Values) (ls : List Lit) (k : ℕ) (x : Lit) → k < length ls → number v (drop k (set ls k x)) ≡ bit v x + 2 * number v (drop (suc k) ls)
number-drop_set v [] k x h = absurd (omega arith)
number-drop_set v (y ∷ ys) zero x h = refl
number-drop_set v (y ∷ ys) (suc k) x h = number-drop_set v ys k x (omega arith)

pub number-take_set : (v : Values) (ls : List Lit) (k : ℕ) (x : Lit) → k < length ls → number v (take (suc k) (set ls k x)) ≡ number v (take k ls) + 2 ^ k * bit v x
number-take_set v [] k x h = absurd (omega arith)
number-take_set v (y ∷ ys) zero x h = omega arith
number-take_set v (y ∷ ys) (suc k) x h =
    let e = number-take_set v ys k x (omega arith) in
    let f = pow-suc-mul k (bit v x) in
    omega arith

pub multiply_step_made : (s s1 new : PlainFormula) (was a row sum now : List Lit) (digit never never2 never3 carry d : Lit)
    → length was ≡ 33 → length a ≡ 33 → Makes s s never (λ _. false) 0 → MakesEach s s1 (choice digit) (replicate 33 never) row a (length a) (1 * length a)
    → Makes s1 s1 never2 (λ _. false) 0 → AddsInto s1 new was sum row never2 carry (5 * length row) → Makes new new never3 (λ _. false) 0 → now ≡ moved_lits Down sum 1 never3
    → MultiplyStep s new was now a digit (get_or sum 0 d)
multiply_step_made s s1 new was a row sum now digit never never2 never3 carry d w wa p q r t u e =
    let l : length (replicate 33 never) ≡ length a = length-replicate 33 never ∙ sym wa in
    let lr : length row ≡ 33 = q.length_kept ∙ length-replicate 33 never in
    let ls : length sum ≡ 33 = t.length_kept ∙ w in
    rw e (record {
      extends = extends_trans s s1 new q.extends t.extends;
      width = length-moved Down sum 1 never3 (omega arith) ∙ ls;
      inside = are-moved new.variables Down sum 1 never3 t.inside u.inside;
      low_inside = are-get new.variables sum 0 d t.inside (omega arith);
      equal = λ v m hw ha.
          let m1 = kept t.extends v m in
          let f : number v row ≡ (if is_lit_true v digit then number v a else number v (replicate 33 never)) = number_chosen s s1 digit (replicate 33 never) row a _ l q v m1 in
          let z = number-replicate v never (p.equal v (kept q.extends v m1)) 33 in
          let f2 : number v row ≡ (if is_lit_true v digit then number v a else 0) = f ∙ ap (λ x. if is_lit_true v digit then number v a else x) z in
          let hr : number v row < 2 ^ 32 = chosen_small (is_lit_true v digit) (number v a) (number v row) f2 ha in
          let g : number v sum + 2 ^ 33 * bit v carry ≡ number v was + number v row + bit v never2 = subst (λ n. number v sum + 2 ^ n * bit v carry ≡ number v was + number v row + bit v never2) lr (t.equal v m) in
          let y : bit v never2 ≡ 0 = ap one_if (r.equal v m1) in
          let x : bit v never3 ≡ 0 = ap one_if (u.equal v m) in
          let k = first_rest v sum d (omega arith) in
          let j = number-append v (drop 1 sum) (never3 ∷ []) in
          let i : 2 ^ length (drop 1 sum) * number v (never3 ∷ []) ≡ 0 = ap (λ z. 2 ^ length (drop 1 sum) * (one_if z + 2 * 0)) (u.equal v m) ∙ mul-zero (2 ^ length (drop 1 sum)) in
          rw (← f2) (carry_none (number v sum) (bit v carry) (number v was) (number v row) (bit v (get_or sum 0 d)) (number v (drop 1 sum)) (number v (drop 1 sum ++ never3 ∷ [])) (g ∙ omega arith) hw hr k (omega arith));
      few = omega (arith, q.few, t.few);
    })
  where
    chosen_small : (b : Bool) (a r : ℕ) → r ≡ (if b then a else 0) → a < 2 ^ 32 → r < 2 ^ 32
    chosen_small true a r e h = omega arith
    chosen_small false a r e h = omega arith

    carry_none : (sum c was row low half now : ℕ) → sum + 2 ^ 33 * c ≡ was + row → was < 2 ^ 32 → row < 2 ^ 32 → sum ≡ low + 2 * half → now ≡ half → low + 2 * now ≡ was + row
    carry_none sum c was row low half now e h k f g = omega arith

chosen-times : (b : Bool) (a : ℕ) → (if b then a else 0) ≡ one_if b * a
chosen-times true a = omega arith
chosen-times false a = omega arith

pub product_more : (old mid new : PlainFormula) (a b wide low sum now : List Lit) (i : ℕ) (d x : Lit) → i < 32 → length a ≡ 32 → length b ≡ 32 → IsWide old a wide → IsMultiplying old mid a b i low sum → MultiplyStep mid new sum now wide (get_or b i d) x → IsMultiplying old new a b (i + 1) (set low i x) now
product_more old mid new a b wide low sum now i d x h wa wb z p q = record {
  extends = extends_trans old mid new p.extends q.extends;
  low_width = length-set low i x ∙ p.low_width;
  low_inside = are-set new.variables low i x (AreOf-more mid.variables new.variables low q.extends.grows p.low_inside) q.low_inside;
  sum_width = q.width;
  sum_inside = q.inside;
  below = λ v m. step_below (is_lit_true v (get_or b i d)) (bit v x) (number v now) (number v sum) (number v a) (step v m) (p.below v (kept q.extends v m)) (number-lt_word v a wa);
  equal = λ v m.
      let k = kept q.extends v m in
      let e = p.equal v k in
      let f = number-take_set v low i x (omega (arith, p.low_width)) in
      let g = number-take_at v b i d (omega arith) in
      let t = number v (take i low) in
      let j : number v (take (i + 1) (set low i x)) ≡ number v (take i low) + 2 ^ i * bit v x = rw add-one f in
      rw (j, g) (step_equal (2 ^ i) (number v (take i low)) (bit v x) (number v now) (number v sum) (number v a) (number v (take i b)) (bit v (get_or b i d)) (2 ^ (i + 1) * number v now) (pow_more i (number v now)) e (step v m ∙ ap (λ y. number v sum + y) (chosen-times (is_lit_true v (get_or b i d)) (number v a))));
  few = omega (arith, p.few, q.few);
}
  where
    step : (v : Values) → IsModel v new → bit v x + 2 * number v now ≡ number v sum + (if is_lit_true v (get_or b i d) then number v a else 0)
    step v m =
        let k = kept q.extends v m in
        let e = z.equal v (kept p.extends v k) in
        let ha = number-lt_word v a wa in
        rw e at (q.equal v m (p.below v k) (omega arith))

    step_below : (b : Bool) (x n s a : ℕ) → x + 2 * n ≡ s + (if b then a else 0) → s < 2 ^ 32 → a < 2 ^ 32 → n < 2 ^ 32
    step_below true x n s a e h k = omega arith
    step_below false x n s a e h k = omega arith

    step_equal : (p t x n s a u b pn : ℕ) → pn ≡ 2 * (p * n) → t + p * s ≡ a * u → x + 2 * n ≡ s + b * a → (t + p * x) + pn ≡ a * (u + p * b)
    step_equal p t x n s a u b pn w e f =
        let c1 : p * (x + 2 * n) ≡ p * (s + b * a) = ap (λ y. p * y) f in
        let c2 = mul-add p x (2 * n) in
        let c3 = mul-add p s (b * a) in
        let c4 : p * (2 * n) ≡ 2 * (p * n) = mul_left_comm p 2 n in
        let c5 = mul-add a u (p * b) in
        let c6 : a * (p * b) ≡ p * (b * a) = mul_left_comm a p b ∙ ap (λ y. p * y) (mul_comm a b) in
        omega arith

pub product_done : (old new : PlainFormula) (a b low sum high : List Lit) (i : ℕ) → i ≡ 32 → length b ≡ 32 → high ≡ take 32 sum → IsMultiplying old new a b i low sum → MakesProduct old new a b low high
product_done old new a b low sum high i e wb f p = rw f (record {
  extends = p.extends;
  low_width = p.low_width;
  low_inside = p.low_inside;
  high_width = length-take-le 32 sum (omega (arith, p.sum_width));
  high_inside = are-take new.variables 32 sum p.sum_inside;
  equal = λ v m.
      let g : number v (take 32 low) + 2 ^ 32 * number v sum ≡ number v a * number v (take 32 b) = subst (λ n. number v (take n low) + 2 ^ n * number v sum ≡ number v a * number v (take n b)) e (p.equal v m) in
      let h = take_all 32 low (omega (arith, p.low_width)) in
      let k = take_all 32 b (omega arith) in
      let j = number-take_small v sum 32 (omega (arith, p.sum_width)) (p.below v m) in
      let g2 : number v (take 32 low) + 2 ^ 32 * number v (take 32 sum) ≡ number v a * number v (take 32 b) = rw j g in
      rw (h, k) at g2;
  few = omega (arith, p.few);
})

-- ---- quotients
pub divide_step_made : (s s1 new : PlainFormula) (was moved complement trial now : List Lit) (digit fits always : Lit)
    → length was ≡ 33 → length complement ≡ 33 → AreOf s.variables was → IsOf s.variables digit → moved ≡ moved_lits Up was 1 digit
    → Makes s s always (λ _. true) 0 → AddsInto s s1 moved trial complement always fits (5 * length complement) → MakesEach s1 new (choice fits) moved now trial (length trial) (1 * length trial)
    → DivideStep s new was now complement digit fits
divide_step_made s s1 new was moved complement trial now digit fits always w wc o od e a p q =
    let lm : length moved ≡ 33 = ap length e ∙ length-moved Up was 1 digit (omega arith) ∙ w in
    let lt : length trial ≡ 33 = p.length_kept ∙ lm in
    record {
      extends = extends_trans s s1 new p.extends q.extends;
      width = q.length_kept ∙ lm;
      inside = q.inside;
      fits_inside = IsOf-more s1.variables new.variables fits q.extends.grows p.carry_inside;
      equal = λ v m b hw hc.
          let m1 = kept q.extends v m in
          let ha : bit v always ≡ 1 = ap one_if (a.equal v (kept p.extends v m1)) in
          let g : number v trial + 2 ^ 33 * bit v fits ≡ number v moved + number v complement + bit v always = subst (λ n. number v trial + 2 ^ n * bit v fits ≡ number v moved + number v complement + bit v always) wc (p.equal v m1) in
          let x : number v moved ≡ bit v digit + 2 * number v was = ap (number v) e ∙ ap (λ n. bit v digit + 2 * n) (ap (λ n. number v (take n was)) (n33 w) ∙ number-take_small v was 32 (omega arith) hw) in
          let ht : number v trial < 2 ^ 33 = subst (λ n. number v trial < 2 ^ n) lt (number-lt v trial) in
          let f : number v now ≡ (if is_lit_true v fits then number v trial else number v moved) = number_chosen s1 new fits moved now trial _ (lm ∙ sym lt) q v m in
          let d = one_if-le (is_lit_true v digit) in
          rw (← x) (fits_table (is_lit_true v fits) (number v trial) (number v moved) (number v now) b (omega arith) ht (omega arith) f);
      few = omega (arith, p.few, q.few);
    }
  where
    n33 : length was ≡ 33 → length was - 1 ≡ 32
    n33 w = omega arith

    fits_table : (f : Bool) (trial x now b : ℕ) → trial + 2 ^ 33 * one_if f + b ≡ x + 2 ^ 33 → trial < 2 ^ 33 → x < 2 ^ 33 → now ≡ (if f then trial else x) → (f ≡ nat_le b x) × (now + one_if f * b ≡ x)
    fits_table true trial x now b e h k g = (grind (arith, nat_tests), omega arith)
    fits_table false trial x now b e h k g = (grind (arith, nat_tests), omega arith)

pub quotient_none : (s : PlainFormula) (a b : List Lit) (never : Lit) → length a ≡ 32 → AreOf s.variables a → Makes s s never (λ _. false) 0 → IsDividing s s a b 32 a (replicate 33 never)
quotient_none s a b never w o p = record {
  extends = extends_refl s;
  quotient_width = w;
  quotient_inside = o;
  rest_width = length-replicate 33 never;
  rest_inside = are-replicate s.variables never p.inside 33;
  below = λ v m h. let z = number-replicate v never (p.equal v m) 33 in omega arith;
  equal = λ v m h.
      let z = number-replicate v never (p.equal v m) 33 in
      let y : number v (drop 32 a) ≡ 0 = none v (drop 32 a) (length-drop 32 a ∙ omega arith) in
      rw (y, z) (omega arith);
  few = omega arith;
}
  where
    none : (v : Values) (ls : List Lit) → length ls ≡ 0 → number v ls ≡ 0
    none v [] e = refl
    none v (x ∷ xs) e = absurd (omega arith)

pub quotient_more : (old mid new : PlainFormula) (a b complement q rest now : List Lit) (i j : ℕ) (d x : Lit) → i ≡ suc j → i ≤ 32 → length a ≡ 32 → length b ≡ 32 → ((v : Values) → IsModel v old → number v complement + number v b + 1 ≡ 2 ^ 33) → IsDividing old mid a b i q rest → DivideStep mid new rest now complement (get_or a j d) x → IsDividing old new a b j (set q j x) now
quotient_more old mid new a b complement q rest now i j d x e h wa wb z p0 t =
    let p : IsDividing old mid a b (suc j) q rest = subst (λ n. IsDividing old mid a b n q rest) e p0 in
    record {
      extends = extends_trans old mid new p.extends t.extends;
      quotient_width = length-set q j x ∙ p.quotient_width;
      quotient_inside = are-set new.variables q j x (AreOf-more mid.variables new.variables q t.extends.grows p.quotient_inside) t.fits_inside;
      rest_width = t.width;
      rest_inside = t.inside;
      below = λ v m h.
          let k = kept t.extends v m in
          let r = p.below v k h in
          let hb = number-lt_word v b wb in
          let s = t.equal v m (number v b) (omega arith) (z v (kept p.extends v k)) in
          let g = one_if-le (is_lit_true v (get_or a j d)) in
          rest_below (is_lit_true v x) (number v now) (number v rest) (number v b) (bit v (get_or a j d)) s.0 s.1 g r;
      equal = λ v m h.
          let k = kept t.extends v m in
          let r = p.below v k h in
          let hb = number-lt_word v b wb in
          let s = t.equal v m (number v b) (omega arith) (z v (kept p.extends v k)) in
          let f = number-drop_set v q j x (omega (arith, p.quotient_width)) in
          let g = number-drop_at v a j d (omega arith) in
          rw (f, g) (step_equal (bit v x) (number v (drop (suc j) q)) (number v b) (number v now) (number v rest) (bit v (get_or a j d)) (number v (drop (suc j) a)) s.1 (p.equal v k h));
      few = omega (arith, p.few, t.few);
    }
  where
    rest_below : (f : Bool) (now rest b digit : ℕ) → f ≡ nat_le b (digit + 2 * rest) → now + one_if f * b ≡ digit + 2 * rest → digit ≤ 1 → rest < b → now < b
    rest_below true now rest b digit e g h k = omega arith
    rest_below false now rest b digit e g h k = grind (arith, nat_tests)

    step_equal : (f q b now rest digit a : ℕ) → now + f * b ≡ digit + 2 * rest → q * b + rest ≡ a → (f + 2 * q) * b + now ≡ digit + 2 * a
    step_equal f q b now rest digit a e g =
        let c1 = add-mul f (2 * q) b in
        let c2 : 2 * q * b ≡ 2 * (q * b) = mul_assoc 2 q b in
        omega arith

pub quotient_done : (old new : PlainFormula) (a b q rest low : List Lit) (i : ℕ) → i ≡ 0 → low ≡ take 32 rest → length b ≡ 32 → IsDividing old new a b i q rest → MakesQuotient old new a b q low
quotient_done old new a b q rest low i e f wb p0 =
    let p : IsDividing old new a b 0 q rest = subst (λ n. IsDividing old new a b n q rest) e p0 in
    rw f (record {
      extends = p.extends;
      quotient_width = p.quotient_width;
      quotient_inside = p.quotient_inside;
      rest_width = length-take-le 32 rest (omega (arith, p.rest_width));
      rest_inside = are-take new.variables 32 rest p.rest_inside;
      quotient_is = λ v m h. let g = p.equal v m h in rw (← g) (sym (div-mul-add (number v q) (number v b) (number v rest) (p.below v m h)));
      rest_is = λ v m h.
          let g = p.equal v m h in
          let hb = number-lt_word v b wb in
          let r = p.below v m h in
          number-take_small v rest 32 (omega (arith, p.rest_width)) (omega arith) ∙ rw (← g) (sym (mod-mul-add (number v q) (number v b) (number v rest) r));
      few = omega (arith, p.few);
    })

pub complement_made : (s : PlainFormula) (b wide complement : List Lit) → IsWide s b wide → complement ≡ map negation wide → (v : Values) → IsModel v s → number v complement + number v b + 1 ≡ 2 ^ 33
complement_made s b wide complement p e v m =
    let f : number v (map negation wide) + number v wide + 1 ≡ 2 ^ 33 = subst (λ n. number v (map negation wide) + number v wide + 1 ≡ 2 ^ n) p.width (number-map_negation v wide) in
    let g = p.equal v m in
    rw e (omega arith)
