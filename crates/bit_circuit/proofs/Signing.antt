-- Signs and sizes.
use Rattle.std.specs.Int.Bits.{xor_add_and}
use Rattle.std.proofs.Common.{◌≡◌, ℕ, zero, suc, ◌+◌, ◌-◌, ◌*◌, ◌/◌, ◌%◌, ◌^◌, ◌<◌, ◌≤◌, Bool, true, false, not, ◌||◌, List, [], ◌∷◌, ◌++◌, length, take, drop, set, get_or, replicate, refl, sym, ◌∙◌, ap, arith, nat_eq, nat_le, if◌then◌else◌, mul_comm, mul-zero, length-append, length-drop, mul-add, bit_and, bit_xor, pow-suc}
use Rattle.std.proofs.lemmas.Bool.Decides.{nat_tests}
use Rattle.std.proofs.lemmas.Bool.{le-leb, lt-leb}
use Rattle.std.proofs.lemmas.Nat.{pow-add, mod-mul-add, and_mask}
use Rattle.std.proofs.lemmas.List.{length-set, length-take-le, length-replicate}
use Rattle.clause_form.specs.declared.lit.Lit.{Lit}
use Rattle.clause_form.specs.ClauseTruth.{Values, is_lit_true}
use Rattle.clause_form.specs.Literals.{IsOf, AreOf, negation}
use Rattle.clause_form.proofs.Negations.{IsOf-negation, is_lit_true-negation}
use Rattle.chk_base.specs.Operators.{one_if}
use Rattle.bit_circuit.specs.Extension.{PlainFormula, Makes, xor}
use Rattle.bit_circuit.specs.BusValue.{bit, number, gate_word, MakesBus, MakesSum, MakesDifference, MakesWhere}
use Rattle.bit_circuit.specs.Arithmetic.{MakesProduct, MakesQuotient}
use Rattle.bit_circuit.specs.Signed.{is_negative, flipped_if, negated_if, absolute_value, turned_word, is_outside, extended}
use Rattle.bit_circuit.specs.declared.bits.Gate.TheVariants.{Xor}
use Rattle.bit_circuit.proofs.Growth.{extends_trans, kept}
use Rattle.bit_circuit.proofs.Numbers.{number-append, number-set, are-append, are-take, are-set, are-get}
use Rattle.bit_circuit.proofs.Composition.{made_here}
use Rattle.bit_circuit.proofs.Buses.{are-replicate, bus_here, bus_as, bus_bus}
use Rattle.bit_circuit.proofs.Comparing.{number-lt_word}
use Rattle.bit_circuit.proofs.Shifting.{number-parts, number-take_lt}

-- ---- the highest literal
top_table : (b : Bool) (n t : ℕ) → n ≡ t + 2 ^ 31 * one_if b → t < 2 ^ 31 → b ≡ is_negative n
top_table true n t e h = grind (arith, nat_tests)
top_table false n t e h = grind (arith, nat_tests)

top_parts : (v : Values) (ls : List Lit) (d : Lit) → length ls ≡ 32 → number v ls ≡ number v (take 31 ls) + 2 ^ 31 * bit v (get_or ls 31 d)
top_parts v ls d w =
    let e = number-parts v 31 ls (omega arith) in
    let l : length (drop 31 ls) ≡ 1 = length-drop 31 ls ∙ omega arith in
    e ∙ ap (λ n. number v (take 31 ls) + 2 ^ 31 * n) (last (drop 31 ls) l ∙ ap (bit v) (get_or-drop ls 31))
  where
    last : (xs : List Lit) → length xs ≡ 1 → number v xs ≡ bit v (get_or xs 0 d)
    last [] l = absurd (omega arith)
    last (x ∷ []) l = omega arith
    last (x ∷ y ∷ ys) l = absurd (omega arith)

    get_or-drop : (xs : List Lit) (k : ℕ) → get_or (drop k xs) 0 d ≡ get_or xs k d
    get_or-drop xs zero = refl
    get_or-drop [] (suc k) = refl
    get_or-drop (x ∷ xs) (suc k) = get_or-drop xs k

pub sign_made : (s : PlainFormula) (ls : List Lit) (d : Lit) → length ls ≡ 32 → AreOf s.variables ls → Makes s s (get_or ls 31 d) (λ v. is_negative (number v ls)) 0
sign_made s ls d w o = made_here s (get_or ls 31 d) _ 0 (are-get s.variables ls 31 d o (omega arith)) (λ v m. top_table (is_lit_true v (get_or ls 31 d)) (number v ls) (number v (take 31 ls)) (top_parts v ls d w) (number-take_lt v 31 ls (omega arith)))

pub turn_made : (s : PlainFormula) (ls : List Lit) (d r : Lit) → length ls ≡ 32 → AreOf s.variables ls → r ≡ negation (get_or ls 31 d) → MakesBus s s (set ls 31 r) (λ v. turned_word (number v ls)) 0
turn_made s ls d r w o e = rw e (bus_here s (set ls 31 (negation (get_or ls 31 d))) _ 0 (length-set ls 31 (negation (get_or ls 31 d)) ∙ w) (are-set s.variables ls 31 (negation (get_or ls 31 d)) o (IsOf-negation s.variables (get_or ls 31 d) (are-get s.variables ls 31 d o (omega arith))))
    (λ v m.
    let f = number-set v ls 31 d (negation (get_or ls 31 d)) (omega arith) in
    let g : 2 ^ 31 * bit v (negation (get_or ls 31 d)) ≡ 2 ^ 31 * one_if (not (is_lit_true v (get_or ls 31 d))) = ap (λ z. 2 ^ 31 * one_if z) (is_lit_true-negation v (get_or ls 31 d)) in
    let h = top_parts v ls d w in
    let k = number-take_lt v 31 ls (omega arith) in
    table (is_lit_true v (get_or ls 31 d)) (number v ls) (number v (take 31 ls)) (number v (set ls 31 (negation (get_or ls 31 d)))) h k (f ∙ ap (λ z. number v ls + z) g)))
  where
    table : (b : Bool) (n t x : ℕ) → n ≡ t + 2 ^ 31 * one_if b → t < 2 ^ 31 → x + 2 ^ 31 * one_if b ≡ n + 2 ^ 31 * one_if (not b) → x ≡ turned_word n
    table true n t x e h f = omega arith
    table false n t x e h f = omega arith

-- ---- the literals above a place
number-replicate_all : (v : Values) (c : Lit) (k : ℕ) → number v (replicate k c) + 1 ≡ (if is_lit_true v c then 2 ^ k else 1)
number-replicate_all v c k = go (is_lit_true v c) refl k
  where
    go : (b : Bool) → is_lit_true v c ≡ b → (k : ℕ) → number v (replicate k c) + 1 ≡ (if is_lit_true v c then 2 ^ k else 1)
    go true e zero = rw e refl
    go true e (suc k) =
        let h : number v (replicate k c) + 1 ≡ 2 ^ k = go true e k ∙ rw e refl in
        let f : bit v c ≡ 1 = ap one_if e in
        rw (e, pow-suc) (omega arith)
    go false e zero = rw e refl
    go false e (suc k) =
        let h : number v (replicate k c) + 1 ≡ 1 = go false e k ∙ rw e refl in
        let f : bit v c ≡ 0 = ap one_if e in
        rw e (omega arith)

pub extend_made : (s : PlainFormula) (ls now : List Lit) (low : ℕ) (c : Lit) → length ls ≡ 32 → low ≤ 32 → AreOf s.variables ls → IsOf s.variables c → now ≡ take low ls ++ replicate (length ls - low) c → MakesBus s s now (λ v. extended low (is_lit_true v c) (number v ls)) 0
extend_made s ls now low c w h o p e = rw e (bus_here s (take low ls ++ replicate (length ls - low) c) _ 0
    (length-append (take low ls) (replicate (length ls - low) c) ∙ rw (length-take-le low ls (omega arith), length-replicate (length ls - low) c) (omega arith))
    (are-append s.variables (take low ls) (replicate (length ls - low) c) (are-take s.variables low ls o) (are-replicate s.variables c p (length ls - low)))
    (λ v m.
    let a = number-append v (take low ls) (replicate (length ls - low) c) in
    let b = length-take-le low ls (omega arith) in
    let d = number-replicate_all v c (length ls - low) in
    let t = number-take_lt v low ls (omega arith) in
    let q = number-parts v low ls (omega arith) in
    let r : number v ls % 2 ^ low ≡ number v (take low ls) = ap (λ z. z % 2 ^ low) (q ∙ omega (arith, mul_comm (2 ^ low) (number v (drop low ls)))) ∙ mod-mul-add (number v (drop low ls)) (2 ^ low) (number v (take low ls)) t in
    let f : number v (take low ls ++ replicate (length ls - low) c) ≡ number v (take low ls) + 2 ^ low * number v (replicate (length ls - low) c) = a ∙ ap (λ n. number v (take low ls) + 2 ^ n * number v (replicate (length ls - low) c)) b in
    let g : 2 ^ low * 2 ^ (length ls - low) ≡ 2 ^ 32 = sym (pow-add 2 low (length ls - low)) ∙ ap (λ n. 2 ^ n) (ends w h) in
    f ∙ rw r (table (is_lit_true v c) (number v (take low ls)) (2 ^ low) (2 ^ (length ls - low)) (number v (replicate (length ls - low) c)) d g)))
  where
    ends : length ls ≡ 32 → low ≤ 32 → low + (length ls - low) ≡ 32
    ends w h = omega arith

    table : (b : Bool) (t p q n : ℕ) → n + 1 ≡ (if b then q else 1) → p * q ≡ 2 ^ 32 → t + p * n ≡ (if b then t + (2 ^ 32 - p) else t)
    table true t p q n e g =
        let f : p * (n + 1) ≡ p * q = ap (λ z. p * z) e in
        let k = mul-add p n 1 in
        omega arith
    table false t p q n e g =
        let f : n ≡ 0 = omega arith in
        let k : p * n ≡ 0 = ap (λ z. p * z) f ∙ mul-zero p in
        omega arith

-- ---- all bits turned, and the negative
xor_all : (n : ℕ) → n < 2 ^ 32 → bit_xor n (2 ^ 32 - 1) ≡ 2 ^ 32 - 1 - n
xor_all n h =
    let e = xor_add_and n (2 ^ 32 - 1) in
    let f = and_mask n 32 in
    omega arith

xor_none : (n : ℕ) → bit_xor n 0 ≡ n
xor_none n =
    let e = xor_add_and n 0 in
    let f : bit_and n 0 ≡ n % 2 ^ 0 = and_mask n 0 in
    omega arith

pub flip_made : (s new : PlainFormula) (a mask r : List Lit) (c : Lit) → length a ≡ 32 → MakesBus s s mask (λ v. extended 0 (is_lit_true v c) (number v a)) 0 → MakesBus s new r (λ v. gate_word Xor (number v a) (number v mask)) 32 → MakesBus s new r (λ v. flipped_if (is_lit_true v c) (number v a)) 32
flip_made s new a mask r c w p q = bus_bus s s new mask r _ _ _ 0 32 32 p q (λ v m e. rw e (table (is_lit_true v c) (number v a) (number-lt_word v a w))) (omega arith)
  where
    table : (b : Bool) (n : ℕ) → n < 2 ^ 32 → bit_xor n (extended 0 b n) ≡ flipped_if b n
    table true n h = let e : n % 2 ^ 0 + (2 ^ 32 - 2 ^ 0) ≡ 2 ^ 32 - 1 = omega arith in ap (λ z. bit_xor n z) e ∙ xor_all n h
    table false n h = let e : n % 2 ^ 0 ≡ 0 = omega arith in ap (λ z. bit_xor n z) e ∙ xor_none n

pub negate_made : (s mid new : PlainFormula) (a f z r : List Lit) (c carry : Lit) → length a ≡ 32 → MakesBus s mid f (λ v. flipped_if (is_lit_true v c) (number v a)) 32 → MakesBus mid mid z (λ _. 0) 0 → MakesSum mid new f z c r carry 160 → MakesBus s new r (λ v. negated_if (is_lit_true v c) (number v a)) 192
negate_made s mid new a f z r c carry w p y q = record {
  extends = extends_trans s mid new p.extends q.extends;
  width = q.width;
  inside = q.inside;
  equal = λ v m.
      let k = kept q.extends v m in
      table (is_lit_true v c) (number v a) (number v f) (number v z) (number v r) (bit v carry) (number-lt_word v a w) (number-lt_word v r q.width) (p.equal v k) (y.equal v k) (q.equal v m);
  few = omega (arith, p.few, q.few);
}
  where
    table : (b : Bool) (n f z r c : ℕ) → n < 2 ^ 32 → r < 2 ^ 32 → f ≡ flipped_if b n → z ≡ 0 → r + 2 ^ 32 * c ≡ f + z + one_if b → r ≡ negated_if b n
    table true n f z r c h k e g q = omega arith
    table false n f z r c h k e g q = omega arith

pub absolute_made : (s new : PlainFormula) (a r : List Lit) (sign : Lit) → Makes s s sign (λ v. is_negative (number v a)) 0 → MakesBus s new r (λ v. negated_if (is_lit_true v sign) (number v a)) 192 → MakesBus s new r (λ v. absolute_value (number v a)) 192
absolute_made s new a r sign p q = bus_as s new r _ _ 192 192 q (λ v m. ap (λ b. negated_if b (number v a)) (p.equal v (kept q.extends v m))) (omega arith)

-- ---- sums and differences that leave the range
outside_table : (c : Bool) (x s : ℕ) → s + 2 ^ 32 * one_if c ≡ x → s < 2 ^ 32 → not (xor c (is_negative s)) ≡ is_outside x
outside_table true x s e h = let f : x % 2 ^ 32 ≡ s = omega arith in let g : nat_le (2 ^ 32) x ≡ true = le-leb (2 ^ 32) x (omega arith) in rw (f, g) refl
outside_table false x s e h = let f : x % 2 ^ 32 ≡ s = omega arith in let g : nat_le (2 ^ 32) x ≡ false = lt-leb (2 ^ 32) x (omega arith) in rw (f, g) refl

pub sum_outside_made : (s s1 new : PlainFormula) (a b ta tb sum : List Lit) (never carry sign x r : Lit)
    → MakesBus s s ta (λ v. turned_word (number v a)) 0 → MakesBus s s tb (λ v. turned_word (number v b)) 0 → Makes s s never (λ _. false) 0
    → MakesSum s s1 ta tb never sum carry 160 → Makes s1 s1 sign (λ v. is_negative (number v sum)) 0 → Makes s1 new x (λ v. xor (is_lit_true v carry) (is_lit_true v sign)) 1 → r ≡ negation x
    → Makes s new r (λ v. is_outside (turned_word (number v a) + turned_word (number v b))) 161
sum_outside_made s s1 new a b ta tb sum never carry sign x r pa pb pn q t u e = rw e (record {
  extends = extends_trans s s1 new q.extends u.extends;
  inside = IsOf-negation new.variables x u.inside;
  equal = λ v m.
      let k1 = kept u.extends v m in
      let k0 = kept q.extends v k1 in
      let f : bit v never ≡ 0 = ap one_if (pn.equal v k0) in
      let g = q.equal v k1 in
      let h = pa.equal v k0 in
      let i = pb.equal v k0 in
      is_lit_true-negation v x ∙ ap not (u.equal v m ∙ ap (λ z. xor (is_lit_true v carry) z) (t.equal v k1)) ∙ outside_table (is_lit_true v carry) (turned_word (number v a) + turned_word (number v b)) (number v sum) (sum_is (number v sum) (2 ^ 32 * bit v carry) (number v ta) (number v tb) (bit v never) _ _ g f h i) (number-lt_word v sum q.width);
  few = omega (arith, q.few, u.few);
})
  where
    sum_is : (s c ta tb n a b : ℕ) → s + c ≡ ta + tb + n → n ≡ 0 → ta ≡ a → tb ≡ b → s + c ≡ a + b
    sum_is s c ta tb n a b e f g h = omega arith

pub difference_outside_made : (s s1 new : PlainFormula) (a b ta tb d : List Lit) (fits sign x r : Lit)
    → MakesBus s s ta (λ v. turned_word (number v a)) 0 → MakesBus s s tb (λ v. turned_word (number v b)) 0
    → MakesDifference s s1 ta tb d fits 160 → Makes s1 s1 sign (λ v. is_negative (number v d)) 0 → Makes s1 new x (λ v. xor (is_lit_true v fits) (is_lit_true v sign)) 1 → r ≡ negation x
    → Makes s new r (λ v. is_outside (turned_word (number v a) + 2 ^ 32 - turned_word (number v b))) 161
difference_outside_made s s1 new a b ta tb d fits sign x r pa pb q t u e = rw e (record {
  extends = extends_trans s s1 new q.extends u.extends;
  inside = IsOf-negation new.variables x u.inside;
  equal = λ v m.
      let k1 = kept u.extends v m in
      let k0 = kept q.extends v k1 in
      is_lit_true-negation v x ∙ ap not (u.equal v m ∙ ap (λ z. xor (is_lit_true v fits) z) (t.equal v k1)) ∙ outside_table (is_lit_true v fits) (turned_word (number v a) + 2 ^ 32 - turned_word (number v b)) (number v d) (difference_is (number v d) (2 ^ 32 * bit v fits) (number v ta) (number v tb) _ _ (q.equal v k1) (pa.equal v k0) (pb.equal v k0)) (number-lt_word v d q.width);
  few = omega (arith, q.few, u.few);
})
  where
    difference_is : (d c ta tb a b : ℕ) → d + c + tb ≡ ta + 2 ^ 32 → ta ≡ a → tb ≡ b → d + c ≡ a + 2 ^ 32 - b
    difference_is d c ta tb a b e f g = omega arith

-- ---- products that leave the range
over_table : (g : Bool) (h l n bound : ℕ) → l + 2 ^ 32 * h ≡ n → l < 2 ^ 32 → bound ≡ 2 ^ 31 + one_if g → (not (nat_eq h 0) || nat_le bound l) ≡ nat_le (2 ^ 31 + one_if g) n
over_table true h l n bound e k f = grind (arith, nat_tests)
over_table false h l n bound e k f = grind (arith, nat_tests)

pub product_outside_made : (s s0 s1 s2 s3 s4 s5 s6 new : PlainFormula) (a b sz_a sz_b low high const flag bound : List Lit) (sa sb neg is_high is_over r : Lit)
    → Makes s s sa (λ v. is_negative (number v a)) 0 → Makes s s sb (λ v. is_negative (number v b)) 0 → Makes s s0 neg (λ v. xor (is_lit_true v sa) (is_lit_true v sb)) 1
    → MakesBus s0 s1 sz_a (λ v. absolute_value (number v a)) 192 → MakesBus s1 s2 sz_b (λ v. absolute_value (number v b)) 192 → MakesProduct s2 s3 sz_a sz_b low high
    → MakesBus s3 s3 const (λ _. 2 ^ 31) 0 → MakesBus s3 s3 flag (λ v. bit v neg) 0 → MakesBus s3 s4 bound (λ v. (number v const + number v flag) % 2 ^ 32) 160
    → Makes s4 s5 is_high (λ v. not (nat_eq (number v high) 0)) 32 → Makes s5 s6 is_over (λ v. nat_le (number v bound) (number v low)) 160 → Makes s6 new r (λ v. is_lit_true v is_high || is_lit_true v is_over) 1
    → Makes s new r (λ v. nat_le (2 ^ 31 + one_if (xor (is_negative (number v a)) (is_negative (number v b)))) (absolute_value (number v a) * absolute_value (number v b))) 7100
product_outside_made s s0 s1 s2 s3 s4 s5 s6 new a b sz_a sz_b low high const flag bound sa sb neg is_high is_over r pa pb pn qa qb qp pc pf pd ph po pr = record {
  extends = extends_trans s s0 new pn.extends (extends_trans s0 s1 new qa.extends (extends_trans s1 s2 new qb.extends (extends_trans s2 s3 new qp.extends (extends_trans s3 s4 new pd.extends (extends_trans s4 s5 new ph.extends (extends_trans s5 s6 new po.extends pr.extends))))));
  inside = pr.inside;
  equal = λ v m6.
      let m5 = kept pr.extends v m6 in
      let m4 = kept po.extends v m5 in
      let m3 = kept ph.extends v m4 in
      let m2 = kept pd.extends v m3 in
      let m1 = kept qp.extends v m2 in
      let m0 = kept qb.extends v m1 in
      let mn = kept qa.extends v m0 in
      let ms = kept pn.extends v mn in
      let en : is_lit_true v neg ≡ xor (is_negative (number v a)) (is_negative (number v b)) = pn.equal v mn ∙ ap (λ z. xor z (is_lit_true v sb)) (pa.equal v ms) ∙ ap (λ z. xor (is_negative (number v a)) z) (pb.equal v ms) in
      let eb : number v bound ≡ 2 ^ 31 + one_if (is_lit_true v neg) = bound_is (is_lit_true v neg) (number v bound) (number v const) (number v flag) (pd.equal v m3) (pc.equal v m2) (pf.equal v m2) in
      let ep : number v low + 2 ^ 32 * number v high ≡ absolute_value (number v a) * absolute_value (number v b) = qp.equal v m2 ∙ ap (λ z. z * number v sz_b) (qa.equal v m0) ∙ ap (λ z. absolute_value (number v a) * z) (qb.equal v m1) in
      pr.equal v m6 ∙ ap (λ z. z || is_lit_true v is_over) (ph.equal v m4) ∙ ap (λ z. not (nat_eq (number v high) 0) || z) (po.equal v m5) ∙ over_table (is_lit_true v neg) (number v high) (number v low) _ (number v bound) ep (number-lt_word v low qp.low_width) eb ∙ ap (λ z. nat_le (2 ^ 31 + one_if z) (absolute_value (number v a) * absolute_value (number v b))) en;
  few = omega (arith, pn.few, qa.few, qb.few, qp.few, pd.few, ph.few, po.few, pr.few);
}
  where
    bound_is : (g : Bool) (b c f : ℕ) → b ≡ (c + f) % 2 ^ 32 → c ≡ 2 ^ 31 → f ≡ one_if g → b ≡ 2 ^ 31 + one_if g
    bound_is true b c f e h i = omega arith
    bound_is false b c f e h i = omega arith

-- ---- quotients by sizes
size_above : (n : ℕ) → n < 2 ^ 32 → 0 < n → 0 < absolute_value n
size_above n h k = grind (arith, nat_tests)

pub signed_quotient_made : (s s0 s1 s2 s3 new : PlainFormula) (a b sz_a sz_b q t r : List Lit) (sa sb neg : Lit) → length b ≡ 32
    → Makes s s sa (λ v. is_negative (number v a)) 0 → Makes s s sb (λ v. is_negative (number v b)) 0 → Makes s s0 neg (λ v. xor (is_lit_true v sa) (is_lit_true v sb)) 1
    → MakesBus s0 s1 sz_a (λ v. absolute_value (number v a)) 192 → MakesBus s1 s2 sz_b (λ v. absolute_value (number v b)) 192 → MakesQuotient s2 s3 sz_a sz_b q t → MakesBus s3 new r (λ v. negated_if (is_lit_true v neg) (number v q)) 192
    → MakesWhere s new r (λ v. 0 < number v b) (λ v. negated_if (xor (is_negative (number v a)) (is_negative (number v b))) (absolute_value (number v a) / absolute_value (number v b))) 7000
signed_quotient_made s s0 s1 s2 s3 new a b sz_a sz_b q t r sa sb neg w pa pb pn qa qb qq pr = record {
  extends = extends_trans s s0 new pn.extends (extends_trans s0 s1 new qa.extends (extends_trans s1 s2 new qb.extends (extends_trans s2 s3 new qq.extends pr.extends)));
  width = pr.width;
  inside = pr.inside;
  equal = λ v m3 h.
      let m2 = kept pr.extends v m3 in
      let m1 = kept qq.extends v m2 in
      let m0 = kept qb.extends v m1 in
      let mn = kept qa.extends v m0 in
      let ms = kept pn.extends v mn in
      let en : is_lit_true v neg ≡ xor (is_negative (number v a)) (is_negative (number v b)) = pn.equal v mn ∙ ap (λ z. xor z (is_lit_true v sb)) (pa.equal v ms) ∙ ap (λ z. xor (is_negative (number v a)) z) (pb.equal v ms) in
      let ea : number v sz_a ≡ absolute_value (number v a) = qa.equal v m0 in
      let eb : number v sz_b ≡ absolute_value (number v b) = qb.equal v m1 in
      let hb : 0 < number v sz_b = rw eb (size_above (number v b) (number-lt_word v b w) h) in
      let eq : number v q ≡ absolute_value (number v a) / absolute_value (number v b) = qq.quotient_is v m2 hb ∙ ap (λ z. z / number v sz_b) ea ∙ ap (λ z. absolute_value (number v a) / z) eb in
      pr.equal v m3 ∙ ap (λ z. negated_if z (number v q)) en ∙ ap (λ z. negated_if (xor (is_negative (number v a)) (is_negative (number v b))) z) eq;
  few = omega (arith, pn.few, qa.few, qb.few, qq.few, pr.few);
}

pub signed_rest_made : (s s1 s2 s3 new : PlainFormula) (a b sz_a sz_b q t r : List Lit) (sa : Lit) → length b ≡ 32
    → MakesBus s s1 sz_a (λ v. absolute_value (number v a)) 192 → MakesBus s1 s2 sz_b (λ v. absolute_value (number v b)) 192 → MakesQuotient s2 s3 sz_a sz_b q t → Makes s3 s3 sa (λ v. is_negative (number v a)) 0 → MakesBus s3 new r (λ v. negated_if (is_lit_true v sa) (number v t)) 192
    → MakesWhere s new r (λ v. 0 < number v b) (λ v. negated_if (is_negative (number v a)) (absolute_value (number v a) % absolute_value (number v b))) 7000
signed_rest_made s s1 s2 s3 new a b sz_a sz_b q t r sa w qa qb qq pa pr = record {
  extends = extends_trans s s1 new qa.extends (extends_trans s1 s2 new qb.extends (extends_trans s2 s3 new qq.extends pr.extends));
  width = pr.width;
  inside = pr.inside;
  equal = λ v m3 h.
      let m2 = kept pr.extends v m3 in
      let m1 = kept qq.extends v m2 in
      let m0 = kept qb.extends v m1 in
      let ea : number v sz_a ≡ absolute_value (number v a) = qa.equal v m0 in
      let eb : number v sz_b ≡ absolute_value (number v b) = qb.equal v m1 in
      let hb : 0 < number v sz_b = rw eb (size_above (number v b) (number-lt_word v b w) h) in
      let et : number v t ≡ absolute_value (number v a) % absolute_value (number v b) = qq.rest_is v m2 hb ∙ ap (λ z. z % number v sz_b) ea ∙ ap (λ z. absolute_value (number v a) % z) eb in
      pr.equal v m3 ∙ ap (λ z. negated_if z (number v t)) (pa.equal v m2) ∙ ap (λ z. negated_if (is_negative (number v a)) z) et;
  few = omega (arith, qa.few, qb.few, qq.few, pr.few);
}
