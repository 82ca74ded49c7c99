-- The operators.
use Rattle.std.proofs.Common.{◌≡◌, ℕ, suc, ◌+◌, ◌-◌, ◌*◌, ◌/◌, ◌%◌, ◌^◌, ◌<◌, ◌≤◌, Bool, true, false, not, List, map, length, take, drop, get_or, refl, sym, ◌∙◌, ap, subst, arith, nat_eq, nat_lt, nat_le, if◌then◌else◌, inl, inr, mul_comm, mul-zero, mul-one}
use Rattle.std.proofs.lemmas.Bool.{cases_eq, ne_eqb, eq-eqb, le-leb, lt-leb}
use Rattle.std.proofs.lemmas.Nat.{mod-mul-add}
use Rattle.std.proofs.lemmas.List.{length-map}
use Rattle.clause_form.specs.declared.lit.Lit.{Lit}
use Rattle.clause_form.specs.ClauseTruth.{Values, is_lit_true}
use Rattle.clause_form.specs.Literals.{AreOf, negation}
use Rattle.clause_form.proofs.Negations.{is_lit_true-negation}
use Rattle.chk_base.specs.Operators.{one_if, signed, halved, unary_value, binary_value}
use Rattle.chk_base.specs.Widths.{unsigned}
use Rattle.chk_base.specs.declared.expr.BinOp.{BinOp}
use Rattle.chk_base.specs.declared.expr.BinOp.TheVariants as Bin
use Rattle.chk_base.specs.declared.expr.UnOp.{UnOp}
use Rattle.chk_base.specs.declared.expr.UnOp.TheVariants as Un
use Rattle.bit_circuit.specs.Extension.{PlainFormula, IsModel, Makes, xor}
use Rattle.bit_circuit.specs.BusValue.{bit, number, MakesBus, MakesDifference, MakesWhere, MakesTest, IsDivision, moved_by}
use Rattle.bit_circuit.specs.Arithmetic.{MakesProduct}
use Rattle.bit_circuit.specs.Signed.{is_negative, flipped_if, negated_if, absolute_value, turned_word, is_outside, extended}
use Rattle.bit_circuit.specs.declared.shift.Way.TheVariants.{Down}
use Rattle.bit_circuit.proofs.Growth.{extends_trans, kept}
use Rattle.bit_circuit.proofs.Numbers.{number-take_more}
use Rattle.bit_circuit.proofs.OneByOne.{number-map_negation, are-map_negation}
use Rattle.bit_circuit.proofs.Buses.{bus_here, bus_as, lit_bus}
use Rattle.bit_circuit.proofs.Comparing.{number-lt_word}
use Rattle.bit_circuit.proofs.Shifting.{number-parts, number-take_lt, near_same, low_amount}
use Rattle.bit_circuit.proofs.Words as words

-- ---- divisions
pub or_zero_made : (s s1 new : PlainFormula) (b a z r : List Lit) (nz : Lit) → Makes s s1 nz (λ v. not (nat_eq (number v b) 0)) 32 → MakesBus s1 s1 z (λ _. 0) 0 → MakesBus s1 new r (λ v. if is_lit_true v nz then number v a else number v z) 32 → MakesBus s new r (λ v. if nat_eq (number v b) 0 then 0 else number v a) 64
or_zero_made s s1 new b a z r nz p q t = lit_bus s s1 new nz r _ _ (λ v. if nat_eq (number v b) 0 then 0 else number v a) 32 32 64 p
    (bus_as s1 new r _ (λ v. if is_lit_true v nz then number v a else 0) 32 32 t (λ v m. ap (λ x. if is_lit_true v nz then number v a else x) (q.equal v (kept t.extends v m))) (omega arith))
    (λ v m e. rw e (turn (nat_eq (number v b) 0) (number v a))) (omega arith)
  where
    turn : (c : Bool) (n : ℕ) → (if not c then n else 0) ≡ (if c then 0 else n)
    turn true n = refl
    turn false n = refl

where_as : (s new : PlainFormula) (r : List Lit) (F : Values → Type 0) (f g : Values → ℕ) (n : ℕ) → MakesWhere s new r F f n → ((v : Values) → F v → f v ≡ g v) → MakesWhere s new r F g n
where_as s new r F f g n p e = record { extends = p.extends; width = p.width; inside = p.inside; equal = λ v m h. p.equal v m h ∙ e v h; few = p.few }

pub div_made : (s new : PlainFormula) (op : BinOp) (a b r : List Lit) → op ≡ Bin.DivS → length a ≡ 32 → length b ≡ 32 → MakesWhere s new r (λ v. 0 < number v b) (λ v. negated_if (xor (is_negative (number v a)) (is_negative (number v b))) (absolute_value (number v a) / absolute_value (number v b))) 7000 → MakesWhere s new r (λ v. 0 < number v b) (λ v. binary_value op (number v a) (number v b)) 7000
div_made s new op a b r e wa wb p = rw e (where_as s new r _ _ (λ v. binary_value Bin.DivS (number v a) (number v b)) 7000 p (λ v h. rw (ne_eqb (number v b) 0 (λ z. omega arith)) (sym (words.div_signed (number v a) (number v b) (number-lt_word v a wa) (number-lt_word v b wb)))))

pub rem_made : (s new : PlainFormula) (op : BinOp) (a b r : List Lit) → op ≡ Bin.RemS → length a ≡ 32 → length b ≡ 32 → MakesWhere s new r (λ v. 0 < number v b) (λ v. negated_if (is_negative (number v a)) (absolute_value (number v a) % absolute_value (number v b))) 7000 → MakesWhere s new r (λ v. 0 < number v b) (λ v. binary_value op (number v a) (number v b)) 7000
rem_made s new op a b r e wa wb p = rw e (where_as s new r _ _ (λ v. binary_value Bin.RemS (number v a) (number v b)) 7000 p (λ v h. rw (ne_eqb (number v b) 0 (λ z. omega arith)) (sym (words.rem_signed (number v a) (number v b) (number-lt_word v a wa) (number-lt_word v b wb)))))

zero_division : (op : BinOp) → IsDivision op → (a : ℕ) → binary_value op a 0 ≡ 0
zero_division Bin.DivU h a = refl
zero_division Bin.DivS h a = refl
zero_division Bin.RemU h a = refl
zero_division Bin.RemS h a = refl
zero_division _ h a = absurd h

pub division_made : (s s1 new : PlainFormula) (op : BinOp) (a b r q : List Lit) → IsDivision op → MakesWhere s s1 r (λ v. 0 < number v b) (λ v. binary_value op (number v a) (number v b)) 7000 → MakesBus s1 new q (λ v. if nat_eq (number v b) 0 then 0 else number v r) 64 → MakesBus s new q (λ v. binary_value op (number v a) (number v b)) 7100
division_made s s1 new op a b r q h p t = record {
  extends = extends_trans s s1 new p.extends t.extends;
  width = t.width;
  inside = t.inside;
  equal = λ v m. t.equal v m ∙ elim (cases_eq (number v b) 0) [
    | inl e ↦ rw (eq-eqb (number v b) 0 e) (sym (ap (λ n. binary_value op (number v a) n) e ∙ zero_division op h (number v a)))
    | inr e ↦ rw (ne_eqb (number v b) 0 e) (p.equal v (kept t.extends v m) (omega arith))
  ];
  few = omega (arith, p.few, t.few);
}

-- ---- the shift that copies the sign
pub shift_signed_made : (s s1 s2 s3 new : PlainFormula) (a amount f m r q : List Lit) (sign : Lit) → length a ≡ 32 → length amount ≡ 32
    → Makes s s sign (λ v. is_negative (number v a)) 0 → MakesBus s s1 f (λ v. flipped_if (is_lit_true v sign) (number v a)) 32 → MakesBus s1 s2 m (moved_by Down f amount 5) 160 → MakesBus s2 s3 r (λ v. flipped_if (is_lit_true v sign) (number v m)) 32 → MakesBus s3 new q (λ v. if nat_lt (number v amount) 32 then number v r else 0) 59
    → MakesBus s new q (λ v. binary_value Bin.ShrS (number v a) (number v amount)) 300
shift_signed_made s s1 s2 s3 new a amount f m r q sign wa w ps pf pm pr pq = record {
  extends = extends_trans s s1 new pf.extends (extends_trans s1 s2 new pm.extends (extends_trans s2 s3 new pr.extends pq.extends));
  width = pq.width;
  inside = pq.inside;
  equal = λ v k.
      let k3 = kept pq.extends v k in
      let k2 = kept pr.extends v k3 in
      let k1 = kept pm.extends v k2 in
      let k0 = kept pf.extends v k1 in
      pq.equal v k ∙ near_same (number v amount) (number v r) (unsigned (halved (signed (number v a)) (number v amount)))
      (λ h. pr.equal v k3 ∙ ap (λ n. flipped_if (is_lit_true v sign) n) (pm.equal v k2 ∙ ap (λ n. number v f / 2 ^ n) (low_amount v amount w h) ∙ ap (λ n. n / 2 ^ number v amount) (pf.equal v k1))
      ∙ ap (λ b. flipped_if b (flipped_if b (number v a) / 2 ^ number v amount)) (ps.equal v k0)
      ∙ sym (words.halved_signed (number v a) (number v amount) (number-lt_word v a wa)));
  few = omega (arith, pf.few, pm.few, pr.few, pq.few);
}

-- ---- tests
test_as : (s new : PlainFormula) (r : Lit) (f : Values → Bool) (g : Values → ℕ) (n m : ℕ) → Makes s new r f n → n ≤ m → ((v : Values) → IsModel v new → one_if (f v) ≡ g v) → MakesTest s new r g m
test_as s new r f g n m p h e = record { extends = p.extends; inside = p.inside; equal = λ v k. ap one_if (p.equal v k) ∙ e v k; few = omega (arith, p.few) }

pub lt_made : (s new : PlainFormula) (op : BinOp) (a b ta tb : List Lit) (r : Lit) → op ≡ Bin.LtS → length a ≡ 32 → length b ≡ 32 → MakesBus s s ta (λ v. turned_word (number v a)) 0 → MakesBus s s tb (λ v. turned_word (number v b)) 0 → Makes s new r (λ v. nat_lt (number v ta) (number v tb)) 160 → MakesTest s new r (λ v. binary_value op (number v a) (number v b)) 7100
lt_made s new op a b ta tb r e wa wb pa pb p = rw e (test_as s new r _ (λ v. binary_value Bin.LtS (number v a) (number v b)) 160 7100 p (omega arith) (λ v m. let k = kept p.extends v m in rw (pa.equal v k, pb.equal v k) (ap one_if (sym (words.lt_signed (number v a) (number v b) (number-lt_word v a wa) (number-lt_word v b wb))))))

pub le_made : (s new : PlainFormula) (op : BinOp) (a b ta tb : List Lit) (r : Lit) → op ≡ Bin.LeS → length a ≡ 32 → length b ≡ 32 → MakesBus s s ta (λ v. turned_word (number v a)) 0 → MakesBus s s tb (λ v. turned_word (number v b)) 0 → Makes s new r (λ v. nat_le (number v ta) (number v tb)) 160 → MakesTest s new r (λ v. binary_value op (number v a) (number v b)) 7100
le_made s new op a b ta tb r e wa wb pa pb p = rw e (test_as s new r _ (λ v. binary_value Bin.LeS (number v a) (number v b)) 160 7100 p (omega arith) (λ v m. let k = kept p.extends v m in rw (pa.equal v k, pb.equal v k) (ap one_if (sym (words.le_signed (number v a) (number v b) (number-lt_word v a wa) (number-lt_word v b wb))))))

pub add_over_made : (s new : PlainFormula) (op : BinOp) (a b : List Lit) (r : Lit) → op ≡ Bin.AddOver → length a ≡ 32 → length b ≡ 32 → Makes s new r (λ v. is_outside (turned_word (number v a) + turned_word (number v b))) 161 → MakesTest s new r (λ v. binary_value op (number v a) (number v b)) 7100
add_over_made s new op a b r e wa wb p = rw e (test_as s new r _ (λ v. binary_value Bin.AddOver (number v a) (number v b)) 161 7100 p (omega arith) (λ v m. sym (words.outside_sum (number v a) (number v b) (number-lt_word v a wa) (number-lt_word v b wb))))

pub sub_over_made : (s new : PlainFormula) (op : BinOp) (a b : List Lit) (r : Lit) → op ≡ Bin.SubOver → length a ≡ 32 → length b ≡ 32 → Makes s new r (λ v. is_outside (turned_word (number v a) + 2 ^ 32 - turned_word (number v b))) 161 → MakesTest s new r (λ v. binary_value op (number v a) (number v b)) 7100
sub_over_made s new op a b r e wa wb p = rw e (test_as s new r _ (λ v. binary_value Bin.SubOver (number v a) (number v b)) 161 7100 p (omega arith) (λ v m. sym (words.outside_difference (number v a) (number v b) (number-lt_word v a wa) (number-lt_word v b wb))))

pub mul_over_made : (s new : PlainFormula) (op : BinOp) (a b : List Lit) (r : Lit) → op ≡ Bin.MulOver → length a ≡ 32 → length b ≡ 32 → Makes s new r (λ v. nat_le (2 ^ 31 + one_if (xor (is_negative (number v a)) (is_negative (number v b)))) (absolute_value (number v a) * absolute_value (number v b))) 7100 → MakesTest s new r (λ v. binary_value op (number v a) (number v b)) 7100
mul_over_made s new op a b r e wa wb p = rw e (test_as s new r _ (λ v. binary_value Bin.MulOver (number v a) (number v b)) 7100 7100 p (omega arith) (λ v m. sym (words.outside_product (number v a) (number v b) (number-lt_word v a wa) (number-lt_word v b wb))))

-- ---- the rest
pub sub_made : (s new : PlainFormula) (op : BinOp) (a b r : List Lit) (fits : Lit) → op ≡ Bin.Sub → length a ≡ 32 → length b ≡ 32 → MakesDifference s new a b r fits 160 → MakesBus s new r (λ v. binary_value op (number v a) (number v b)) 65536
sub_made s new op a b r fits e wa wb p = rw e (record {
  extends = p.extends;
  width = p.width;
  inside = p.inside;
  equal = λ v m. table (is_lit_true v fits) (number v r) (number v a) (number v b) (p.equal v m) (number-lt_word v r p.width) (number-lt_word v a wa) (number-lt_word v b wb);
  few = omega (arith, p.few);
})
  where
    table : (c : Bool) (r a b : ℕ) → r + 2 ^ 32 * one_if c + b ≡ a + 2 ^ 32 → r < 2 ^ 32 → a < 2 ^ 32 → b < 2 ^ 32 → r ≡ (a + (2 ^ 32 - b)) % 2 ^ 32
    table true r a b e h k l = omega arith
    table false r a b e h k l = omega arith

pub mul_made : (s new : PlainFormula) (op : BinOp) (a b low high : List Lit) → op ≡ Bin.Mul → MakesProduct s new a b low high → MakesBus s new low (λ v. binary_value op (number v a) (number v b)) 65536
mul_made s new op a b low high e p = rw e (record {
  extends = p.extends;
  width = p.low_width;
  inside = p.low_inside;
  equal = λ v m.
      let f : number v a * number v b ≡ number v high * 2 ^ 32 + number v low = omega (arith, p.equal v m) in
      rw f (sym (mod-mul-add (number v high) (2 ^ 32) (number v low) (number-lt_word v low p.low_width)));
  few = omega (arith, p.few);
})

-- ---- unary operators
pub bit_is : (v : Values) (ls : List Lit) (k : ℕ) (d : Lit) → k < length ls → is_lit_true v (get_or ls k d) ≡ nat_le (2 ^ k) (number v ls % 2 ^ suc k)
bit_is v ls k d h =
    let e = number-parts v (suc k) ls (omega arith) in
    let t = number-take_lt v (suc k) ls (omega arith) in
    let f : number v ls % 2 ^ suc k ≡ number v (take (suc k) ls) = ap (λ z. z % 2 ^ suc k) (e ∙ omega (arith, mul_comm (2 ^ suc k) (number v (drop (suc k) ls)))) ∙ mod-mul-add (number v (drop (suc k) ls)) (2 ^ suc k) (number v (take (suc k) ls)) t in
    let g = number-take_more v ls k d h in
    let l = number-take_lt v k ls (omega arith) in
    rw (f, g) (table (is_lit_true v (get_or ls k d)) (2 ^ k) (number v (take k ls)) l)
  where
    table : (b : Bool) (p t : ℕ) → t < p → b ≡ nat_le p (t + p * one_if b)
    table true p t h = let e = mul-one p in sym (le-leb p (t + p * 1) (omega arith))
    table false p t h = let e = mul-zero p in sym (lt-leb p (t + p * 0) (omega arith))

pub sign8_made : (s : PlainFormula) (op : UnOp) (a r : List Lit) (d : Lit) → op ≡ Un.Sign8 → length a ≡ 32 → MakesBus s s r (λ v. extended 8 (is_lit_true v (get_or a 7 d)) (number v a)) 0 → MakesBus s s r (λ v. unary_value op (number v a)) 65536
sign8_made s op a r d e w p = rw e (bus_as s s r _ (λ v. unary_value Un.Sign8 (number v a)) 0 65536 p (λ v m. ap (λ b. extended 8 b (number v a)) (bit_is v a 7 d (omega arith)) ∙ sym (words.extended_8 (number v a))) (omega arith))

pub sign16_made : (s : PlainFormula) (op : UnOp) (a r : List Lit) (d : Lit) → op ≡ Un.Sign16 → length a ≡ 32 → MakesBus s s r (λ v. extended 16 (is_lit_true v (get_or a 15 d)) (number v a)) 0 → MakesBus s s r (λ v. unary_value op (number v a)) 65536
sign16_made s op a r d e w p = rw e (bus_as s s r _ (λ v. unary_value Un.Sign16 (number v a)) 0 65536 p (λ v m. ap (λ b. extended 16 b (number v a)) (bit_is v a 15 d (omega arith)) ∙ sym (words.extended_16 (number v a))) (omega arith))

pub not_made : (s new : PlainFormula) (op : UnOp) (a r : List Lit) (x n : Lit) → op ≡ Un.Not → Makes s new x (λ v. not (nat_eq (number v a) 0)) 32 → n ≡ negation x → MakesBus new new r (λ v. bit v n) 0 → MakesBus s new r (λ v. unary_value op (number v a)) 65536
not_made s new op a r x n e p f q = rw e (lit_bus s new new x r _ _ (λ v. unary_value Un.Not (number v a)) 32 0 65536 p q (λ v m h. ap (bit v) f ∙ ap one_if (is_lit_true-negation v x ∙ ap not h ∙ twice (nat_eq (number v a) 0))) (omega arith))
  where
    twice : (b : Bool) → not (not b) ≡ b
    twice true = refl
    twice false = refl

pub neg_made : (s new : PlainFormula) (op : UnOp) (a r : List Lit) (always : Lit) → op ≡ Un.Neg → Makes s s always (λ _. true) 0 → MakesBus s new r (λ v. negated_if (is_lit_true v always) (number v a)) 192 → MakesBus s new r (λ v. unary_value op (number v a)) 65536
neg_made s new op a r always e p q = rw e (bus_as s new r _ (λ v. unary_value Un.Neg (number v a)) 192 65536 q (λ v m. ap (λ b. negated_if b (number v a)) (p.equal v (kept q.extends v m))) (omega arith))

pub inv_made : (s : PlainFormula) (op : UnOp) (a r : List Lit) → op ≡ Un.Inv → length a ≡ 32 → AreOf s.variables a → r ≡ map negation a → MakesBus s s r (λ v. unary_value op (number v a)) 65536
inv_made s op a r e w o f = rw (e, f) (bus_here s (map negation a) (λ v. unary_value Un.Inv (number v a)) 65536 (length-map a negation ∙ w) (are-map_negation s.variables a o)
    (λ v m. let g : number v (map negation a) + number v a + 1 ≡ 2 ^ 32 = subst (λ n. number v (map negation a) + number v a + 1 ≡ 2 ^ n) w (number-map_negation v a) in omega arith))
