-- The adder.
use Rattle.std.proofs.Common.{◌≡◌, ℕ, ◌+◌, ◌*◌, ◌^◌, ◌<◌, Bool, true, false, ◌&&◌, ◌||◌, List, length, take, set, get_or, refl, ◌∙◌, ap, arith, mul-add, mul_left_comm}
use Rattle.std.proofs.lemmas.List.{length-set, length-take-le}
use Rattle.clause_form.specs.declared.lit.Lit.{Lit}
use Rattle.clause_form.specs.ClauseTruth.{is_lit_true}
use Rattle.clause_form.proofs.Rising.{IsOf-more, AreOf-more}
use Rattle.chk_base.specs.Operators.{one_if}
use Rattle.bit_circuit.specs.Extension.{PlainFormula, Makes, xor}
use Rattle.bit_circuit.specs.BusValue.{bit, number, Adds, AddsInto}
use Rattle.bit_circuit.proofs.Growth.{extends_trans, kept}
use Rattle.bit_circuit.proofs.Numbers.{number-set, number-take_at, pow_more, are-set}

sum_table : (a b c : Bool) → one_if (xor (xor a b) c) + 2 * one_if ((a && b) || (xor a b && c)) ≡ one_if a + one_if b + one_if c
sum_table true true true = refl
sum_table true true false = refl
sum_table true false true = refl
sum_table true false false = refl
sum_table false true true = refl
sum_table false true false = refl
sum_table false false true = refl
sum_table false false false = refl

pub adds_made : (s s1 s2 s3 s4 new : PlainFormula) (a b c half sum both through carry : Lit)
    → Makes s s1 half (λ v. xor (is_lit_true v a) (is_lit_true v b)) 1
    → Makes s1 s2 sum (λ v. xor (is_lit_true v half) (is_lit_true v c)) 1
    → Makes s2 s3 both (λ v. is_lit_true v a && is_lit_true v b) 1
    → Makes s3 s4 through (λ v. is_lit_true v half && is_lit_true v c) 1
    → Makes s4 new carry (λ v. is_lit_true v both || is_lit_true v through) 1
    → Adds s new a b c sum carry
adds_made s s1 s2 s3 s4 new a b c half sum both through carry p q r t u =
    let e4 = u.extends in
    let e3 = extends_trans s3 s4 new t.extends e4 in
    let e2 = extends_trans s2 s3 new r.extends e3 in
    let e1 = extends_trans s1 s2 new q.extends e2 in
    record {
      extends = extends_trans s s1 new p.extends e1;
      sum_inside = IsOf-more s2.variables new.variables sum e2.grows q.inside;
      carry_inside = u.inside;
      equal = λ v m.
          let f1 = p.equal v (kept e1 v m) in
          let f2 = q.equal v (kept e2 v m) in
          let f3 = r.equal v (kept e3 v m) in
          let f4 = t.equal v (kept e4 v m) in
          let f5 = u.equal v m in
          rw (f5, f3, f4, f2, f1) (sum_table (is_lit_true v a) (is_lit_true v b) (is_lit_true v c));
      few = omega (arith, p.few, q.few, r.few, t.few, u.few);
    }

scaled : (p s n x y t : ℕ) → s + 2 * n ≡ x + y + t → p * s + 2 * (p * n) ≡ p * x + p * y + p * t
scaled p s n x y t e =
    let f : p * (s + 2 * n) ≡ p * (x + y + t) = ap (λ z. p * z) e in
    let g : p * (2 * n) ≡ 2 * (p * n) = mul_left_comm p 2 n in
    let h : p * (s + 2 * n) ≡ p * s + p * (2 * n) = mul-add p s (2 * n) in
    let i : p * (x + y + t) ≡ p * x + p * y + p * t = mul-add p (x + y) t ∙ ap (λ z. z + p * t) (mul-add p x y) in
    omega arith

pub adds_more : (old mid new : PlainFormula) (was now b : List Lit) (i : ℕ) (d from to digit next : Lit)
    → i < length b → length was ≡ length b
    → AddsInto old mid was now (take i b) from to (5 * i)
    → Adds mid new (get_or now i d) (get_or b i d) to digit next
    → AddsInto old new was (set now i digit) (take (i + 1) b) from next (5 * (i + 1))
adds_more old mid new was now b i d from to digit next h l p q =
    let el : length (take i b) ≡ i = length-take-le i b (omega arith) in
    let el1 : length (take (i + 1) b) ≡ i + 1 = length-take-le (i + 1) b (omega arith) in
    let lk = p.length_kept in
    record {
      extends = extends_trans old mid new p.extends q.extends;
      length_kept = length-set now i digit ∙ lk;
      inside = are-set new.variables now i digit (AreOf-more mid.variables new.variables now q.extends.grows p.inside) q.sum_inside;
      carry_inside = q.carry_inside;
      equal = λ v m.
          let x : Lit = get_or now i d in
          let y : Lit = get_or b i d in
          let e : number v now + 2 ^ i * bit v to ≡ number v was + number v (take i b) + bit v from = rw el at (p.equal v (kept q.extends v m)) in
          let f = scaled (2 ^ i) (bit v digit) (bit v next) (bit v x) (bit v y) (bit v to) (q.equal v m) in
          let g = number-set v now i d digit (omega arith) in
          let k = number-take_at v b i d h in
          let w = pow_more i (bit v next) in
          rw (el1, k) (omega arith);
      few = omega (arith, p.few, q.few);
    }
