-- Comparisons.
use Rattle.std.specs.Int.{bit_at}
use Rattle.std.specs.Int.Bits.{xor_self}
use Rattle.std.proofs.Common.{◌≡◌, ℕ, ◌+◌, ◌*◌, ◌%◌, ◌^◌, ◌<◌, Bool, true, false, not, List, length, set, refl, sym, ◌∙◌, ap, subst, arith, nat_eq, nat_lt, nat_le, inl, inr, bit_xor}
use Rattle.std.proofs.lemmas.Bool.{cases_eq, eq-eqb, ne_eqb}
use Rattle.std.proofs.lemmas.Nat.Bits.{same_from_bits, bit_at_xor, bit_at-zero, bit_at-lt}
use Rattle.std.proofs.lemmas.Bool.Decides.{nat_tests}
use Rattle.std.proofs.lemmas.List.{length-set}
use Rattle.clause_form.specs.declared.lit.Lit.{Lit}
use Rattle.clause_form.specs.ClauseTruth.{Values, is_lit_true}
use Rattle.clause_form.specs.Literals.{IsOf, negation, literal}
use Rattle.chk_base.specs.Operators.{one_if}
use Rattle.bit_circuit.specs.Extension.{PlainFormula, IsModel, Makes}
use Rattle.bit_circuit.specs.BusValue.{bit, number, gate_word, MakesBus, MakesDifference}
use Rattle.bit_circuit.specs.declared.bits.Gate.TheVariants.{Xor}
use Rattle.bit_circuit.proofs.Numbers.{number-lt, number-set, number-place_le, are-set}
use Rattle.bit_circuit.proofs.Composition.{made_negated}
use Rattle.bit_circuit.proofs.Buses.{bus_lit}

pub number-lt_word : (v : Values) (ls : List Lit) → length ls ≡ 32 → number v ls < 2 ^ 32
number-lt_word v ls w = subst (λ n. number v ls < 2 ^ n) w (number-lt v ls)

pub flag_made : (s : PlainFormula) (ls : List Lit) (a : Lit) → IsOf s.variables a → MakesBus s s ls (λ _. 0) 0 → MakesBus s s (set ls 0 a) (λ v. bit v a) 0
flag_made s ls a o p = record {
  extends = p.extends;
  width = length-set ls 0 a ∙ p.width;
  inside = are-set s.variables ls 0 a p.inside o;
  equal = λ v m.
      let e = number-set v ls 0 (literal 0) a (omega (arith, p.width)) in
      let f = p.equal v m in
      let g = number-place_le v ls 0 (literal 0) (omega (arith, p.width)) in
      omega arith;
  few = p.few;
}

pub less_made : (s new : PlainFormula) (a b d : List Lit) (r : Lit) → length a ≡ 32 → length b ≡ 32 → MakesDifference s new a b d r 160 → Makes s new r (λ v. nat_le (number v b) (number v a)) 160
less_made s new a b d r wa wb p = record {
  extends = p.extends;
  inside = p.fits_inside;
  equal = λ v m. borrowed v m (is_lit_true v r) refl;
  few = p.few;
}
  where
    borrowed : (v : Values) → IsModel v new → (x : Bool) → is_lit_true v r ≡ x → is_lit_true v r ≡ nat_le (number v b) (number v a)
    borrowed v m x e =
        let f : number v d + 2 ^ 32 * one_if x + number v b ≡ number v a + 2 ^ 32 = rw e at (p.equal v m) in
        let ha = number-lt_word v a wa in
        let hb = number-lt_word v b wb in
        let hd = number-lt_word v d p.width in
        e ∙ table x (number v d) (number v a) (number v b) f hd
      where
        table : (x : Bool) (d a b : ℕ) → d + 2 ^ 32 * one_if x + b ≡ a + 2 ^ 32 → d < 2 ^ 32 → x ≡ nat_le b a
        table true d a b f h = grind (arith, nat_tests)
        table false d a b f h = grind (arith, nat_tests)

pub le_not : (a b : ℕ) → not (nat_le b a) ≡ nat_lt a b
le_not a b = grind (arith, nat_tests)

equal_xor : (m n : ℕ) → bit_xor m n ≡ 0 → m ≡ n
equal_xor m n e = same_from_bits m n (λ i.
    let f : (bit_at m i + bit_at n i) % 2 ≡ 0 = sym (bit_at_xor m n i) ∙ ap (λ z. bit_at z i) e ∙ bit_at-zero i in
    let g = bit_at-lt m i in
    let h = bit_at-lt n i in
    two (bit_at m i) (bit_at n i) f g h)
  where
    two : (a b : ℕ) → (a + b) % 2 ≡ 0 → a < 2 → b < 2 → a ≡ b
    two a b f g h = omega arith

pub equal_made : (s mid new : PlainFormula) (a b x : List Lit) (r q : Lit) → MakesBus s mid x (λ v. gate_word Xor (number v a) (number v b)) 32 → Makes mid new r (λ v. not (nat_eq (number v x) 0)) 32 → q ≡ negation r → Makes s new q (λ v. nat_eq (number v a) (number v b)) 64
equal_made s mid new a b x r q p t e = rw e (made_negated s new r _ (λ v. nat_eq (number v a) (number v b)) 64
    (bus_lit s mid new x r _ _ (λ v. not (nat_eq (bit_xor (number v a) (number v b)) 0)) 32 32 64 p t (λ v m h. ap (λ z. not (nat_eq z 0)) h) (omega arith))
    (λ v. same (number v a) (number v b)))
  where
    same : (m n : ℕ) → not (not (nat_eq (bit_xor m n) 0)) ≡ nat_eq m n
    same m n = elim (cases_eq m n) [
      | inl i ↦ rw (i, xor_self n) (sym (eq-eqb n n refl))
      | inr i ↦ rw (ne_eqb (bit_xor m n) 0 (λ z. i (equal_xor m n z)), ne_eqb m n i) refl
    ]
