-- Choices among buses.
use Rattle.std.specs.List.{slice_get}
use Rattle.std.proofs.Common.{◌≡◌, ℕ, zero, suc, ◌+◌, ◌*◌, ◌^◌, ◌<◌, ◌≤◌, List, [], ◌∷◌, length, take, get_or, refl, ◌∙◌, ap, arith, nat_eq, if◌then◌else◌, inl, inr, ◌⊎◌, add-one, Some}
use Rattle.std.proofs.lemmas.Bool.{ne_eqb}
use Rattle.std.proofs.lemmas.Bool.Decides.{nat_tests}
use Rattle.std.proofs.lemmas.List.{take_all, length-map}
use Rattle.clause_form.specs.declared.lit.Lit.{Lit}
use Rattle.clause_form.specs.ClauseTruth.{Values, is_lit_true}
use Rattle.clause_form.specs.Literals.{AreOf}
use Rattle.bit_circuit.specs.declared.bus.Bus.{Bus}
use Rattle.bit_circuit.specs.Extension.{PlainFormula, Makes}
use Rattle.bit_circuit.specs.BusValue.{number, MakesBus}
use Rattle.bit_circuit.specs.Selection.{AreInside, numbers, number_at}
use Rattle.bit_circuit.proofs.LoopInvariants.{number_below}
use Rattle.bit_circuit.proofs.Growth.{extends_trans, kept}
use Rattle.bit_circuit.proofs.Buses.{bus_as, bus_bus}
use Rattle.bit_circuit.proofs.Comparing.{number-lt_word}

pub inside_at : (n : ℕ) (bs : List Bus) (i : ℕ) (b : Bus) → slice_get bs i ≡ Some b → AreInside n bs → AreOf n b.lits
inside_at n [] i b e o = absurd (cc)
inside_at n (x ∷ xs) zero b e o = let f : x ≡ b = cc in rw (← f) o.0
inside_at n (x ∷ xs) (suc i) b e o = inside_at n xs i b e o.1

pub select_one_made : (s s1 new : PlainFormula) (chosen item place index r : List Lit) (n : ℕ) (here : Lit) → MakesBus s s place (λ _. n) 0 → Makes s s1 here (λ v. nat_eq (number v index) (number v place)) 64 → MakesBus s1 new r (λ v. if is_lit_true v here then number v item else number v chosen) 32 → MakesBus s new r (λ v. if nat_eq (number v index) n then number v item else number v chosen) 96
select_one_made s s1 new chosen item place index r n here p q t = record {
  extends = extends_trans s s1 new q.extends t.extends;
  width = t.width;
  inside = t.inside;
  equal = λ v m.
      let k = kept t.extends v m in
      let e : is_lit_true v here ≡ nat_eq (number v index) n = q.equal v k ∙ ap (λ x. nat_eq (number v index) x) (p.equal v (kept q.extends v k)) in
      t.equal v m ∙ ap (λ b. if b then number v item else number v chosen) e;
  few = omega (arith, q.few, t.few);
}

eq-suc : (m n : ℕ) → nat_eq (suc m) (suc n) ≡ nat_eq m n
eq-suc m n = grind (arith, nat_tests)

take_pick : (xs : List ℕ) (i n : ℕ) → i < length xs → (if nat_eq n i then get_or xs i 0 else get_or (take i xs) n 0) ≡ get_or (take (suc i) xs) n 0
take_pick [] i n h = absurd (omega arith)
take_pick (x ∷ xs) zero zero h = refl
take_pick (x ∷ xs) zero (suc n) h = rw (ne_eqb (suc n) 0 (λ z. omega arith)) refl
take_pick (x ∷ xs) (suc i) zero h = rw (ne_eqb 0 (suc i) (λ z. omega arith)) refl
take_pick (x ∷ xs) (suc i) (suc n) h = rw (eq-suc n i) (take_pick xs i n (omega arith))

pub map_at : (v : Values) (bs : List Bus) (i : ℕ) (b : Bus) → slice_get bs i ≡ Some b → get_or (numbers v bs) i 0 ≡ number v b.lits
map_at v [] i b e = absurd (cc)
map_at v (x ∷ xs) zero b e = let f : x ≡ b = cc in ap (λ (y : Bus). number v y.lits) f
map_at v (x ∷ xs) (suc i) b e = map_at v xs i b e

pub select_more : (s mid new : PlainFormula) (items : List Bus) (index b : Bus) (chosen r : List Lit) (i n : ℕ) → i < length items → slice_get items i ≡ Some b → n ≡ i → MakesBus s mid chosen (number_below i items index) (96 * i) → MakesBus mid new r (λ v. if nat_eq (number v index.lits) n then number v b.lits else number v chosen) 96 → MakesBus s new r (number_below (i + 1) items index) (96 * (i + 1))
select_more s mid new items index b chosen r i n h e f p q = bus_bus s mid new chosen r _ _ (number_below (i + 1) items index) (96 * i) 96 (96 * (i + 1)) p q
    (λ v m g. let k : i < length (numbers v items) = omega (arith, length-map items (λ (x : Bus). number v x.lits)) in rw (f, g, ← map_at v items i b e, add-one) (take_pick (numbers v items) i (number v index.lits) k)) (omega arith)

pub select_done : (s new : PlainFormula) (items : List Bus) (index : Bus) (r : List Lit) (i : ℕ) → length index.lits ≡ 32 → (length items ≤ i) ⊎ (2 ^ 32 ≤ i) → i ≤ length items → MakesBus s new r (number_below i items index) (96 * i) → MakesBus s new r (number_at items index) (256 * length items)
select_done s new items index r i w c h p = bus_as s new r _ (number_at items index) (96 * i) (256 * length items) p (λ v m. same v c) (omega arith)
  where
    past : (xs : List ℕ) (i n : ℕ) → n < i → get_or (take i xs) n 0 ≡ get_or xs n 0
    past xs zero n h = absurd (omega arith)
    past [] (suc i) n h = refl
    past (x ∷ xs) (suc i) zero h = refl
    past (x ∷ xs) (suc i) (suc n) h = past xs i n (omega arith)

    same : (v : Values) → (length items ≤ i) ⊎ (2 ^ 32 ≤ i) → number_below i items index v ≡ number_at items index v
    same v (inl k) = ap (λ xs. get_or xs (number v index.lits) 0) (take_all i (numbers v items) (omega (arith, length-map items (λ (x : Bus). number v x.lits))))
    same v (inr k) = past (numbers v items) i (number v index.lits) (let h = number-lt_word v index.lits w in omega arith)
