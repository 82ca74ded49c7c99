-- Lists made one by one.
use Rattle.std.proofs.Common.{◌≡◌, ◌≢◌, ℕ, zero, suc, ◌+◌, ◌*◌, ◌^◌, ◌<◌, Bool, true, false, not, ◌&&◌, ◌||◌, List, [], ◌∷◌, ◌++◌, map, length, take, drop, set, get_or, refl, sym, ◌∙◌, ap, subst, arith, nat_eq, if◌then◌else◌, inl, inr, mul-add, pow-suc, bit_and, bit_or, bit_xor}
use Rattle.std.proofs.lemmas.Bool.{cases_eq}
use Rattle.std.proofs.lemmas.List.{length-set, get_or-set_same, get_or-set_other, take_all}
use Rattle.std.proofs.lemmas.Bool.Decides.{nat_tests}
use Rattle.std.proofs.lemmas.Nat.{and_block, or_block, xor_block, pow_pos}
use Rattle.std.proofs.lemmas.List.Edits.{map_over_more}
use Rattle.clause_form.specs.declared.lit.Lit.{Lit}
use Rattle.clause_form.specs.ClauseTruth.{Values, is_lit_true}
use Rattle.clause_form.specs.Literals.{AreOf, negation, literal}
use Rattle.clause_form.proofs.Rising.{AreOf-more}
use Rattle.clause_form.proofs.Negations.{is_lit_true-negation, IsOf-negation}
use Rattle.chk_base.specs.Operators.{one_if}
use Rattle.bit_circuit.specs.Extension.{PlainFormula, IsModel, Makes, xor}
use Rattle.bit_circuit.specs.BusValue.{number, nth, MakesEach, gate_value, gated, any_true, choice}
use Rattle.bit_circuit.specs.declared.bits.Gate.{Gate}
use Rattle.bit_circuit.specs.declared.bits.Gate.TheVariants.{And, Or, Xor}
use Rattle.bit_circuit.proofs.Composition.{made_then}
use Rattle.bit_circuit.proofs.Growth.{extends_trans, kept}
use Rattle.bit_circuit.proofs.Numbers.{are-set, number-take_at, one_if-le}

pub each_more : (old mid new : PlainFormula) (f : Values → Bool → Bool → Bool) (was now b : List Lit) (i n : ℕ) (r : Lit)
    → i < length b → length was ≡ length b
    → MakesEach old mid f was now b i (n * i)
    → Makes mid new r (λ v. f v (is_lit_true v (nth now i)) (is_lit_true v (nth b i))) n
    → MakesEach old new f was (set now i r) b (i + 1) (n * (i + 1))
each_more old mid new f was now b i n r h l p q =
    let within : i < length now = omega (arith, p.length_kept) in
    let at : nth (set now i r) i ≡ r = get_or-set_same now i r (literal 0) within in
    let off : (k : ℕ) → k ≢ i → nth (set now i r) k ≡ nth now k = λ k g. get_or-set_other now i k r (literal 0) g in
    record {
      extends = extends_trans old mid new p.extends q.extends;
      length_kept = length-set now i r ∙ p.length_kept;
      inside = are-set new.variables now i r (AreOf-more mid.variables new.variables now q.extends.grows p.inside) q.inside;
      made = λ v m k g. elim (cases_eq k i) [
        | inl e ↦ rw (e, at) (q.equal v m ∙ ap (λ x. f v (is_lit_true v x) (is_lit_true v (nth b i))) (p.rest i (omega arith)))
        | inr e ↦ rw (off k e) (p.made v (kept q.extends v m) k (omega arith))
      ];
      rest = λ k g. off k (λ e. omega arith) ∙ p.rest k (omega arith);
      few = rw (mul-add n i 1) (omega (arith, p.few, q.few));
    }

-- ---- from places to numbers
pub number_same : (v : Values) (xs ys : List Lit) → length xs ≡ length ys → ((k : ℕ) → k < length xs → is_lit_true v (nth xs k) ≡ is_lit_true v (nth ys k)) → number v xs ≡ number v ys
number_same v [] [] l h = refl
number_same v [] (y ∷ ys) l h = absurd (omega arith)
number_same v (x ∷ xs) [] l h = absurd (omega arith)
number_same v (x ∷ xs) (y ∷ ys) l h =
    let e : is_lit_true v x ≡ is_lit_true v y = h 0 (omega arith) in
    let f = number_same v xs ys (omega arith) (λ k g. h (suc k) (omega arith)) in
    rw (e, f) refl

pub number-map_negation : (v : Values) (xs : List Lit) → number v (map negation xs) + number v xs + 1 ≡ 2 ^ length xs
number-map_negation v [] = refl
number-map_negation v (x ∷ xs) =
    let h = number-map_negation v xs in
    let e : one_if (is_lit_true v (negation x)) ≡ one_if (not (is_lit_true v x)) = ap one_if (is_lit_true-negation v x) in
    let g : one_if (not (is_lit_true v x)) + one_if (is_lit_true v x) ≡ 1 = flips (is_lit_true v x) in
    rw pow-suc (omega arith)
  where
    flips : (b : Bool) → one_if (not b) + one_if b ≡ 1
    flips true = refl
    flips false = refl

pub are-map_negation : (n : ℕ) (xs : List Lit) → AreOf n xs → AreOf n (map negation xs)
are-map_negation n [] o = tt
are-map_negation n (x ∷ xs) o = (IsOf-negation n x o.0, are-map_negation n xs o.1)

-- ---- the bits of numbers
low_block : (F : ℕ → ℕ → ℕ) → ((k a b r s : ℕ) → r < 2 ^ k → s < 2 ^ k → F (a * 2 ^ k + r) (b * 2 ^ k + s) ≡ F a b * 2 ^ k + F r s) → (a b : Bool) (m n : ℕ) → F (one_if a + 2 * m) (one_if b + 2 * n) ≡ F (one_if a) (one_if b) + 2 * F m n
low_block F law a b m n =
    let e : one_if a + 2 * m ≡ m * 2 ^ 1 + one_if a = omega arith in
    let f : one_if b + 2 * n ≡ n * 2 ^ 1 + one_if b = omega arith in
    let ha = one_if-le a in
    let hb = one_if-le b in
    let g = law 1 m n (one_if a) (one_if b) (omega arith) (omega arith) in
    rw (e, f) (g ∙ omega arith)

pub number_gated : (g : Gate) (F : ℕ → ℕ → ℕ) → ((a b : Bool) → F (one_if a) (one_if b) ≡ one_if (gate_value g a b)) → ((k a b r s : ℕ) → r < 2 ^ k → s < 2 ^ k → F (a * 2 ^ k + r) (b * 2 ^ k + s) ≡ F a b * 2 ^ k + F r s) → (v : Values) (was now b : List Lit) → length now ≡ length was → length was ≡ length b → ((k : ℕ) → k < length b → is_lit_true v (nth now k) ≡ gate_value g (is_lit_true v (nth was k)) (is_lit_true v (nth b k))) → F 0 0 ≡ 0 → number v now ≡ F (number v was) (number v b)
number_gated g F table law v [] [] [] l k h z = sym z
number_gated g F table law v [] [] (y ∷ ys) l k h z = absurd (omega arith)
number_gated g F table law v [] (x ∷ xs) ys l k h z = absurd (omega arith)
number_gated g F table law v (x ∷ xs) [] ys l k h z = absurd (omega arith)
number_gated g F table law v (x ∷ xs) (n ∷ ns) [] l k h z = absurd (omega arith)
number_gated g F table law v (x ∷ xs) (n ∷ ns) (y ∷ ys) l k h z =
    let ih = number_gated g F table law v xs ns ys (omega arith) (omega arith) (λ j q. h (suc j) (omega arith)) z in
    let e : is_lit_true v n ≡ gate_value g (is_lit_true v x) (is_lit_true v y) = h 0 (omega arith) in
    rw (e, ih, low_block F law (is_lit_true v x) (is_lit_true v y) (number v xs) (number v ys), table (is_lit_true v x) (is_lit_true v y)) refl

and_bits : (a b : Bool) → bit_and (one_if a) (one_if b) ≡ one_if (a && b)
and_bits true true = refl
and_bits true false = refl
and_bits false true = refl
and_bits false false = refl

or_bits : (a b : Bool) → bit_or (one_if a) (one_if b) ≡ one_if (a || b)
or_bits true true = refl
or_bits true false = refl
or_bits false true = refl
or_bits false false = refl

xor_bits : (a b : Bool) → bit_xor (one_if a) (one_if b) ≡ one_if (xor a b)
xor_bits true true = refl
xor_bits true false = refl
xor_bits false true = refl
xor_bits false false = refl

pub number_and : (old new : PlainFormula) (was now b : List Lit) (most : ℕ) → length was ≡ length b → MakesEach old new (gated And) was now b (length b) most → (v : Values) → IsModel v new → number v now ≡ bit_and (number v was) (number v b)
number_and old new was now b most l p v m = number_gated And bit_and and_bits and_block v was now b p.length_kept l (p.made v m) refl

pub number_or : (old new : PlainFormula) (was now b : List Lit) (most : ℕ) → length was ≡ length b → MakesEach old new (gated Or) was now b (length b) most → (v : Values) → IsModel v new → number v now ≡ bit_or (number v was) (number v b)
number_or old new was now b most l p v m = number_gated Or bit_or or_bits or_block v was now b p.length_kept l (p.made v m) refl

pub number_xor : (old new : PlainFormula) (was now b : List Lit) (most : ℕ) → length was ≡ length b → MakesEach old new (gated Xor) was now b (length b) most → (v : Values) → IsModel v new → number v now ≡ bit_xor (number v was) (number v b)
number_xor old new was now b most l p v m = number_gated Xor bit_xor xor_bits xor_block v was now b p.length_kept l (p.made v m) refl

pub number_chosen : (old new : PlainFormula) (c : Lit) (was now b : List Lit) (most : ℕ) → length was ≡ length b → MakesEach old new (choice c) was now b (length b) most → (v : Values) → IsModel v new → number v now ≡ (if is_lit_true v c then number v b else number v was)
number_chosen old new c was now b most l p v m = go (is_lit_true v c) refl
  where
    go : (x : Bool) → is_lit_true v c ≡ x → number v now ≡ (if x then number v b else number v was)
    go true e = number_same v now b (p.length_kept ∙ l) (λ k h. p.made v m k (omega (arith, p.length_kept)) ∙ rw e refl)
    go false e = number_same v now was p.length_kept (λ k h. p.made v m k (omega (arith, p.length_kept)) ∙ rw e refl)

-- ---- whether one is true
some_table : (a : Bool) (n p : ℕ) → 0 < p → (not (nat_eq n 0) || a) ≡ not (nat_eq (n + p * one_if a) 0)
some_table true n p h = grind (arith, nat_tests)
some_table false n p h = grind (arith, nat_tests)

pub some_more : (old mid new : PlainFormula) (ls : List Lit) (i : ℕ) (d x r : Lit) → i < length ls → Makes old mid x (any_true (take i ls)) i → Makes mid new r (λ v. is_lit_true v x || is_lit_true v (get_or ls i d)) 1 → Makes old new r (any_true (take (i + 1) ls)) (i + 1)
some_more old mid new ls i d x r h p q =
    made_then old mid new x r _ _ (any_true (take (i + 1) ls)) i 1 (i + 1) p q (λ v e. step v e) (omega arith)
  where
    step : (v : Values) → is_lit_true v x ≡ any_true (take i ls) v → (is_lit_true v x || is_lit_true v (get_or ls i d)) ≡ any_true (take (i + 1) ls) v
    step v e = rw (number-take_at v ls i d h, e) (some_table (is_lit_true v (get_or ls i d)) (number v (take i ls)) (2 ^ i) (pow_pos i))

pub some_all : (old new : PlainFormula) (ls : List Lit) (i : ℕ) (r : Lit) → i ≡ length ls → Makes old new r (any_true (take i ls)) i → Makes old new r (any_true ls) (length ls)
some_all old new ls i r e p = subst (λ xs. Makes old new r (any_true xs) (length ls)) (take_all (length ls) ls (omega arith)) (subst (λ n. Makes old new r (any_true (take n ls)) n) e p)

pub each_all : (old new : PlainFormula) (f : Values → Bool → Bool → Bool) (was now b : List Lit) (i n : ℕ) → i ≡ length b → MakesEach old new f was now b i (n * i) → MakesEach old new f was now b (length b) (n * length b)
each_all old new f was now b i n e p = subst (λ j. MakesEach old new f was now b j (n * j)) e p

get_or-self : (xs : List Lit) (i : ℕ) (d : Lit) → i < length xs → get_or xs i d ≡ get_or xs i (get_or xs i d)
get_or-self [] i d h = absurd (omega arith)
get_or-self (x ∷ xs) zero d h = refl
get_or-self (x ∷ xs) (suc i) d h = get_or-self xs i d (omega arith)

pub negated_more : (xs ys : List Lit) (i : ℕ) (d r : Lit) → i < length xs → i < length ys → ys ≡ map negation (take i xs) ++ drop i xs → r ≡ negation (get_or ys i d) → set ys i r ≡ map negation (take (i + 1) xs) ++ drop (i + 1) xs
negated_more xs ys i d r h k e f = rw f (map_over_more negation xs ys i (get_or ys i d) h e (get_or-self ys i d k))
