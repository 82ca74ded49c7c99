-- Expressions over cells.
use Rattle.std.specs.List.{slice_get}
use Rattle.std.proofs.Common.{◌≡◌, ℕ, zero, suc, ◌+◌, ◌-◌, ◌*◌, ◌%◌, ◌^◌, ◌<◌, ◌≤◌, Bool, true, false, not, List, [], ◌∷◌, ◌++◌, length, get_or, Some, Result, Ok, Err, IfOk, OnOk, refl, sym, ◌∙◌, ap, arith, nat_eq, nat_le, if◌then◌else◌, inl, inr, length-append, pow-suc}
use Rattle.std.proofs.lemmas.Bool.{cases_eq, cases_lt, cases_Bool, le-leb, lt-leb, lt-ltb, le-ltb}
use Rattle.std.proofs.lemmas.List.{length-map}
use Rattle.clause_form.specs.declared.lit.Lit.{Lit}
use Rattle.clause_form.specs.ClauseTruth.{Values, is_lit_true}
use Rattle.clause_form.specs.Literals.{literal}
use Rattle.clause_form.proofs.Rising.{AreOf-more}
use Rattle.chk_base.specs.declared.word.Width.{Width}
use Rattle.chk_base.specs.declared.word.Width.TheVariants.{W1, W8, W16, W32}
use Rattle.chk_base.specs.Widths.{PlainWord, bits_of, signed_of, unsigned, read_as}
use Rattle.chk_base.specs.WordValue.{picked, chosen, word_at}
use Rattle.bit_circuit.specs.declared.bus.Bus.{Bus}
use Rattle.bit_circuit.specs.Extension.{PlainFormula, ExtendsWith, Makes}
use Rattle.bit_circuit.specs.BusValue.{bit, nth, number, MakesBus}
use Rattle.bit_circuit.specs.Signed.{extended}
use Rattle.bit_circuit.specs.Selection.{AreInside, AreCells, AreFalseFrom, AreNarrow, IsGathered, numbers, number_at, words_of}
use Rattle.bit_circuit.proofs.Growth.{kept}
use Rattle.bit_circuit.proofs.Numbers.{number-place_le, one_if-le}
use Rattle.bit_circuit.proofs.Buses.{bus_here, bus_as, bus_bus, lit_bus}
use Rattle.bit_circuit.proofs.Operating.{bit_is}
use Rattle.bit_circuit.proofs.Selecting.{inside_at}

-- ---- buses that stay cells
pub AreInside-more : (n m : ℕ) (bs : List Bus) → n ≤ m → AreInside n bs → AreInside m bs
AreInside-more n m [] h o = tt
AreInside-more n m (b ∷ bs) h o = (AreOf-more n m b.lits h o.0, AreInside-more n m bs h o.1)

pub cells_more : (s new : PlainFormula) (free : List Lit) (widths : List Width) (cells : List Bus) → ExtendsWith s new free → AreCells s widths cells → AreCells new widths cells
cells_more s new free widths cells e c = record {
  same_length = c.same_length;
  inside = AreInside-more s.variables new.variables cells e.grows c.inside;
  narrow = λ v m. c.narrow v (kept e v m);
}

pub cells_kept : {E : Type 0} (a b : PlainFormula) (ws : List Width) (bs : List Bus) (f : Values → ℕ) (n : ℕ) (r : Result Bus E) → AreCells a ws bs → IfOk r (λ x. MakesBus a b x.lits f n) → OnOk r (AreCells b ws bs)
cells_kept a b ws bs f n (Ok x) c p = cells_more a b [] ws bs p.extends c
cells_kept a b ws bs f n (Err e) c p = tt

-- ---- literals that are false, and numbers that are small
pub number_narrow : (v : Values) (ls : List Lit) (k : ℕ) → AreFalseFrom v k ls → number v ls < 2 ^ k
number_narrow v [] k f = small k
  where
    small : (k : ℕ) → 0 < 2 ^ k
    small zero = omega arith
    small (suc k) = let h = small k in rw pow-suc (omega arith)
number_narrow v (l ∷ ls) zero f =
    let e : bit v l ≡ 0 = ap (λ b. if b then 1 else 0) (f.at 0 (omega arith) (omega arith)) in
    let t : AreFalseFrom v 0 ls = record { at = λ i h g. f.at (suc i) (omega arith) (omega arith) } in
    let n = number_narrow v ls 0 t in
    omega arith
number_narrow v (l ∷ ls) (suc k) f =
    let t : AreFalseFrom v k ls = record { at = λ i h g. f.at (suc i) (omega arith) (omega arith) } in
    let n = number_narrow v ls k t in
    let b = one_if-le (is_lit_true v l) in
    rw pow-suc (omega arith)

pub narrow_number : (v : Values) (ls : List Lit) (k : ℕ) → number v ls < 2 ^ k → AreFalseFrom v k ls
narrow_number v ls k h = record {
  at = λ i g l. elim (cases_Bool (is_lit_true v (nth ls i))) [
    | inl e ↦
        let p = number-place_le v ls i (literal 0) l in
        let q : bit v (nth ls i) ≡ 1 = ap (λ b. if b then 1 else 0) e in
        let r : 2 ^ i * bit v (nth ls i) ≡ 2 ^ i = ap (λ n. 2 ^ i * n) q ∙ omega arith in
        let s = pow_le k i g in
        absurd (omega arith)
    | inr e ↦ e
  ];
}
  where
    pow_le : (k i : ℕ) → k ≤ i → 2 ^ k ≤ 2 ^ i
    pow_le k zero h = let e : k ≡ 0 = omega arith in rw e (omega arith)
    pow_le zero (suc i) h = let a = pow_le 0 i (omega arith) in rw (pow-suc 2 i) (omega arith)
    pow_le (suc k) (suc i) h = let a = pow_le k i (omega arith) in rw (pow-suc 2 k, pow-suc 2 i) (omega arith)

-- ---- one cell
pub word_is : (v : Values) (ws : List Width) (bs : List Bus) (at : ℕ) (w : Width) (b : Bus) → slice_get ws at ≡ Some w → slice_get bs at ≡ Some b → word_at (words_of v ws bs) at ≡ record { width = w; bits = number v b.lits }
word_is v [] bs at w b e f = cc
word_is v (x ∷ ws) [] at w b e f = cc
word_is v (x ∷ ws) (c ∷ bs) zero w b e f = let g : x ≡ w = cc in let h : c ≡ b = cc in rw (g, h) refl
word_is v (x ∷ ws) (c ∷ bs) (suc at) w b e f = word_is v ws bs at w b e f

narrow_at : (v : Values) (ws : List Width) (bs : List Bus) (at : ℕ) (w : Width) (b : Bus) → slice_get ws at ≡ Some w → slice_get bs at ≡ Some b → AreNarrow v ws bs → AreFalseFrom v (bits_of w) b.lits
narrow_at v [] bs at w b e f n = absurd (cc)
narrow_at v (x ∷ ws) [] at w b e f n = absurd (cc)
narrow_at v (x ∷ ws) (c ∷ bs) zero w b e f n = let g : x ≡ w = cc in let h : c ≡ b = cc in rw (← g, ← h) n.0
narrow_at v (x ∷ ws) (c ∷ bs) (suc at) w b e f n = narrow_at v ws bs at w b e f n.1

signed_width : (w : Width) (n : ℕ) → n < 2 ^ bits_of w → extended (bits_of w) (nat_le (2 ^ (bits_of w - 1)) (n % 2 ^ suc (bits_of w - 1))) n ≡ unsigned (signed_of (bits_of w) n)
signed_width W1 n h = elim (cases_lt n (2 ^ 0)) [
  | inl k ↦ rw (lt-ltb n (2 ^ 0) k, lt-leb (2 ^ 0) (n % 2 ^ 1) (omega arith)) (omega arith)
  | inr k ↦ rw (le-ltb n (2 ^ 0) k, le-leb (2 ^ 0) (n % 2 ^ 1) (omega arith)) (omega arith)
]
signed_width W8 n h = elim (cases_lt n (2 ^ 7)) [
  | inl k ↦ rw (lt-ltb n (2 ^ 7) k, lt-leb (2 ^ 7) (n % 2 ^ 8) (omega arith)) (omega arith)
  | inr k ↦ rw (le-ltb n (2 ^ 7) k, le-leb (2 ^ 7) (n % 2 ^ 8) (omega arith)) (omega arith)
]
signed_width W16 n h = elim (cases_lt n (2 ^ 15)) [
  | inl k ↦ rw (lt-ltb n (2 ^ 15) k, lt-leb (2 ^ 15) (n % 2 ^ 16) (omega arith)) (omega arith)
  | inr k ↦ rw (le-ltb n (2 ^ 15) k, le-leb (2 ^ 15) (n % 2 ^ 16) (omega arith)) (omega arith)
]
signed_width W32 n h = elim (cases_lt n (2 ^ 31)) [
  | inl k ↦ rw (lt-ltb n (2 ^ 31) k, lt-leb (2 ^ 31) (n % 2 ^ 32) (omega arith)) (omega arith)
  | inr k ↦ rw (le-ltb n (2 ^ 31) k, le-leb (2 ^ 31) (n % 2 ^ 32) (omega arith)) (omega arith)
]

pub bits_least : (w : Width) → (1 ≤ bits_of w) × (bits_of w ≤ 32)
bits_least W1 = (omega arith, omega arith)
bits_least W8 = (omega arith, omega arith)
bits_least W16 = (omega arith, omega arith)
bits_least W32 = (omega arith, omega arith)

pub plain_cell : (s : PlainFormula) (ws : List Width) (bs : List Bus) (at : ℕ) (b : Bus) (signed : Bool) → signed ≡ false → AreCells s ws bs → at < length bs → slice_get bs at ≡ Some b → length b.lits ≡ 32 → MakesBus s s b.lits (λ v. read_as signed (word_at (words_of v ws bs) at)) 0
plain_cell s ws bs at b signed t c h e k = rw t (bus_here s b.lits _ 0 k (inside_at s.variables bs at b e c.inside) (λ v m. let w = width_there ws at (omega (arith, c.same_length)) in sym (ap (λ (x : PlainWord). x.bits) (word_is v ws bs at w.0 b w.1 e))))
  where
    width_there : (ws : List Width) (at : ℕ) → at < length ws → (w : Width) × (slice_get ws at ≡ Some w)
    width_there [] at h = absurd (omega arith)
    width_there (x ∷ ws) zero h = (x, refl)
    width_there (x ∷ ws) (suc at) h = width_there ws at (omega arith)

pub signed_cell : (s : PlainFormula) (ws : List Width) (bs : List Bus) (at bits : ℕ) (w : Width) (b : Bus) (d : Lit) (r : List Lit) (signed : Bool) → signed ≡ true → AreCells s ws bs → slice_get ws at ≡ Some w → slice_get bs at ≡ Some b → length b.lits ≡ 32 → bits ≡ bits_of w → MakesBus s s r (λ v. extended bits (is_lit_true v (get_or b.lits (bits - 1) d)) (number v b.lits)) 0 → MakesBus s s r (λ v. read_as signed (word_at (words_of v ws bs) at)) 0
signed_cell s ws bs at bits w b d r signed t c e f k g p = rw t (bus_as s s r _ _ 0 0 p (λ v m.
    let fit : number v b.lits < 2 ^ bits_of w = number_narrow v b.lits (bits_of w) (narrow_at v ws bs at w b e f (c.narrow v m)) in
    let l = bits_least w in
    let x = bit_is v b.lits (bits - 1) d (omega (arith, l.0, l.1)) in
    rw (word_is v ws bs at w b e f, x, g) (signed_width w (number v b.lits) fit)) (omega arith))

-- ---- cells in a row
pub gathered_more : (s : PlainFormula) (ws : List Width) (bs : List Bus) (base i at : ℕ) (signed : Bool) (items now : List Bus) (b : Bus) → at ≡ base + i → now ≡ items ++ b ∷ [] → IsGathered s ws bs base signed i items → MakesBus s s b.lits (λ v. read_as signed (word_at (words_of v ws bs) at)) 0 → IsGathered s ws bs base signed (i + 1) now
gathered_more s ws bs base i at signed items now b ea e g p = rw e (record {
  length_is = length-append items (b ∷ []) ∙ omega (arith, g.length_is);
  inside = push items g.inside;
  equal = λ v m k h. elim (cases_eq k i) [
    | inl j ↦ rw j (last v items i (sym g.length_is) ∙ p.equal v m ∙ ap (λ n. read_as signed (word_at (words_of v ws bs) n)) ea)
    | inr j ↦ front v items k (omega (arith, g.length_is)) ∙ g.equal v m k (omega arith)
  ];
})
  where
    push : (xs : List Bus) → AreInside s.variables xs → AreInside s.variables (xs ++ b ∷ [])
    push [] o = (p.inside, tt)
    push (x ∷ xs) o = (o.0, push xs o.1)

    last : (v : Values) (xs : List Bus) (i : ℕ) → i ≡ length xs → get_or (numbers v (xs ++ b ∷ [])) i 0 ≡ number v b.lits
    last v [] i h = rw h refl
    last v (x ∷ xs) zero h = absurd (omega arith)
    last v (x ∷ xs) (suc i) h = last v xs i (omega arith)

    front : (v : Values) (xs : List Bus) (k : ℕ) → k < length xs → get_or (numbers v (xs ++ b ∷ [])) k 0 ≡ get_or (numbers v xs) k 0
    front v [] k h = absurd (omega arith)
    front v (x ∷ xs) zero h = refl
    front v (x ∷ xs) (suc k) h = front v xs k (omega arith)

pub pick_cell_made : (s new : PlainFormula) (ws : List Width) (bs : List Bus) (base count : ℕ) (signed : Bool) (items : List Bus) (index : Bus) (r : List Lit) → count < 2 ^ 8 → IsGathered s ws bs base signed count items → MakesBus s new r (number_at items index) (256 * length items) → MakesBus s new r (λ v. picked (word_at (words_of v ws bs)) base count signed (number v index.lits)) 65536
pick_cell_made s new ws bs base count signed items index r h g p = bus_as s new r _ _ (256 * length items) 65536 p (λ v m. elim (cases_lt (number v index.lits) count) [
  | inl k ↦ rw (lt-ltb (number v index.lits) count k) (g.equal v (kept p.extends v m) (number v index.lits) k)
  | inr k ↦ rw (le-ltb (number v index.lits) count k) (outside (numbers v items) (number v index.lits) (omega (arith, length-map items (λ (x : Bus). number v x.lits), g.length_is)))
]) (omega (arith, g.length_is))
  where
    outside : (xs : List ℕ) (n : ℕ) → length xs ≤ n → get_or xs n 0 ≡ 0
    outside [] n h = refl
    outside (x ∷ xs) zero h = absurd (omega arith)
    outside (x ∷ xs) (suc n) h = outside xs n (omega arith)

pub choose_bus_made : (s s1 new : PlainFormula) (c a b r : List Lit) (x : Lit) → Makes s s1 x (λ v. not (nat_eq (number v c) 0)) 32 → MakesBus s1 new r (λ v. if is_lit_true v x then number v a else number v b) 32 → MakesBus s new r (λ v. chosen (number v c) (number v a) (number v b)) 65536
choose_bus_made s s1 new c a b r x p q = lit_bus s s1 new x r _ _ (λ v. chosen (number v c) (number v a) (number v b)) 32 32 65536 p q (λ v m e. rw e refl) (omega arith)

-- ---- one node of an expression
pub one_node : (F : Values → ℕ → ℕ) (s s1 new : PlainFormula) (x r : List Lit) (f : Values → ℕ) (n : ℕ) → MakesBus s s1 x f (65536 * n) → MakesBus s1 new r (λ v. F v (number v x)) 65536 → MakesBus s new r (λ v. F v (f v)) (65536 * (n + 1))
one_node F s s1 new x r f n p q = bus_bus s s1 new x r _ _ (λ v. F v (f v)) (65536 * n) 65536 (65536 * (n + 1)) p q (λ v m e. ap (F v) e) (omega arith)

pub two_node : (F : ℕ → ℕ → ℕ) (s s1 s2 new : PlainFormula) (x y r : List Lit) (f g : Values → ℕ) (n m : ℕ) → MakesBus s s1 x f (65536 * n) → MakesBus s1 s2 y g (65536 * m) → MakesBus s2 new r (λ v. F (number v x) (number v y)) 65536 → MakesBus s new r (λ v. F (f v) (g v)) (65536 * (n + m + 1))
two_node F s s1 s2 new x y r f g n m p q t = bus_bus s s1 new x r _ _ (λ v. F (f v) (g v)) (65536 * n) (65536 * (m + 1)) (65536 * (n + m + 1)) p
    (bus_bus s1 s2 new y r _ _ (λ v. F (number v x) (g v)) (65536 * m) 65536 (65536 * (m + 1)) q t (λ v k e. ap (F (number v x)) e) (omega arith))
    (λ v k e. ap (λ z. F z (g v)) e) (omega arith)

pub three_node : (F : ℕ → ℕ → ℕ → ℕ) (s s1 s2 s3 new : PlainFormula) (x y z r : List Lit) (f g h : Values → ℕ) (n m l : ℕ) → MakesBus s s1 x f (65536 * n) → MakesBus s1 s2 y g (65536 * m) → MakesBus s2 s3 z h (65536 * l) → MakesBus s3 new r (λ v. F (number v x) (number v y) (number v z)) 65536 → MakesBus s new r (λ v. F (f v) (g v) (h v)) (65536 * (n + m + l + 1))
three_node F s s1 s2 s3 new x y z r f g h n m l p q t u = bus_bus s s1 new x r _ _ (λ v. F (f v) (g v) (h v)) (65536 * n) (65536 * (m + l + 1)) (65536 * (n + m + l + 1)) p
    (bus_bus s1 s2 new y r _ _ (λ v. F (number v x) (g v) (h v)) (65536 * m) (65536 * (l + 1)) (65536 * (m + l + 1)) q
    (bus_bus s2 s3 new z r _ _ (λ v. F (number v x) (number v y) (h v)) (65536 * l) 65536 (65536 * (l + 1)) t u (λ v k e. ap (F (number v x) (number v y)) e) (omega arith))
    (λ v k e. ap (λ w. F (number v x) w (h v)) e) (omega arith))
    (λ v k e. ap (λ w. F w (g v) (h v)) e) (omega arith)
