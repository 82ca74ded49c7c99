-- Shifts.
use Rattle.std.proofs.Common.{◌≡◌, ℕ, zero, suc, ◌+◌, ◌-◌, ◌*◌, ◌%◌, ◌^◌, ◌<◌, ◌≤◌, Bool, true, false, not, List, [], ◌∷◌, length, take, drop, get_or, replicate, refl, sym, ◌∙◌, ap, subst, arith, nat_eq, nat_lt, if◌then◌else◌, inl, inr, mul_comm, mul_assoc, mul-zero, length-append, length-drop, mul-add, add-mul, zero-add}
use Rattle.std.proofs.lemmas.Bool.{cases_lt, cases_eq, ne_eqb, lt-ltb, le-ltb}
use Rattle.std.proofs.lemmas.Nat.{pow-add, shr-shr, div-mul-add, mod-mul-add, mul-mod_first, mul-le, one_shl, pow_pos}
use Rattle.std.proofs.lemmas.List.{length-take-le, length-replicate, take_all}
use Rattle.std.proofs.Math.Nat.{pow-le-pow_right}
use Rattle.clause_form.specs.declared.lit.Lit.{Lit}
use Rattle.clause_form.specs.ClauseTruth.{Values, is_lit_true}
use Rattle.clause_form.specs.Literals.{IsOf, AreOf}
use Rattle.bit_circuit.specs.Extension.{PlainFormula, IsModel, Makes}
use Rattle.bit_circuit.specs.BusValue.{number, any_true, MakesBus, moved, moved_lits, moved_by}
use Rattle.bit_circuit.specs.declared.shift.Way.{Way}
use Rattle.bit_circuit.specs.declared.shift.Way.TheVariants.{Up, Down}
use Rattle.bit_circuit.proofs.Growth.{kept}
use Rattle.bit_circuit.proofs.Numbers.{number-lt, number-append, number-take_at, are-append, are-take, are-drop, pow-suc-mul}
use Rattle.bit_circuit.proofs.Buses.{bus_here, bus_bus, bus_as, lit_bus, number-replicate, are-replicate}
use Rattle.bit_circuit.proofs.Comparing.{number-lt_word}

-- a list in two parts
pub number-parts : (v : Values) (k : ℕ) (ls : List Lit) → k ≤ length ls → number v ls ≡ number v (take k ls) + 2 ^ k * number v (drop k ls)
number-parts v zero ls h = omega arith
number-parts v (suc k) [] h = absurd (omega arith)
number-parts v (suc k) (x ∷ xs) h =
    let e = number-parts v k xs (omega arith) in
    let f = pow-suc-mul k (number v (drop k xs)) in
    omega arith

pub number-take_lt : (v : Values) (k : ℕ) (ls : List Lit) → k ≤ length ls → number v (take k ls) < 2 ^ k
number-take_lt v k ls h = subst (λ n. number v (take k ls) < 2 ^ n) (length-take-le k ls h) (number-lt v (take k ls))

pub are-moved : (n : ℕ) (way : Way) (ls : List Lit) (k : ℕ) (fill : Lit) → AreOf n ls → IsOf n fill → AreOf n (moved_lits way ls k fill)
are-moved n Up ls k fill o p = are-append n (replicate k fill) (take (length ls - k) ls) (are-replicate n fill p k) (are-take n (length ls - k) ls o)
are-moved n Down ls k fill o p = are-append n (drop k ls) (replicate k fill) (are-drop n k ls o) (are-replicate n fill p k)

pub length-moved : (way : Way) (ls : List Lit) (k : ℕ) (fill : Lit) → k ≤ length ls → length (moved_lits way ls k fill) ≡ length ls
length-moved Up ls k fill h = length-append (replicate k fill) (take (length ls - k) ls) ∙ rw (length-replicate k fill, length-take-le (length ls - k) ls (omega arith)) (omega arith)
length-moved Down ls k fill h = length-append (drop k ls) (replicate k fill) ∙ rw (length-replicate k fill, length-drop k ls) (omega arith)

-- a shift of a word, as a division with its rest
up_word : (t d k m : ℕ) → k + m ≡ 32 → t < 2 ^ m → ((t + 2 ^ m * d) * 2 ^ k) % 2 ^ 32 ≡ 2 ^ k * t
up_word t d k m e h =
    let p : 2 ^ k * 2 ^ m ≡ 2 ^ 32 = sym (pow-add 2 k m) ∙ ap (λ z. 2 ^ z) e in
    let x : 2 ^ m * d * 2 ^ k ≡ d * (2 ^ k * 2 ^ m) = rw (mul_comm (2 ^ m) d, mul_assoc d (2 ^ m) (2 ^ k), mul_comm (2 ^ m) (2 ^ k)) refl in
    let y : t * 2 ^ k ≡ 2 ^ k * t = mul_comm t (2 ^ k) in
    let z = add-mul t (2 ^ m * d) (2 ^ k) in
    let w : d * (2 ^ k * 2 ^ m) ≡ d * 2 ^ 32 = ap (λ z. d * z) p in
    let a : (t + 2 ^ m * d) * 2 ^ k ≡ d * 2 ^ 32 + 2 ^ k * t = omega arith in
    let u = mul-le (2 ^ k) (t + 1) (2 ^ k) (2 ^ m) (omega arith) (omega arith) in
    let q = mul-add (2 ^ k) t 1 in
    let r = pow_pos k in
    let b : 2 ^ k * t < 2 ^ 32 = omega arith in
    rw a (mod-mul-add d (2 ^ 32) (2 ^ k * t) b)

pub number_moved : (v : Values) (way : Way) (ls : List Lit) (k : ℕ) (fill : Lit) → is_lit_true v fill ≡ false → length ls ≡ 32 → k ≤ 32 → number v (moved_lits way ls k fill) ≡ moved way (number v ls) k
number_moved v Up ls k fill e w h =
    let m : k + (length ls - k) ≡ 32 = omega arith in
    let a = number-append v (replicate k fill) (take (length ls - k) ls) in
    let b = number-replicate v fill e k in
    let c = length-replicate k fill in
    let d = number-parts v (length ls - k) ls (omega arith) in
    let f = number-take_lt v (length ls - k) ls (omega arith) in
    rw d (a ∙ rw (b, c) (zero-add (2 ^ k * number v (take (length ls - k) ls)) ∙ sym (up_word (number v (take (length ls - k) ls)) (number v (drop (length ls - k) ls)) k (length ls - k) m f)))
number_moved v Down ls k fill e w h =
    let a = number-append v (drop k ls) (replicate k fill) in
    let b = number-replicate v fill e k in
    let d = number-parts v k ls (omega arith) in
    let f = number-take_lt v k ls (omega arith) in
    let g : number v ls ≡ number v (drop k ls) * 2 ^ k + number v (take k ls) = omega (arith, mul_comm (2 ^ k) (number v (drop k ls))) in
    let j : 2 ^ length (drop k ls) * number v (replicate k fill) ≡ 0 = ap (λ z. 2 ^ length (drop k ls) * z) b ∙ mul-zero (2 ^ length (drop k ls)) in
    rw g (omega arith ∙ sym (div-mul-add (number v (drop k ls)) (2 ^ k) (number v (take k ls)) f))

moved_more : (way : Way) (n j k : ℕ) → moved way (moved way n j) k ≡ moved way n (j + k)
moved_more Up n j k = mul-mod_first (n * 2 ^ j) (2 ^ k) (2 ^ 32) ∙ ap (λ z. z % 2 ^ 32) (mul_assoc n (2 ^ j) (2 ^ k) ∙ ap (λ z. n * z) (sym (pow-add 2 j k)))
moved_more Down n j k = shr-shr n j k

moved_none : (way : Way) (n : ℕ) → n < 2 ^ 32 → moved way n 0 ≡ n
moved_none Up n h = omega arith
moved_none Down n h = omega arith

pub shift_none : (s : PlainFormula) (way : Way) (a amount : List Lit) → length a ≡ 32 → AreOf s.variables a → MakesBus s s a (moved_by way a amount 0) (32 * 0)
shift_none s way a amount w o = bus_here s a (moved_by way a amount 0) (32 * 0) w o (λ v m. sym (moved_none way (number v a) (number-lt_word v a w)))

pub shift_more : (s mid new : PlainFormula) (way : Way) (a amount r further r2 : List Lit) (i by : ℕ) (d never : Lit) → i < 5 → length amount ≡ 32 → by ≡ (1 * 2 ^ i) % 2 ^ 64 → further ≡ moved_lits way r by never → Makes mid mid never (λ _. false) 0 → MakesBus s mid r (moved_by way a amount i) (32 * i) → MakesBus mid new r2 (λ v. if is_lit_true v (get_or amount i d) then number v further else number v r) 32 → MakesBus s new r2 (moved_by way a amount (i + 1)) (32 * (i + 1))
shift_more s mid new way a amount r further r2 i by d never h w e f n p q =
    bus_bus s mid new r r2 _ _ (moved_by way a amount (i + 1)) (32 * i) 32 (32 * (i + 1)) p q (λ v m g. go v m g (is_lit_true v (get_or amount i d)) refl) (omega arith)
  where
    by_is : by ≡ 2 ^ i
    by_is = e ∙ one_shl i 64 (omega arith)

    below : 2 ^ i ≤ 32
    below = pow-le-pow_right {n = 2} (omega arith) {i = i} {j = 5} (omega arith)

    go : (v : Values) → IsModel v new → number v r ≡ moved_by way a amount i v → (x : Bool) → is_lit_true v (get_or amount i d) ≡ x → (if is_lit_true v (get_or amount i d) then number v further else number v r) ≡ moved_by way a amount (i + 1) v
    go v m g true t =
        let k : number v further ≡ moved way (number v r) (2 ^ i) = rw (f, by_is) (number_moved v way r (2 ^ i) never (n.equal v (kept q.extends v m)) p.width below) in
        let l : number v (take (i + 1) amount) ≡ number v (take i amount) + 2 ^ i = number-take_at v amount i d (omega arith) ∙ rw t (omega arith) in
        rw (t, k, g, l) (moved_more way (number v a) (number v (take i amount)) (2 ^ i))
    go v m g false t =
        let l : number v (take (i + 1) amount) ≡ number v (take i amount) = number-take_at v amount i d (omega arith) ∙ rw t (omega (arith, mul-zero (2 ^ i))) in
        rw (t, g, l) refl

pub near_made : (s s1 new : PlainFormula) (amount a z q : List Lit) (far : Lit) → length amount ≡ 32 → Makes s s1 far (any_true (drop 5 amount)) 27 → MakesBus s1 s1 z (λ _. 0) 0 → MakesBus s1 new q (λ v. if is_lit_true v far then number v z else number v a) 32 → MakesBus s new q (λ v. if nat_lt (number v amount) 32 then number v a else 0) 59
near_made s s1 new amount a z q far w t y u =
    lit_bus s s1 new far q _ _ (λ v. if nat_lt (number v amount) 32 then number v a else 0) 27 32 59 t
    (bus_as s1 new q _ (λ v. if is_lit_true v far then 0 else number v a) 32 32 u (λ v m. ap (λ x. if is_lit_true v far then x else number v a) (y.equal v (kept u.extends v m))) (omega arith))
    (λ v m e. rw e (far_table (number v a) (number v amount) (number v (take 5 amount)) (number v (drop 5 amount)) (number-parts v 5 amount (omega arith)) (number-take_lt v 5 amount (omega arith)))) (omega arith)
  where
    far_table : (a n t d : ℕ) → n ≡ t + 2 ^ 5 * d → t < 2 ^ 5 → (if not (nat_eq d 0) then 0 else a) ≡ (if nat_lt n 32 then a else 0)
    far_table a n t d e h = elim (cases_eq d 0) [
      | inl z ↦ let g : n ≡ t = omega arith in rw (z, g, lt-ltb t 32 (omega arith)) refl
      | inr z ↦ rw (ne_eqb d 0 z, le-ltb n 32 (omega arith)) refl
    ]

-- what stands where the amount is below 32 may take the amount from its low bits
pub low_amount : (v : Values) (amount : List Lit) → length amount ≡ 32 → number v amount < 32 → number v (take 5 amount) ≡ number v amount
low_amount v amount w h =
    let e = number-parts v 5 amount (omega arith) in
    let f = number-take_lt v 5 amount (omega arith) in
    omega arith

pub near_same : (n : ℕ) (x y : ℕ) → (n < 32 → x ≡ y) → (if nat_lt n 32 then x else 0) ≡ (if nat_lt n 32 then y else 0)
near_same n x y e = elim (cases_lt n 32) [
  | inl h ↦ rw (lt-ltb n 32 h) (e h)
  | inr h ↦ rw (le-ltb n 32 h) refl
]

pub shift_made : (s s1 new : PlainFormula) (way : Way) (a amount r q : List Lit) → length amount ≡ 32 → MakesBus s s1 r (moved_by way a amount 5) 160 → MakesBus s1 new q (λ v. if nat_lt (number v amount) 32 then number v r else 0) 59 → MakesBus s new q (λ v. if nat_lt (number v amount) 32 then moved way (number v a) (number v amount) else 0) 219
shift_made s s1 new way a amount r q w p t =
    bus_bus s s1 new r q _ _ (λ v. if nat_lt (number v amount) 32 then moved way (number v a) (number v amount) else 0) 160 59 219 p t
    (λ v m e. near_same (number v amount) (number v r) (moved way (number v a) (number v amount)) (λ h. e ∙ ap (λ n. moved way (number v a) n) (low_amount v amount w h))) (omega arith)

pub shift_fits : (i n : ℕ) → i < 5 → n ≡ 32 → (1 * 2 ^ i) % 2 ^ 64 ≤ n
shift_fits i n h e = let b : 2 ^ i ≤ 2 ^ 5 = pow-le-pow_right {n = 2} (omega arith) {i = i} {j = 5} (omega arith) in omega (arith, one_shl i 64 (omega arith))

pub far_made : (s new : PlainFormula) (amount : List Lit) (r : Lit) → length amount ≡ 32 → Makes s new r (any_true (take (length amount - 5) (drop 5 amount))) (length (take (length amount - 5) (drop 5 amount))) → Makes s new r (any_true (drop 5 amount)) 27
far_made s new amount r w p =
    let l : length (drop 5 amount) ≡ 27 = length-drop 5 amount ∙ omega arith in
    let e : take (length amount - 5) (drop 5 amount) ≡ drop 5 amount = take_all (length amount - 5) (drop 5 amount) (omega arith) in
    let q : Makes s new r (any_true (drop 5 amount)) (length (drop 5 amount)) = subst (λ xs. Makes s new r (any_true xs) (length xs)) e p in
    subst (λ n. Makes s new r (any_true (drop 5 amount)) n) l q
