-- Runs that are read from literals.
use Rattle.std.proofs.Common.{◌≡◌, ℕ, suc, zero, ◌+◌, ◌-◌, ◌*◌, ◌<◌, ◌≤◌, ◌^◌, Bool, true, false, List, [], ◌∷◌, ◌++◌, refl, sym, ◌∙◌, ap, subst, arith, if◌then◌else◌, length, ◌==◌, drop, Option, Some, None, slice_get, get_or}
use Rattle.std.specs.List.{slice_index_or}
use Rattle.std.proofs.lemmas.Bool.Decides.{nat_tests}
use Rattle.std.proofs.lemmas.List.{append_assoc, append-nil}
use Rattle.std.proofs.lemmas.Option.{get_or_from_slice_get, slice_get_within}
use Rattle.std.proofs.Math.ListN.{drop_of_length-le}
use Rattle.std.proofs.Math.Seq.{drop-cons}
use Rattle.clause_form.specs.declared.lit.Lit.{Lit}
use Rattle.clause_form.specs.ClauseTruth.{Values, is_lit_true, values_of}
use Rattle.chk_base.specs.declared.word.Width.TheVariants.{W32}
use Rattle.bit_circuit.specs.BusValue.{bit, number}
use Rattle.bit_circuit.proofs.Multiplying.{number-drop_at}
use Rattle.bit_circuit.proofs.Numbers.{number-lt}
use Rattle.turn_law.specs.Description.{turns_read}
use Rattle.turn_law.specs.Padded.{trimmed}
use Rattle.turn_law.specs.Symbol.{first_true, no, nth}
use Rattle.turn_unroll.specs.declared.run.Turn.{Turn}
use Rattle.turn_unroll.specs.Runs.{AreWhole, pair_of, pairs_of}

-- ---- values
-- a variable without a value counts as false
pub unreached : (values : List Bool) (n : ℕ) → (n ≡ 0 → ⊥) → None ≡ slice_get values (n - 1) → false ≡ values_of values n
unreached values n z e = let f : (n == 0) ≡ false = grind (arith, nat_tests, z) in rw f (none values (n - 1) (sym e))
  where
    none : (xs : List Bool) (i : ℕ) → slice_get xs i ≡ None → false ≡ slice_index_or xs i false
    none [] i e = refl
    none (x ∷ xs) zero e = absurd (cc)
    none (x ∷ xs) (suc i) e = none xs i e

-- ---- the first literal that is true
first_step : (v : Values) (row : List Lit) (i : ℕ) (l : Lit) → i < length row → l ≡ nth row i → first_true v (drop i row) ≡ (if is_lit_true v l then 0 else suc (first_true v (drop (suc i) row)))
first_step v row i l h e = ap (first_true v) (drop-cons row i no h ∙ ap (λ x. x ∷ drop (suc i) row) (sym e))

pub first_here : (v : Values) (row : List Lit) (i : ℕ) (l : Lit) → i < length row → l ≡ nth row i → is_lit_true v l ≡ true → first_true v row ≡ i + first_true v (drop i row) → i ≡ first_true v row
first_here v row i l h e t f =
    let z : first_true v (drop i row) ≡ 0 = first_step v row i l h e ∙ ap (λ b. if b then 0 else suc (first_true v (drop (suc i) row))) t in
    omega (arith, f, z)

pub first_later : (v : Values) (row : List Lit) (i : ℕ) (l : Lit) → i < length row → l ≡ nth row i → is_lit_true v l ≡ false → first_true v row ≡ i + first_true v (drop i row) → first_true v row ≡ (i + 1) + first_true v (drop (i + 1) row)
first_later v row i l h e t f =
    let z : first_true v (drop i row) ≡ suc (first_true v (drop (suc i) row)) = first_step v row i l h e ∙ ap (λ b. if b then 0 else suc (first_true v (drop (suc i) row))) t in
    let n : i + 1 ≡ suc i = omega arith in
    let d = ap (λ k. first_true v (drop k row)) n in
    omega (arith, f, z, d)

pub first_never : (v : Values) (row : List Lit) (i : ℕ) → i ≡ length row → first_true v row ≡ i + first_true v (drop i row) → length row ≡ first_true v row
first_never v row i h f =
    let z = ap (first_true v) (drop_of_length-le row (let k : length row ≤ i = omega (arith, h) in k)) in
    omega (arith, f, h, z)

-- ---- the number of a word
number_drop : (v : Values) (k : ℕ) (ls : List Lit) → number v (drop k ls) ≤ number v ls
number_drop v zero [] = omega arith
number_drop v zero (l ∷ ls) = omega arith
number_drop v (suc k) [] = omega arith
number_drop v (suc k) (l ∷ ls) = let h = number_drop v k ls in omega (arith, h)

-- with one more bit
pub record Digit (v : Values) (row : List Lit) (i sum digit : ℕ) : Type 0 where
  pub is : 2 * sum + digit ≡ number v (drop (i - 1) row)
  pub small : 2 * sum + digit < 2 ^ 32

pub digit_more : (v : Values) (row : List Lit) (i sum : ℕ) (l : Lit) → length row ≡ 32 → 0 < i → i ≤ 32 → sum ≡ number v (drop i row) → l ≡ nth row (i - 1) → Digit v row i sum (bit v l)
digit_more v row i sum l n some most e f =
    let h : i - 1 < length row = omega (arith, n, some, most) in
    let s : suc (i - 1) ≡ i = omega (arith, some) in
    let d : number v (drop (i - 1) row) ≡ bit v (nth row (i - 1)) + 2 * number v (drop i row) = number-drop_at v row (i - 1) no h ∙ ap (λ k. bit v (nth row (i - 1)) + 2 * number v (drop k row)) s in
    let b = ap (bit v) f in
    let is : 2 * sum + bit v l ≡ number v (drop (i - 1) row) = omega (arith, d, b, e) in
    let less = number_drop v (i - 1) row in
    let top = subst (λ k. number v row < 2 ^ k) n (number-lt v row) in
    record { is = is; small = omega (arith, is, less, top) }

pub number_none : (v : Values) (row : List Lit) (i : ℕ) → length row ≡ 32 → i ≡ 32 → 0 ≡ number v (drop i row)
number_none v row i n e = sym (ap (number v) (drop_of_length-le row (let k : length row ≤ i = omega (arith, n, e) in k)))

pub number_whole : (v : Values) (row : List Lit) (i sum : ℕ) → i ≡ 0 → sum ≡ number v (drop i row) → sum ≡ number v row
number_whole v row i sum e f = f ∙ ap (λ k. number v (drop k row)) e ∙ whole row
  where
    whole : (ls : List Lit) → number v (drop 0 ls) ≡ number v ls
    whole [] = refl
    whole (x ∷ xs) = refl

-- ---- the turns of both grids
pub read_at : (v : Values) (rows words : List (List Lit)) (t : ℕ) (row word : List Lit) → slice_get rows t ≡ Some row → slice_get words t ≡ Some word → slice_get (turns_read v rows words) t ≡ Some (first_true v row, number v word)
read_at v [] words t row word e f = absurd (cc)
read_at v (x ∷ rows) [] t row word e f = absurd (cc)
read_at v (x ∷ rows) (y ∷ words) zero row word e f =
    let i : x ≡ row = cc in
    let j : y ≡ word = cc in
    cc
read_at v (x ∷ rows) (y ∷ words) (suc t) row word e f = read_at v rows words t row word e f

pub read_here : (v : Values) (rows words : List (List Lit)) (t : ℕ) (row word : List Lit) (label bits : ℕ) → Some row ≡ slice_get rows t → Some word ≡ slice_get words t → label ≡ first_true v row → bits ≡ number v word → Some (label, bits) ≡ slice_get (turns_read v rows words) t
read_here v rows words t row word label bits e f g h = rw (g, h) (sym (read_at v rows words t row word (sym e) (sym f)))

pub read_none : (v : Values) (rows words : List (List Lit)) (t : ℕ) → None ≡ slice_get rows t → None ≡ slice_get (turns_read v rows words) t
read_none v [] words t e = refl
read_none v (x ∷ rows) [] t e = refl
read_none v (x ∷ rows) (y ∷ words) zero e = absurd (cc)
read_none v (x ∷ rows) (y ∷ words) (suc t) e = read_none v rows words t e

pub read_wordless : (v : Values) (rows words : List (List Lit)) (t : ℕ) → None ≡ slice_get words t → None ≡ slice_get (turns_read v rows words) t
read_wordless v [] words t e = refl
read_wordless v (x ∷ rows) [] t e = refl
read_wordless v (x ∷ rows) (y ∷ words) zero e = absurd (cc)
read_wordless v (x ∷ rows) (y ∷ words) (suc t) e = read_wordless v rows words t e

-- there are at most as many turns as rows of labels
read_few : (v : Values) (rows words : List (List Lit)) → length (turns_read v rows words) ≤ length rows
read_few v [] words = omega arith
read_few v (x ∷ rows) [] = omega arith
read_few v (x ∷ rows) (y ∷ words) = omega (arith, read_few v rows words)

-- ---- the run so far
pub record IsRead (cs : List (ℕ × ℕ)) (t : ℕ) (run : List Turn) : Type 0 where
  pub pairs : pairs_of run ++ trimmed (drop t cs) ≡ trimmed cs
  pub whole : AreWhole run

pub run_none : (cs : List (ℕ × ℕ)) (run : List Turn) → run ≡ [] → IsRead cs 0 run
run_none cs run e = rw e (record { pairs = start cs; whole = tt })
  where
    start : (cs : List (ℕ × ℕ)) → trimmed (drop 0 cs) ≡ trimmed cs
    start [] = refl
    start (c ∷ cs) = refl

there : (cs : List (ℕ × ℕ)) (t : ℕ) (c : ℕ × ℕ) → slice_get cs t ≡ Some c → drop t cs ≡ c ∷ drop (suc t) cs
there cs t c e = drop-cons cs t c (slice_get_within cs t c e) ∙ ap (λ x. x ∷ drop (suc t) cs) (get_or_from_slice_get cs t c c e)

pairs-append : (run : List Turn) (t : Turn) → pairs_of (run ++ t ∷ []) ≡ pairs_of run ++ pair_of t ∷ []
pairs-append [] t = refl
pairs-append (x ∷ run) t = ap (λ cs. pair_of x ∷ cs) (pairs-append run t)

whole-append : (run : List Turn) (t : Turn) → AreWhole run → t.input.width ≡ W32 → AreWhole (run ++ t ∷ [])
whole-append [] t w e = (e, tt)
whole-append (x ∷ run) t w e = (w.0, whole-append run t w.1 e)

pub run_more : (cs : List (ℕ × ℕ)) (t : ℕ) (run now : List Turn) (turn : Turn) → IsRead cs t run → Some (pair_of turn) ≡ slice_get cs t → turn.input.width ≡ W32 → (turn.label ≡ 0 → ⊥) → now ≡ run ++ turn ∷ [] → IsRead cs (t + 1) now
run_more cs t run now turn k e w z n = rw n (record { pairs = pairs; whole = whole-append run turn k.whole w })
  where
    front : trimmed (drop t cs) ≡ pair_of turn ∷ trimmed (drop (suc t) cs)
    front = let f : (turn.label == 0) ≡ false = grind (arith, nat_tests, z) in ap trimmed (there cs t (pair_of turn) (sym e)) ∙ ap (λ b. if b then [] else pair_of turn ∷ trimmed (drop (suc t) cs)) f

    pairs : pairs_of (run ++ turn ∷ []) ++ trimmed (drop (t + 1) cs) ≡ trimmed cs
    pairs =
        let s : t + 1 ≡ suc t = omega arith in
        ap (λ k. pairs_of (run ++ turn ∷ []) ++ trimmed (drop k cs)) s ∙ ap (λ xs. xs ++ trimmed (drop (suc t) cs)) (pairs-append run turn)
        ∙ append_assoc (pairs_of run) (pair_of turn ∷ []) (trimmed (drop (suc t) cs)) ∙ ap (λ xs. pairs_of run ++ xs) (sym front) ∙ k.pairs

run_ends : (cs : List (ℕ × ℕ)) (t : ℕ) (run : List Turn) → IsRead cs t run → trimmed (drop t cs) ≡ [] → pairs_of run ≡ trimmed cs
run_ends cs t run k e = sym (append-nil (pairs_of run)) ∙ ap (λ xs. pairs_of run ++ xs) (sym e) ∙ k.pairs

-- the padding begins
pub run_padded : (cs : List (ℕ × ℕ)) (t : ℕ) (run : List Turn) (turn : Turn) → IsRead cs t run → Some (pair_of turn) ≡ slice_get cs t → turn.label ≡ 0 → pairs_of run ≡ trimmed cs
run_padded cs t run turn k e z = let f : (turn.label == 0) ≡ true = ap (λ n. n == 0) z in run_ends cs t run k (ap trimmed (there cs t (pair_of turn) (sym e)) ∙ ap (λ b. if b then [] else pair_of turn ∷ trimmed (drop (suc t) cs)) f)

-- no turn is left
pub run_over : (cs : List (ℕ × ℕ)) (t : ℕ) (run : List Turn) → IsRead cs t run → None ≡ slice_get cs t → pairs_of run ≡ trimmed cs
run_over cs t run k e = run_ends cs t run k (ap trimmed (past cs t (sym e)))
  where
    past : (cs : List (ℕ × ℕ)) (t : ℕ) → slice_get cs t ≡ None → drop t cs ≡ []
    past [] zero e = refl
    past [] (suc t) e = refl
    past (c ∷ cs) zero e = absurd (cc)
    past (c ∷ cs) (suc t) e = past cs t e

pub run_whole : (v : Values) (rows words : List (List Lit)) (t : ℕ) (run : List Turn) → length rows ≤ t → IsRead (turns_read v rows words) t run → pairs_of run ≡ trimmed (turns_read v rows words)
run_whole v rows words t run h k = run_ends (turns_read v rows words) t run k (ap trimmed (drop_of_length-le (turns_read v rows words) (let few = read_few v rows words in let l : length (turns_read v rows words) ≤ t = omega (arith, h, few) in l)))
