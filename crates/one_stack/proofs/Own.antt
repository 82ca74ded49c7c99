-- The sets of an entity's own step, its nexts and its traps.
use Rattle.std.proofs.Common.{◌≡◌, ℕ, zero, suc, ◌+◌, ◌<◌, ◌≤◌, ◌%◌, Bool, true, false, ◌&&◌, List, [], ◌∷◌, ◌++◌, Option, Some, None, refl, sym, ap, ap₂, subst, ◌∙◌, arith, nat_lt, ◌==◌, if◌then◌else◌}
use Rattle.std.proofs.Math.Nat.{mod-eq_of_lt}
use Rattle.std.proofs.lemmas.Bool.Decides.{nat_tests}
use Rattle.std.specs.Prelude.{unwrap_or}
use Rattle.chk_base.specs.Operators.{truth, one_if}
use Rattle.chk_base.specs.Term.{Term, Const, Cell, Pick, Bin, Choose}
use Rattle.chk_base.specs.Widths.{limit_of}
use Rattle.chk_base.specs.WordValue.{picked}
use Rattle.chk_base.specs.declared.expr.BinOp.TheVariants as bin
use Rattle.chk_base.specs.declared.word.Width.{Width}
use Rattle.chk_base.specs.declared.word.Width.TheVariants.{W1, W8, W16, W32}
use Rattle.guard_prog.specs.GuardedRun.{value_in, cell_after_sets, value_set}
use Rattle.guard_prog.specs.declared.draft.Control.{Control}
use Rattle.one_stack.proofs.Choosing.{first_rule}
use Rattle.one_stack.proofs.Values.{val_local, after_is, extended_false, truth-one_if, extended}
use Rattle.one_stack.specs.Rules.{Plan, Rule, plain, tested, any_of, after, next_rules, index_term, write_sets}
use Rattle.one_stack.specs.TaskForm.{Has, FitsNexts, EndsOne, FitsTerms, FitsIndex, FitsTarget, FitsSets, Reads}
use Rattle.step_ir.specs.Fits.{Misses}
use Rattle.step_ir.specs.Numbers.{put}
use Rattle.step_ir.specs.PointStep.{Bits, first, set_all, cell_of, inside, place_in}
use Rattle.step_ir.specs.Points.{PlainTarget, PlainPoint}
use Rattle.step_ir.specs.Setting.{Setting}

-- traps: whether one counts
abbrev pub counts : Option ℕ → Bool
counts None = false
counts (Some n) = true

pub any_of_is : (width : ℕ → Width) (c : ℕ → ℕ) (traps : List (Term × ℕ)) → truth (value_in width c (any_of traps)) ≡ counts (first (value_in width c) traps)
any_of_is width c [] = refl
any_of_is width c (x ∷ xs) = go (truth (value_in width c x.0)) (any_of_is width c xs)
  where
    go : (b : Bool) → truth (value_in width c (any_of xs)) ≡ counts (first (value_in width c) xs) → truth (if truth (one_if b) then 1 else value_in width c (any_of xs)) ≡ counts (if b then Some x.1 else first (value_in width c) xs)
    go true ih = refl
    go false ih = ih

pub first_same : (v w : Term → ℕ) (low : ℕ) (xs : List (Term × ℕ)) → ((t : Term) → Reads low t → v t ≡ w t) → FitsTerms low xs → first v xs ≡ first w xs
first_same v w low [] same h = refl
first_same v w low (x ∷ xs) same h =
    ap₂ (λ n o. if truth n then Some x.1 else o) (same x.0 h.0) (first_same v w low xs same h.1)

pub next_terms : (low : ℕ) (points : List PlainPoint) (xs : List (Term × ℕ)) → FitsNexts low points xs → FitsTerms low xs
next_terms low points [] h = tt
next_terms low points (x ∷ xs) h = (h.0, next_terms low points xs h.2)

-- the next that counts exists
pub record IsNext (v : Term → ℕ) (points : List PlainPoint) (xs : List (Term × ℕ)) : Type 0 where
  pub at : ℕ
  pub first_is : first v xs ≡ Some at
  pub exists : Has points at

pub next_of : (v : Term → ℕ) (low : ℕ) (points : List PlainPoint) (xs : List (Term × ℕ)) → v (Const 1) ≡ 1 → FitsNexts low points xs → EndsOne xs → IsNext v points xs
next_of v low points [] one h e = absurd e
next_of v low points (x ∷ []) one h e =
    let counts : truth (v x.0) ≡ true = ap (λ t. truth (v t)) e ∙ ap truth one in
    record { at = x.1; first_is = ap (λ b. if b then Some x.1 else None) counts; exists = h.1 }
next_of v low points (x ∷ y ∷ ys) one h e = go (truth (v x.0)) refl (next_of v low points (y ∷ ys) one h.2 e)
  where
    go : (b : Bool) → truth (v x.0) ≡ b → IsNext v points (y ∷ ys) → IsNext v points (x ∷ y ∷ ys)
    go true t n = record { at = x.1; first_is = ap (λ b. if b then Some x.1 else first v (y ∷ ys)) t; exists = h.1 }
    go false t n = record { at = n.at; first_is = ap (λ b. if b then Some x.1 else first v (y ∷ ys)) t ∙ n.first_is; exists = n.exists }

-- the rule of the next that counts comes first
pub record Fires (v : Term → ℕ) (rules : List Rule) (sets : List (ℕ × Term)) (control : Control) : Type 0 where
  pub guard : Term
  pub is : first_rule v rules ≡ Some (record { guard = guard; sets = sets; control = control; input = None })

pub next_fires : (app : Setting) (plan : Plan) (width : ℕ → Width) (c : ℕ → ℕ) (own sets : List (ℕ × Term)) (control : ℕ → Control) (xs : List (Term × ℕ)) (n : ℕ) → first (value_in width (cell_after_sets width c own)) xs ≡ Some n → Fires (value_in width c) (next_rules app plan width own sets control xs) (own ++ sets) (control n)
next_fires app plan width c own sets control [] n h = absurd (let z : ◌≡◌ {A = Option ℕ} None (Some n) = h in cc)
next_fires app plan width c own sets control (x ∷ xs) n h =
    go (truth (value_in width (cell_after_sets width c own) x.0)) refl h (next_fires app plan width c own sets control xs n)
  where
    guard_is : truth (value_in width c (tested (after width own x.0))) ≡ truth (value_in width (cell_after_sets width c own) x.0)
    guard_is = truth-one_if (truth (value_in width c (after width own x.0))) ∙ ap truth (after_is width c own x.0)

    go : (b : Bool) → truth (value_in width (cell_after_sets width c own) x.0) ≡ b → (if b then Some x.1 else first (value_in width (cell_after_sets width c own)) xs) ≡ Some n → (first (value_in width (cell_after_sets width c own)) xs ≡ Some n → Fires (value_in width c) (next_rules app plan width own sets control xs) (own ++ sets) (control n)) → Fires (value_in width c) (next_rules app plan width own sets control (x ∷ xs)) (own ++ sets) (control n)
    go true t found ih =
        let same : x.1 ≡ n = cc in
        record {
          guard = tested (after width own x.0);
          is =
              ap (λ b. if b then Some (plain (tested (after width own x.0)) (own ++ sets) (control x.1)) else first_rule (value_in width c) (next_rules app plan width own sets control xs)) (guard_is ∙ t)
              ∙ ap (λ k. Some (plain (tested (after width own x.0)) (own ++ sets) (control k))) same;
        }
    go false t found ih =
        let f = ih found in
        record {
          guard = f.guard;
          is =
              ap (λ b. if b then Some (plain (tested (after width own x.0)) (own ++ sets) (control x.1)) else first_rule (value_in width c) (next_rules app plan width own sets control xs)) (guard_is ∙ t)
              ∙ f.is;
        }

-- no width has more than 32 bits
limit_most : (w : Width) → limit_of w ≤ limit_of W32
limit_most W1 = omega arith
limit_most W8 = omega arith
limit_most W16 = omega arith
limit_most W32 = omega arith

-- cells and widths that agree below a number, and words that fit their cells
pub record IsSameBelow (low : ℕ) (w w' : ℕ → Width) (c d : ℕ → ℕ) : Type 0 where
  pub wide : (q : ℕ) → q < low → w q ≡ w' q
  pub same : (q : ℕ) → q < low → c q ≡ d q
  pub fits : (q : ℕ) → q < low → c q < limit_of (w q)

module _ (low : ℕ) (w w' : ℕ → Width) (c d : ℕ → ℕ) (ok : IsSameBelow low w w' c d) where
  pub same_val : (t : Term) → Reads low t → value_in w c t ≡ value_in w' d t
  same_val t h = val_local w w' low c d t ok.wide ok.same h

  -- one cell is set
  pub one_set : (cell : ℕ) (t : Term) (n : ℕ) → value_in w c t ≡ n → (q : ℕ) → q < low → cell_after_sets w c ((cell, t) ∷ []) q ≡ put d cell (n % limit_of (w' cell)) q
  one_set cell t n is q lt = go (cell == q) refl
    where
      go : (b : Bool) → (cell == q) ≡ b → unwrap_or (if b then Some (value_in w c t % limit_of (w q)) else None) (c q) ≡ (if q == cell then n % limit_of (w' cell) else d q)
      go true e =
          let same : q ≡ cell = grind (arith, nat_tests) in
          let here : (q == cell) ≡ true = grind (arith, nat_tests) in
          ap₂ (λ v k. v % limit_of k) is (ok.wide q lt ∙ ap w' same) ∙ ap (λ b. if b then n % limit_of (w' cell) else d q) (sym here)
      go false e =
          let here : (q == cell) ≡ false = grind (arith, nat_tests) in
          ok.same q lt ∙ ap (λ b. if b then n % limit_of (w' cell) else d q) (sym here)

  pub one_low : (cell : ℕ) (t : Term) → cell < low → (q : ℕ) → low ≤ q → value_set w c ((cell, t) ∷ []) q ≡ None
  one_low cell t lt q le =
      let differ : (cell == q) ≡ false = grind (arith, nat_tests) in
      ap (λ b. if b then Some (value_in w c t % limit_of (w q)) else None) differ

  -- several cells are set, each once
  names_none : (sets : List (ℕ × Term)) (q : ℕ) → Misses q sets → value_set w c sets q ≡ None
  names_none [] q h = refl
  names_none (s ∷ ss) q h =
      let h0 = h.0 in
      let differ : (s.0 == q) ≡ false = grind (arith, nat_tests) in
      ap (λ b. if b then Some (value_in w c s.1 % limit_of (w q)) else value_set w c ss q) differ ∙ names_none ss q h.1

  all_set : (sets : List (ℕ × Term)) (bits : Bits) → FitsSets low sets → (q : ℕ) → q < low → set_all w' (value_in w' d) sets bits q ≡ unwrap_or (value_set w c sets q) (bits q)
  all_set [] bits h q lt = refl
  all_set (s ∷ ss) bits h q lt = all_set ss (put bits s.0 (value_in w' d s.1 % limit_of (w' s.0))) h.3 q lt ∙ go (s.0 == q) refl
    where
      go : (b : Bool) → (s.0 == q) ≡ b → unwrap_or (value_set w c ss q) (if q == s.0 then value_in w' d s.1 % limit_of (w' s.0) else bits q) ≡ unwrap_or (if b then Some (value_in w c s.1 % limit_of (w q)) else value_set w c ss q) (bits q)
      go true e =
          let same : s.0 ≡ q = grind (arith, nat_tests) in
          let here : (q == s.0) ≡ true = grind (arith, nat_tests) in
          ap₂ (λ o b. unwrap_or o (if b then value_in w' d s.1 % limit_of (w' s.0) else bits q)) (names_none ss q (subst (λ k. Misses k ss) same h.2)) here
          ∙ ap₂ (λ v k. v % limit_of k) (sym (same_val s.1 h.1)) (ap w' same ∙ sym (ok.wide q lt))
      go false e =
          let here : (q == s.0) ≡ false = grind (arith, nat_tests) in
          ap (λ b. unwrap_or (value_set w c ss q) (if b then value_in w' d s.1 % limit_of (w' s.0) else bits q)) here

  pub sets_after : (sets : List (ℕ × Term)) → FitsSets low sets → (q : ℕ) → q < low → cell_after_sets w c sets q ≡ set_all w' (value_in w' d) sets d q
  sets_after sets h q lt =
      ap (unwrap_or (value_set w c sets q)) (ok.same q lt) ∙ sym (all_set sets d h q lt)

  pub sets_low : (sets : List (ℕ × Term)) → FitsSets low sets → (q : ℕ) → low ≤ q → value_set w c sets q ≡ None
  sets_low [] h q le = refl
  sets_low (s ∷ ss) h q le =
      let h0 = h.0 in
      let differ : (s.0 == q) ≡ false = grind (arith, nat_tests) in
      ap (λ b. if b then Some (value_in w c s.1 % limit_of (w q)) else value_set w c ss q) differ ∙ sets_low ss h.3 q le

  -- the index of a target
  pub index_is : (o : Option Term) → FitsIndex low o → value_in w c (index_term o) ≡ place_in (value_in w' d) o
  index_is None h = refl
  index_is (Some t) h = same_val t h

  pub read_is : (t : PlainTarget) → FitsTarget low t → value_in w c (Pick t.base t.len false (index_term t.index)) ≡ (if inside (value_in w' d) t then d (cell_of (value_in w' d) t) else 0)
  read_is t h =
      ap (picked (λ q. record { width = w q; bits = c q }) t.base t.len false) (index_is t.index h.2)
      ∙ go (nat_lt (place_in (value_in w' d) t.index) t.len) refl
    where
      go : (b : Bool) → nat_lt (place_in (value_in w' d) t.index) t.len ≡ b → (if b then extended (w (t.base + place_in (value_in w' d) t.index)) false (c (t.base + place_in (value_in w' d) t.index)) else 0) ≡ (if b then d (if b then t.base + place_in (value_in w' d) t.index else t.base) else 0)
      go true e =
          let h1 = h.1 in
          let lt : place_in (value_in w' d) t.index < t.len = grind (arith, nat_tests) in
          let within : t.base + place_in (value_in w' d) t.index < low = omega arith in
          extended_false (w (t.base + place_in (value_in w' d) t.index)) (c (t.base + place_in (value_in w' d) t.index)) ∙ ok.same (t.base + place_in (value_in w' d) t.index) within
      go false e = refl

  -- a value that is read fits a cell of 32 bits
  pub read_small : (t : PlainTarget) → FitsTarget low t → (if inside (value_in w' d) t then d (cell_of (value_in w' d) t) else 0) < limit_of W32
  read_small t h = go (nat_lt (place_in (value_in w' d) t.index) t.len) refl
    where
      go : (b : Bool) → nat_lt (place_in (value_in w' d) t.index) t.len ≡ b → (if b then d (if b then t.base + place_in (value_in w' d) t.index else t.base) else 0) < limit_of W32
      go true e =
          let h1 = h.1 in
          let lt : place_in (value_in w' d) t.index < t.len = grind (arith, nat_tests) in
          let within : t.base + place_in (value_in w' d) t.index < low = omega arith in
          let is = ok.same (t.base + place_in (value_in w' d) t.index) within in
          let fits = ok.fits (t.base + place_in (value_in w' d) t.index) within in
          let wide = limit_most (w (t.base + place_in (value_in w' d) t.index)) in
          omega arith
      go false e = omega arith

  -- a value that fits its cell is set whole
  pub whole_set : (cell : ℕ) (t : Term) (n : ℕ) → value_in w c t ≡ n → n < limit_of (w' cell) → (q : ℕ) → q < low → cell_after_sets w c ((cell, t) ∷ []) q ≡ put d cell n q
  whole_set cell t n is lt q below = one_set cell t n is q below ∙ ap (λ v. put d cell v q) (mod-eq_of_lt lt)

  -- an array after a write
  pub write_low : (base : ℕ) (index v : Term) (n : ℕ) → base + n ≤ low → (q : ℕ) → low ≤ q → value_set w c (write_sets base index v n) q ≡ None
  write_low base index v zero h q le = refl
  write_low base index v (suc j) h q le =
      let differ : ((base + j) == q) ≡ false = grind (arith, nat_tests) in
      ap (λ b. if b then Some (value_in w c (Choose (Bin bin.Eq index (Const j)) v (Cell (base + j) false)) % limit_of (w q)) else value_set w c (write_sets base index v j) q) differ
      ∙ write_low base index v j (omega arith) q le

  write_at : (base : ℕ) (index v : Term) (n i : ℕ) → value_in w c index ≡ i → (q : ℕ) → q < low → unwrap_or (value_set w c (write_sets base index v n) q) (c q) ≡ (if nat_lt i n && (q == (base + i)) then value_in w c v % limit_of (w q) else c q)
  write_at base index v zero i is q in_low =
      let none : nat_lt i 0 ≡ false = grind (arith, nat_tests) in
      ap (λ b. if b && (q == (base + i)) then value_in w c v % limit_of (w q) else c q) (sym none)
  write_at base index v (suc j) i is q in_low = go ((base + j) == q) refl (write_at base index v j i is q in_low)
    where
      element : (b : Bool) → (i == j) ≡ b → q ≡ base + j → (if truth (one_if b) then value_in w c v else extended (w (base + j)) false (c (base + j))) % limit_of (w q) ≡ (if nat_lt i (suc j) && (q == (base + i)) then value_in w c v % limit_of (w q) else c q)
      element true e at =
          let yes_at : (nat_lt i (suc j) && (q == (base + i))) ≡ true = grind (arith, nat_tests) in
          ap (λ b. if b then value_in w c v % limit_of (w q) else c q) (sym yes_at)
      element false e at =
          let not_at : (nat_lt i (suc j) && (q == (base + i))) ≡ false = grind (arith, nat_tests) in
          ap (λ n. n % limit_of (w q)) (extended_false (w (base + j)) (c (base + j)) ∙ ap c (sym at))
          ∙ (mod-eq_of_lt (ok.fits q in_low) ∙ ap (λ b. if b then value_in w c v % limit_of (w q) else c q) (sym not_at))

      go : (b : Bool) → ((base + j) == q) ≡ b → unwrap_or (value_set w c (write_sets base index v j) q) (c q) ≡ (if nat_lt i j && (q == (base + i)) then value_in w c v % limit_of (w q) else c q) → unwrap_or (if b then Some (value_in w c (Choose (Bin bin.Eq index (Const j)) v (Cell (base + j) false)) % limit_of (w q)) else value_set w c (write_sets base index v j) q) (c q) ≡ (if nat_lt i (suc j) && (q == (base + i)) then value_in w c v % limit_of (w q) else c q)
      go true e ih =
          let at : q ≡ base + j = grind (arith, nat_tests) in
          ap (λ n. (if truth (one_if (n == j)) then value_in w c v else extended (w (base + j)) false (c (base + j))) % limit_of (w q)) is
          ∙ element (i == j) refl at
      go false e ih =
          let same : (nat_lt i j && (q == (base + i))) ≡ (nat_lt i (suc j) && (q == (base + i))) = grind (arith, nat_tests) in
          ih ∙ ap (λ b. if b then value_in w c v % limit_of (w q) else c q) same

  pub write_is : (t : PlainTarget) (v : Term) → FitsTarget low t → Reads low v → (q : ℕ) → q < low → cell_after_sets w c (write_sets t.base (index_term t.index) v t.len) q ≡ (if inside (value_in w' d) t then put d (cell_of (value_in w' d) t) (value_in w' d v % limit_of (w' (cell_of (value_in w' d) t))) else d) q
  write_is t v h k q lt =
      write_at t.base (index_term t.index) v t.len (place_in (value_in w' d) t.index) (index_is t.index h.2) q lt
      ∙ go (nat_lt (place_in (value_in w' d) t.index) t.len) (q == (t.base + place_in (value_in w' d) t.index)) refl
    where
      go : (a b : Bool) → (q == (t.base + place_in (value_in w' d) t.index)) ≡ b → (if a && b then value_in w c v % limit_of (w q) else c q) ≡ (if a then put d (if a then t.base + place_in (value_in w' d) t.index else t.base) (value_in w' d v % limit_of (w' (if a then t.base + place_in (value_in w' d) t.index else t.base))) else d) q
      go true true e =
          let same : q ≡ t.base + place_in (value_in w' d) t.index = grind (arith, nat_tests) in
          ap₂ (λ n x. n % limit_of x) (same_val v k) (ok.wide q lt ∙ ap w' same)
          ∙ ap (λ b. if b then value_in w' d v % limit_of (w' (t.base + place_in (value_in w' d) t.index)) else d q) (sym e)
      go true false e =
          ok.same q lt ∙ ap (λ b. if b then value_in w' d v % limit_of (w' (t.base + place_in (value_in w' d) t.index)) else d q) (sym e)
      go false b e = ok.same q lt
