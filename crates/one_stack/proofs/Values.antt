-- Values of expressions: over the cells below a number, and over the cells after sets.
use Rattle.std.proofs.Common.{◌≡◌, ℕ, suc, ◌+◌, ◌-◌, ◌<◌, ◌≤◌, ◌%◌, ◌^◌, Bool, true, false, not, ◌&&◌, List, [], ◌∷◌, Some, refl, ap, ap₂, ◌∙◌, arith, nat_lt, nat_le, ◌==◌, if◌then◌else◌}
use Rattle.std.proofs.lemmas.Bool.Decides.{nat_tests}
use Rattle.std.proofs.lemmas.Nat.{and_mask}
use Rattle.std.proofs.Math.Nat.{mod-mod}
use Rattle.std.specs.Prelude.{pos, negsuc}
use Rattle.std.specs.Prelude.{unwrap_or}
use Rattle.chk_base.specs.Operators.{truth, one_if, unary_value, binary_value}
use Rattle.chk_base.specs.Term.{Term, Const, Cell, Pick, Un, Bin, Choose}
use Rattle.chk_base.specs.Widths.{limit_of, read_as, signed_of, unsigned}
use Rattle.chk_base.specs.WordValue.{picked}
use Rattle.chk_base.specs.declared.expr.BinOp.TheVariants as bin
use Rattle.chk_base.specs.declared.word.Width.TheVariants.{W1, W8, W16, W32}
use Rattle.chk_base.specs.declared.word.Width.{Width}
use Rattle.guard_prog.specs.GuardedRun.{value_in, cell_after_sets, value_set}
use Rattle.one_stack.specs.Rules.{read_back, cell_after, pick_after, after}
use Rattle.one_stack.specs.TaskForm.{Reads}

-- the reading of a cell's bits
abbrev pub extended : Width → Bool → ℕ → ℕ
extended w s n = read_as s (record { width = w; bits = n })

-- read without a sign
pub extended_false : (w : Width) (n : ℕ) → extended w false n ≡ n
extended_false w n = refl

-- a test as a number
pub truth-one_if : (b : Bool) → truth (one_if b) ≡ b
truth-one_if true = refl
truth-one_if false = refl

-- a negation
pub negated_true : (n : ℕ) → truth n ≡ true → truth (one_if (n == 0)) ≡ false
negated_true n h = go (n == 0) h
  where
    go : (b : Bool) → not b ≡ true → truth (one_if b) ≡ false
    go false h = refl
    go true h = absurd (let z : false ≡ true = h in cc)

pub negated_false : (n : ℕ) → truth n ≡ false → truth (one_if (n == 0)) ≡ true
negated_false n h = go (n == 0) h
  where
    go : (b : Bool) → not b ≡ false → truth (one_if b) ≡ true
    go true h = refl
    go false h = absurd (let z : true ≡ false = h in cc)

-- a value depends on the cells that are named alone, and on their widths
picked_local : (w w' : ℕ → Width) (n : ℕ) (c d : ℕ → ℕ) (base len : ℕ) (s : Bool) (i : ℕ) → ((q : ℕ) → q < n → w q ≡ w' q) → ((q : ℕ) → q < n → c q ≡ d q) → base + len ≤ n → picked (λ q. record { width = w q; bits = c q }) base len s i ≡ picked (λ q. record { width = w' q; bits = d q }) base len s i
picked_local w w' n c d base len s i wide same within = go (nat_lt i len) refl
  where
    go : (b : Bool) → nat_lt i len ≡ b → (if b then extended (w (base + i)) s (c (base + i)) else 0) ≡ (if b then extended (w' (base + i)) s (d (base + i)) else 0)
    go true e =
        let lt : i < len = grind (arith, nat_tests) in
        let inside : base + i < n = omega arith in
        ap₂ (λ v b. extended v s b) (wide (base + i) inside) (same (base + i) inside)
    go false e = refl

pub val_local : (w w' : ℕ → Width) (n : ℕ) (c d : ℕ → ℕ) (t : Term) → ((q : ℕ) → q < n → w q ≡ w' q) → ((q : ℕ) → q < n → c q ≡ d q) → Reads n t → value_in w c t ≡ value_in w' d t
val_local w w' n c d (Const k) wide same h = refl
val_local w w' n c d (Cell at s) wide same h = ap₂ (λ v b. extended v s b) (wide at h.1) (same at h.1)
val_local w w' n c d (Pick base len s index) wide same h =
    picked_local w w' n c d base len s (value_in w c index) wide same h.2
    ∙ ap (picked (λ q. record { width = w' q; bits = d q }) base len s) (val_local w w' n c d index wide same h.3)
val_local w w' n c d (Un op a) wide same h = ap (unary_value op) (val_local w w' n c d a wide same h)
val_local w w' n c d (Bin op a b) wide same h =
    ap₂ (binary_value op) (val_local w w' n c d a wide same h.0) (val_local w w' n c d b wide same h.1)
val_local w w' n c d (Choose x a b) wide same h =
    ap₂ (λ v z. if truth v then z else value_in w c b) (val_local w w' n c d x wide same h.0) (val_local w w' n c d a wide same h.1)
    ∙ ap (λ z. if truth (value_in w' d x) then value_in w' d a else z) (val_local w w' n c d b wide same h.2)

-- a bit that is read with its sign
bit_back : (m : ℕ) → m < 2 → (2 ^ 32 - m) % 2 ^ 32 ≡ extended W1 true m
bit_back m lt = go (nat_lt m 1) refl
  where
    go : (b : Bool) → nat_lt m 1 ≡ b → (2 ^ 32 - m) % 2 ^ 32 ≡ unsigned (if b then pos m else negsuc (2 - suc m))
    go true e =
        let none : m ≡ 0 = grind (arith, nat_tests) in
        omega arith
    go false e =
        let one : m ≡ 1 = grind (arith, nat_tests) in
        omega arith

-- a word of 32 bits is its own reading
whole_back : (m : ℕ) → m < 2 ^ 32 → m ≡ extended W32 true m
whole_back m lt = go (nat_lt m 2147483648) refl
  where
    go : (b : Bool) → nat_lt m 2147483648 ≡ b → m ≡ unsigned (if b then pos m else negsuc (2 ^ 32 - suc m))
    go true e = refl
    go false e = omega arith

module _ (width : ℕ → Width) where
  -- a value that was set to a cell, as the cell is read
  read_back_is : (c : ℕ → ℕ) (w : Width) (s : Bool) (v : Term) → value_in width c (read_back w s v) ≡ extended w s (value_in width c v % limit_of w)
  read_back_is c W1 false v = and_mask (value_in width c v) 1
  read_back_is c W1 true v =
      ap (λ n. (2 ^ 32 - n) % 2 ^ 32) (and_mask (value_in width c v) 1) ∙ bit_back (value_in width c v % 2) (omega arith)
  read_back_is c W8 false v = refl
  read_back_is c W8 true v = ap (λ m. unsigned (signed_of 8 m)) (mod-mod (value_in width c v) (2 ^ 8))
  read_back_is c W16 false v = refl
  read_back_is c W16 true v = ap (λ m. unsigned (signed_of 16 m)) (mod-mod (value_in width c v) (2 ^ 16))
  read_back_is c W32 false v = ap (λ n. n % 2 ^ 32) (let z : value_in width c v + 0 ≡ value_in width c v = omega arith in z)
  read_back_is c W32 true v =
      ap (λ n. n % 2 ^ 32) (let z : value_in width c v + 0 ≡ value_in width c v = omega arith in z)
      ∙ whole_back (value_in width c v % 2 ^ 32) (omega arith)

  cell_after_is : (c : ℕ → ℕ) (sets : List (ℕ × Term)) (at : ℕ) (s : Bool) → value_in width c (cell_after width sets at s) ≡ extended (width at) s (cell_after_sets width c sets at)
  cell_after_is c [] at s = refl
  cell_after_is c (x ∷ xs) at s = go (x.0 == at) (cell_after_is c xs at s)
    where
      go : (b : Bool) → value_in width c (cell_after width xs at s) ≡ extended (width at) s (cell_after_sets width c xs at) → value_in width c (if b then read_back (width at) s x.1 else cell_after width xs at s) ≡ extended (width at) s (unwrap_or (if b then Some (value_in width c x.1 % limit_of (width at)) else value_set width c xs at) (c at))
      go true ih = read_back_is c (width at) s x.1
      go false ih = ih

  pick_after_is : (c : ℕ → ℕ) (sets : List (ℕ × Term)) (base len : ℕ) (s : Bool) (t : Term) (i : ℕ) → value_in width c t ≡ i → value_in width c (pick_after width sets base len s t) ≡ (if nat_lt i len then extended (width (base + i)) s (cell_after_sets width c sets (base + i)) else 0)
  pick_after_is c [] base len s t i is = ap (λ k. if nat_lt k len then extended (width (base + k)) s (c (base + k)) else 0) is
  pick_after_is c (x ∷ xs) base len s t i is = go (nat_le base x.0 && nat_lt x.0 (base + len)) refl (pick_after_is c xs base len s t i is)
    where
      rest : ℕ
      rest = if nat_lt i len then extended (width (base + i)) s (cell_after_sets width c xs (base + i)) else 0

      want : Bool → ℕ
      want b = if nat_lt i len then extended (width (base + i)) s (unwrap_or (if b then Some (value_in width c x.1 % limit_of (width (base + i))) else value_set width c xs (base + i)) (c (base + i))) else 0

      here : (b : Bool) → (i == (x.0 - base)) ≡ b → base ≤ x.0 → x.0 < base + len → (if truth (one_if b) then value_in width c (read_back (width x.0) s x.1) else rest) ≡ want (x.0 == (base + i))
      here true e low high =
          let is_at : x.0 ≡ base + i = grind (arith, nat_tests) in
          let lt : nat_lt i len ≡ true = grind (arith, nat_tests) in
          let yes_at : (x.0 == (base + i)) ≡ true = grind (arith, nat_tests) in
          rw (yes_at, lt, is_at) (read_back_is c (width (base + i)) s x.1)
      here false e low high =
          let not_at : (x.0 == (base + i)) ≡ false = grind (arith, nat_tests) in
          rw not_at refl

      go : (b : Bool) → (nat_le base x.0 && nat_lt x.0 (base + len)) ≡ b → value_in width c (pick_after width xs base len s t) ≡ rest → value_in width c (if b then Choose (Bin bin.Eq t (Const (x.0 - base))) (read_back (width x.0) s x.1) (pick_after width xs base len s t) else pick_after width xs base len s t) ≡ want (x.0 == (base + i))
      go true e ih =
          let low : base ≤ x.0 = grind (arith, nat_tests) in
          let high : x.0 < base + len = grind (arith, nat_tests) in
          ap₂ (λ v r. if truth (one_if (v == (x.0 - base))) then value_in width c (read_back (width x.0) s x.1) else r) is ih
          ∙ here (i == (x.0 - base)) refl low high
      go false e ih =
          ih ∙ out (nat_lt i len) refl
        where
          out : (b : Bool) → nat_lt i len ≡ b → (if b then extended (width (base + i)) s (cell_after_sets width c xs (base + i)) else 0) ≡ (if b then extended (width (base + i)) s (unwrap_or (if x.0 == (base + i) then Some (value_in width c x.1 % limit_of (width (base + i))) else value_set width c xs (base + i)) (c (base + i))) else 0)
          out true l =
              let not_at : (x.0 == (base + i)) ≡ false = grind (arith, nat_tests) in
              rw not_at refl
          out false l = refl

  -- an expression over the cells after these sets
  pub after_is : (c : ℕ → ℕ) (sets : List (ℕ × Term)) (t : Term) → value_in width c (after width sets t) ≡ value_in width (cell_after_sets width c sets) t
  after_is c sets (Const k) = refl
  after_is c sets (Cell at s) = cell_after_is c sets at s
  after_is c sets (Pick base len s index) =
      pick_after_is c sets base len s (after width sets index) (value_in width (cell_after_sets width c sets) index) (after_is c sets index)
  after_is c sets (Un op a) = ap (unary_value op) (after_is c sets a)
  after_is c sets (Bin op a b) = ap₂ (binary_value op) (after_is c sets a) (after_is c sets b)
  after_is c sets (Choose x a b) =
      ap₂ (λ v w. if truth v then w else value_in width c (after width sets b)) (after_is c sets x) (after_is c sets a)
      ∙ ap (λ w. if truth (value_in width (cell_after_sets width c sets) x) then value_in width (cell_after_sets width c sets) a else w) (after_is c sets b)
