-- A term's value stays where later cells change.
use Rattle.std.proofs.Common.{◌≡◌, ℕ, ◌+◌, ◌<◌, ◌≤◌, Bool, true, false, ◌&&◌, if◌then◌else◌, nat_lt, List, [], ◌∷◌, refl, ap, ◌∙◌, arith}
use Rattle.std.proofs.lemmas.Bool.Decides.{nat_tests}
use Rattle.chk_base.specs.declared.word.Width.{Width}
use Rattle.chk_base.specs.Operators.{truth, unary_value, binary_value}
use Rattle.chk_base.specs.Term.{Term, Const, Cell, Pick, Un, Bin, Choose}
use Rattle.chk_base.specs.WordValue.{chosen, picked}
use Rattle.chk_base.specs.Widths.{read_as}
use Rattle.step_ir.specs.PointStep.{Bits, words, val}
use Rattle.step_ir.specs.Numbers.{put}
use Rattle.lower_law.specs.Items.{guarded}
use Rattle.lower_law.proofs.Walk.{holds}

-- the cells below n are the same

-- the own cells begin at lo
module _ (lo : ℕ) where
  -- the cells that it names are among these
  abbrev pub IsIn : ℕ → Term → Type 0
  IsIn n (Const k) = Unit {0}
  IsIn n (Cell at s) = (lo ≤ at) × (at < n)
  IsIn n (Pick base len s index) = (lo ≤ base) × (base + len ≤ n) × IsIn n index
  IsIn n (Un op a) = IsIn n a
  IsIn n (Bin op a b) = IsIn n a × IsIn n b
  IsIn n (Choose c a b) = IsIn n c × IsIn n a × IsIn n b

  -- the cells from lo on and below n are the same
  pub record SameBelow (n : ℕ) (bits bits' : Bits) : Type 0 where
    pub at : (i : ℕ) → lo ≤ i → i < n → bits' i ≡ bits i

  pub same_here : (n : ℕ) (bits : Bits) → SameBelow n bits bits
  same_here n bits = record { at = λ i l h. refl }

  pub same_on : {n m : ℕ} {bits bits' bits'' : Bits} → n ≤ m → SameBelow n bits bits' → SameBelow m bits' bits'' → SameBelow n bits bits''
  same_on le s t = record { at = λ i l h. t.at i l (omega arith) ∙ s.at i l h }

  pub same_put : (n k v : ℕ) (bits : Bits) → n ≤ k → SameBelow n bits (put bits k v)
  same_put n k v bits le = record { at = λ i l h. grind (arith, nat_tests) }

  pub within_more : (n m : ℕ) (t : Term) → n ≤ m → IsIn n t → IsIn m t
  within_more n m (Const k) le h = tt
  within_more n m (Cell at s) le h = (h.0, omega (arith, h.1))
  within_more n m (Pick base len s i) le h = (h.0, omega (arith, h.1), within_more n m i le h.2)
  within_more n m (Un op a) le h = within_more n m a le h
  within_more n m (Bin op a b) le h = (within_more n m a le h.0, within_more n m b le h.1)
  within_more n m (Choose c a b) le h = (within_more n m c le h.0, within_more n m a le h.1, within_more n m b le h.2)

  abbrev pub AllWithin : ℕ → List Term → Type 0
  AllWithin n [] = Unit {0}
  AllWithin n (t ∷ ts) = IsIn n t × AllWithin n ts

  pub all_more : (n m : ℕ) (ts : List Term) → n ≤ m → AllWithin n ts → AllWithin m ts
  all_more n m [] le h = tt
  all_more n m (t ∷ ts) le h = (within_more n m t le h.0, all_more n m ts le h.1)

  pub guarded_within : (n : ℕ) (g : List Term) (t : Term) → AllWithin n g → IsIn n t → IsIn n (guarded g t)
  guarded_within n [] t h w = w
  guarded_within n (g ∷ gs) t h w = (h.0, guarded_within n gs t h.1 w, tt)

  module _ (width : ℕ → Width) where
    pub picked_same : (base len : ℕ) (s : Bool) (i n : ℕ) (bits bits' : Bits) → lo ≤ base → base + len ≤ n → SameBelow n bits bits' → picked (words width bits') base len s i ≡ picked (words width bits) base len s i
    picked_same base len s i n bits bits' above le same = go (nat_lt i len) refl where
      go : (b : Bool) → nat_lt i len ≡ b → (if b then read_as s (words width bits' (base + i)) else 0) ≡ (if b then read_as s (words width bits (base + i)) else 0)
      go true e = ap (λ b. read_as s (record { width = width (base + i); bits = b })) (same.at (base + i) (omega arith) (grind (arith, nat_tests)))
      go false e = refl

    pub value_same : (t : Term) (n : ℕ) (bits bits' : Bits) → IsIn n t → SameBelow n bits bits' → val width bits' t ≡ val width bits t
    value_same (Const k) n bits bits' h same = refl
    value_same (Cell at s) n bits bits' h same = ap (λ b. read_as s (record { width = width at; bits = b })) (same.at at h.0 h.1)
    value_same (Pick base len s i) n bits bits' h same =
        ap (picked (words width bits') base len s) (value_same i n bits bits' h.2 same) ∙ picked_same base len s (val width bits i) n bits bits' h.0 h.1 same
    value_same (Un op a) n bits bits' h same = ap (unary_value op) (value_same a n bits bits' h same)
    value_same (Bin op a b) n bits bits' h same =
        ap (λ x. binary_value op x (val width bits' b)) (value_same a n bits bits' h.0 same) ∙ ap (binary_value op (val width bits a)) (value_same b n bits bits' h.1 same)
    value_same (Choose c a b) n bits bits' h same =
        let ec = value_same c n bits bits' h.0 same in
        let ea = value_same a n bits bits' h.1 same in
        let eb = value_same b n bits bits' h.2 same in
        ap (λ x. chosen x (val width bits' a) (val width bits' b)) ec ∙ ap (λ x. chosen (val width bits c) x (val width bits' b)) ea ∙ ap (chosen (val width bits c) (val width bits a)) eb

    pub holds_same : (g : List Term) (n : ℕ) (bits bits' : Bits) → AllWithin n g → SameBelow n bits bits' → holds (val width bits') g ≡ holds (val width bits) g
    holds_same [] n bits bits' h same = refl
    holds_same (t ∷ ts) n bits bits' h same =
        ap (λ x. truth x && holds (val width bits') ts) (value_same t n bits bits' h.0 same) ∙ ap (λ b. truth (val width bits t) && b) (holds_same ts n bits bits' h.1 same)

    -- a guarded test isn't 0 exactly where the guard holds and the test isn't 0
    pub guarded_truth : (g : List Term) (t : Term) (bits : Bits) → truth (val width bits (guarded g t)) ≡ (holds (val width bits) g && truth (val width bits t))
    guarded_truth [] t bits = refl
    guarded_truth (g ∷ gs) t bits = go (truth (val width bits g)) (guarded_truth gs t bits) where
      go : (b : Bool) → truth (val width bits (guarded gs t)) ≡ (holds (val width bits) gs && truth (val width bits t)) → truth (if b then val width bits (guarded gs t) else 0) ≡ ((b && holds (val width bits) gs) && truth (val width bits t))
      go true e = e
      go false e = refl
