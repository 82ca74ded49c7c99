-- A draft whose alternatives are well shaped as plain data passes the tests of well-shapedness.
use Rattle.std.proofs.Common.{◌≡◌, ℕ, zero, suc, ◌+◌, ◌<◌, ◌^◌, Bool, true, false, not, ◌&&◌, ◌||◌, List, [], ◌∷◌, ◌++◌, length, map, refl, ap, ◌∙◌, arith, nat_lt, nat_le, ◌==◌, slice_get, unwrap_or}
use Rattle.std.proofs.lemmas.Bool.Decides.{nat_tests}
use Rattle.std.specs.List.{list_all, list_any, zip}
use Rattle.chk_base.specs.declared.sets.Set.{Set}
use Rattle.chk_base.specs.declared.word.Width.{Width}
use Rattle.chk_base.specs.Term.{term_of}
use Rattle.chk_base.specs.Widths.{limit_of}
use Rattle.guard_prog.specs.declared.draft.Alternative.{Alternative}
use Rattle.guard_prog.specs.declared.draft.Control.{Control}
use Rattle.guard_prog.specs.declared.draft.Control.TheVariants.{Goto, Push, Pop, PopPush, Fail}
use Rattle.guard_prog.specs.Drafts.{plain_alternatives, plain_sets}
use Rattle.guard_prog.specs.GuardedRun.{PlainAlternative}
use Rattle.guard_prog.specs.WellShaped.{are_distinct_by, input_fits, may_name, named_points, names_cells, sets_fit, sets_name_cells, starts_fit}
use Rattle.one_stack.proofs.Apart.{AreApart, AreSetsRead, and_true, reads_names}
use Rattle.one_stack.proofs.Fine.{AreGood, Leads}
use Rattle.step_ir.specs.Fits.{Misses}

-- sets
sets_named : (n : ℕ) (ss : List Set) → AreSetsRead n (plain_sets ss) → sets_name_cells n ss ≡ true
sets_named n [] h = refl
sets_named n (s ∷ ss) h =
    let lt = h.0 in
    let here : nat_lt s.cell n ≡ true = grind (arith, nat_tests) in
    and_true (nat_lt s.cell n && names_cells n (term_of s.value)) (sets_name_cells n ss)
    (and_true (nat_lt s.cell n) (names_cells n (term_of s.value)) here (reads_names n (term_of s.value) h.1))
    (sets_named n ss h.2)

not_named : (q : ℕ) (ss : List Set) → Misses q (plain_sets ss) → list_any (λ (y : Set). y.cell == q) ss ≡ false
not_named q [] h = refl
not_named q (s ∷ ss) h =
    let differ = h.0 in
    let here : (s.cell == q) ≡ false = grind (arith, nat_tests) in
    ap (λ b. b || list_any (λ (y : Set). y.cell == q) ss) here ∙ not_named q ss h.1

sets_distinct : (ss : List Set) → AreApart (plain_sets ss) → are_distinct_by (λ (s : Set). s.cell) ss ≡ true
sets_distinct [] h = refl
sets_distinct (s ∷ ss) h =
    and_true (not (list_any (λ (y : Set). y.cell == s.cell) ss)) (are_distinct_by (λ (s : Set). s.cell) ss)
    (ap not (not_named s.cell ss h.0))
    (sets_distinct ss h.1)

-- controls
names_point : (m i q : ℕ) → 0 < q → q < m → may_name m i q ≡ true
names_point m i q some lt =
    let one : nat_lt q m ≡ true = grind (arith, nat_tests) in
    let two : (q == 0) ≡ false = grind (arith, nat_tests) in
    and_true (nat_lt q m) ((i == 0) || not (q == 0)) one (ap (λ b. (i == 0) || not b) two ∙ go (i == 0))
  where
    go : (b : Bool) → (b || true) ≡ true
    go true = refl
    go false = refl

names_points : (m i : ℕ) (c : Control) → Leads m c → list_all (may_name m i) (named_points c) ≡ true
names_points m i (Goto q) h = and_true (may_name m i q) true (names_point m i q h.0 h.1) refl
names_points m i (Push below start) h =
    and_true (may_name m i below) (may_name m i start && true) (names_point m i below h.0 h.1)
    (and_true (may_name m i start) true (names_point m i start h.2 h.3) refl)
names_points m i Pop h = refl
names_points m i (PopPush q) h = and_true (may_name m i q) true (names_point m i q h.0 h.1) refl
names_points m i Fail h = refl

module _ (n m : ℕ) where
  pub controls_pass : (i bound : ℕ) (xs : List Alternative) → AreGood n m bound (plain_alternatives xs) → list_all (λ (a : Alternative). list_all (may_name m i) (named_points a.control)) xs ≡ true
  controls_pass i bound [] h = refl
  controls_pass i bound (x ∷ xs) h =
      and_true (list_all (may_name m i) (named_points x.control)) (list_all (λ (a : Alternative). list_all (may_name m i) (named_points a.control)) xs)
      (names_points m i x.control h.0.leads)
      (controls_pass i (x.label + 1) xs h.2)

  not_labelled : (l bound : ℕ) (xs : List Alternative) → l < bound → AreGood n m bound (plain_alternatives xs) → list_any (λ (y : Alternative). y.label == l) xs ≡ false
  not_labelled l bound [] lt h = refl
  not_labelled l bound (x ∷ xs) lt h =
      let up = h.1 in
      let here : (x.label == l) ≡ false = grind (arith, nat_tests) in
      ap (λ b. b || list_any (λ (y : Alternative). y.label == l) xs) here ∙ not_labelled l (x.label + 1) xs (omega arith) h.2

  pub labels_distinct : (bound : ℕ) (xs : List Alternative) → AreGood n m bound (plain_alternatives xs) → are_distinct_by (λ (a : Alternative). a.label) xs ≡ true
  labels_distinct bound [] h = refl
  labels_distinct bound (x ∷ xs) h =
      and_true (not (list_any (λ (y : Alternative). y.label == x.label) xs)) (are_distinct_by (λ (a : Alternative). a.label) xs)
      (ap not (not_labelled x.label (x.label + 1) xs (omega arith) h.2))
      (labels_distinct (x.label + 1) xs h.2)

  pub labels_within : (bound : ℕ) (xs : List Alternative) → AreGood n m bound (plain_alternatives xs) → list_all (λ (a : Alternative). nat_le 1 a.label && nat_lt a.label (2 ^ 20)) xs ≡ true
  labels_within bound [] h = refl
  labels_within bound (x ∷ xs) h =
      let from = h.0.from in
      let below = h.0.below in
      let one : nat_le 1 x.label ≡ true = grind (arith, nat_tests) in
      let two : nat_lt x.label (2 ^ 20) ≡ true = grind (arith, nat_tests) in
      and_true (nat_le 1 x.label && nat_lt x.label (2 ^ 20)) (list_all (λ (a : Alternative). nat_le 1 a.label && nat_lt a.label (2 ^ 20)) xs)
      (and_true (nat_le 1 x.label) (nat_lt x.label (2 ^ 20)) one two)
      (labels_within (x.label + 1) xs h.2)

  pub cells_pass : (bound : ℕ) (xs : List Alternative) → AreGood n m bound (plain_alternatives xs) → list_all (λ (a : Alternative). names_cells n (term_of a.guard) && sets_fit n a.sets) xs ≡ true
  cells_pass bound [] h = refl
  cells_pass bound (x ∷ xs) h =
      and_true (names_cells n (term_of x.guard) && sets_fit n x.sets) (list_all (λ (a : Alternative). names_cells n (term_of a.guard) && sets_fit n a.sets) xs)
      (and_true (names_cells n (term_of x.guard)) (sets_fit n x.sets) (reads_names n (term_of x.guard) h.0.guard)
      (and_true (are_distinct_by (λ (s : Set). s.cell) x.sets) (sets_name_cells n x.sets) (sets_distinct x.sets h.0.apart) (sets_named n x.sets h.0.read)))
      (cells_pass (x.label + 1) xs h.2)

  pub inputs_pass : (widths : List Width) (bound : ℕ) (xs : List Alternative) → AreGood n m bound (plain_alternatives xs) → list_all (λ (a : Alternative). input_fits widths a.sets a.input) xs ≡ true
  inputs_pass widths bound [] h = refl
  inputs_pass widths bound (x ∷ xs) h =
      and_true (input_fits widths x.sets x.input) (list_all (λ (a : Alternative). input_fits widths a.sets a.input) xs)
      (ap (input_fits widths x.sets) h.0.input)
      (inputs_pass widths (x.label + 1) xs h.2)

-- no plain alternatives, no alternatives
pub none_plain : (xs : List Alternative) → plain_alternatives xs ≡ [] → xs ≡ []
none_plain [] h = refl
none_plain (x ∷ xs) h = absurd (let z : ◌≡◌ {A = List PlainAlternative} (plain_alternatives (x ∷ xs)) [] = h in cc)

-- the point with a number as plain data
pub plain_point : (xss : List (List Alternative)) (i : ℕ) → plain_alternatives (unwrap_or (slice_get xss i) []) ≡ unwrap_or (slice_get (map plain_alternatives xss) i) []
plain_point [] i = refl
plain_point (xs ∷ xss) zero = refl
plain_point (xs ∷ xss) (suc i) = plain_point xss i

-- each start value is below the limit of its width
abbrev pub AreStarts : List Width → List ℕ → Type 0
AreStarts [] [] = Unit {0}
AreStarts (w ∷ ws) (v ∷ vs) = (v < limit_of w) × AreStarts ws vs
AreStarts _ _ = ⊥

pub starts-append : (ws us : List Width) (vs xs : List ℕ) → AreStarts ws vs → AreStarts us xs → AreStarts (ws ++ us) (vs ++ xs)
starts-append [] us [] xs h k = k
starts-append [] us (v ∷ vs) xs h k = absurd h
starts-append (w ∷ ws) us [] xs h k = absurd h
starts-append (w ∷ ws) us (v ∷ vs) xs h k = (h.0, starts-append ws us vs xs h.1 k)

starts_length : (ws : List Width) (vs : List ℕ) → AreStarts ws vs → length ws ≡ length vs
starts_length [] [] h = refl
starts_length [] (v ∷ vs) h = absurd h
starts_length (w ∷ ws) [] h = absurd h
starts_length (w ∷ ws) (v ∷ vs) h = ap suc (starts_length ws vs h.1)

starts_all : (ws : List Width) (vs : List ℕ) → AreStarts ws vs → list_all (λ (p : Width × ℕ). nat_lt p.1 (limit_of p.0)) (zip ws vs) ≡ true
starts_all [] [] h = refl
starts_all [] (v ∷ vs) h = absurd h
starts_all (w ∷ ws) [] h = absurd h
starts_all (w ∷ ws) (v ∷ vs) h =
    let lt = h.0 in
    let here : nat_lt v (limit_of w) ≡ true = grind (arith, nat_tests) in
    and_true (nat_lt v (limit_of w)) (list_all (λ (p : Width × ℕ). nat_lt p.1 (limit_of p.0)) (zip ws vs)) here (starts_all ws vs h.1)

pub starts_pass : (ws : List Width) (vs : List ℕ) → AreStarts ws vs → starts_fit ws vs ≡ true
starts_pass ws vs h =
    let same = starts_length ws vs h in
    let here : (length ws == length vs) ≡ true = grind (arith, nat_tests) in
    and_true (length ws == length vs) (list_all (λ (p : Width × ℕ). nat_lt p.1 (limit_of p.0)) (zip ws vs)) here (starts_all ws vs h)
