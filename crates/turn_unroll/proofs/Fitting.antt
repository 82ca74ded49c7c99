-- The alternatives of a well-shaped draft fit it.
use Rattle.std.proofs.Common.{◌≡◌, ℕ, suc, zero, ◌+◌, ◌<◌, ◌≤◌, ◌^◌, Bool, true, false, not, ◌&&◌, ◌||◌, List, [], ◌∷◌, ◌++◌, refl, sym, ◌∙◌, ap, subst, arith, if◌then◌else◌, length, ◌==◌, nat_le, nat_lt, Option, Some, None, slice_get, unwrap_or, max}
use Rattle.std.specs.List.{list_all, list_any}
use Rattle.std.proofs.lemmas.Bool.{and_parts}
use Rattle.std.proofs.lemmas.Bool.Decides.{nat_tests}
use Rattle.chk_base.specs.declared.sets.Set.{Set}
use Rattle.chk_base.specs.declared.word.Width.{Width}
use Rattle.chk_base.specs.declared.word.Width.TheVariants.{W32}
use Rattle.chk_base.specs.Term.{Term, term_of}
use Rattle.chk_base.specs.Widths.{bits_of, limit_of}
use Rattle.chk_base.specs.WordValue.{IsWithin}
use Rattle.guard_prog.specs.declared.draft.Alternative.{Alternative}
use Rattle.guard_prog.specs.declared.draft.Control.{Control}
use Rattle.guard_prog.specs.declared.draft.Control.TheVariants.{Goto, Push, Pop, PopPush, Fail}
use Rattle.guard_prog.specs.declared.draft.Draft.{Draft}
use Rattle.guard_prog.specs.Drafts.{plain_alternatives, plain_of, plain_sets, point_of}
use Rattle.guard_prog.specs.GuardedRun.{PlainAlternative}
use Rattle.guard_prog.specs.WellShaped.{IsWellShaped, are_distinct_by, input_fits, is_width, labels_fit, may_name, named_points, names_cells, sets_fit, sets_name_cells}
use Rattle.guard_prog.proofs.Cells.{within}
use Rattle.turn_law.specs.Sight.{Offer}
use Rattle.turn_law.specs.Unrolled.{offers_from, offers_here}
use Rattle.turn_unroll.specs.Cells.{AreFit, AreSetsWithin, FitsInput, IsFit, width_in}
use Rattle.turn_unroll.specs.Offers.{greatest_of}
use Rattle.turn_unroll.specs.Places.{labels_below}
use Rattle.turn_unroll.specs.Ways.{AreBelow, IsBelow, below_of, offered_choices, target_of, top_of}
use Rattle.turn_unroll.specs.declared.ways.Side.TheVariants.{Top, Below, Label}
use Rattle.turn_unroll.proofs.Joining.{AreNumbered}

both : (a b : Bool) → (a && b) ≡ true → (a ≡ true) × (b ≡ true)
both a b e = and_parts a b e

-- ---- one alternative
sets_within : (n : ℕ) (sets : List Set) → sets_name_cells n sets ≡ true → AreSetsWithin n (plain_sets sets)
sets_within n [] e = tt
sets_within n (s ∷ others) e =
    let p = both (nat_lt s.cell n && names_cells n (term_of s.value)) (sets_name_cells n others) e in
    let q = both (nat_lt s.cell n) (names_cells n (term_of s.value)) p.0 in
    let h = q.0 in
    (grind (arith, nat_tests), within n (term_of s.value) q.1, sets_within n others p.1)

input_within : (widths : List Width) (sets : List Set) (input : Option Width) → input_fits widths sets input ≡ true → FitsInput widths input (plain_sets sets)
input_within widths sets None e = tt
input_within widths [] (Some w) e = tt
input_within widths (s ∷ others) (Some w) e = go (slice_get widths s.cell) refl e
  where
    go : (o : Option Width) → slice_get widths s.cell ≡ o → is_width o w ≡ true → limit_of w ≡ limit_of (width_in widths s.cell)
    go None q e = absurd (cc)
    go (Some x) q e =
        let b : bits_of x ≡ bits_of w = grind (arith, nat_tests) in
        sym (ap (λ n. 2 ^ n) b) ∙ sym (ap (λ z. limit_of (unwrap_or z W32)) q)

top_below : (n i : ℕ) (c : Control) → list_all (may_name n i) (named_points c) ≡ true → IsBelow (top_of c) n × IsBelow (below_of c) n
top_below n i (Goto q) e = let p = both (may_name n i q) true e in let r = (both (nat_lt q n) ((i == 0) || not (q == 0)) p.0).0 in (grind (arith, nat_tests), tt)
top_below n i (Push below start) e =
    let p = both (may_name n i below) (list_all (may_name n i) (start ∷ [])) e in
    let q = both (may_name n i start) true p.1 in
    let r = (both (nat_lt below n) ((i == 0) || not (below == 0)) p.0).0 in
    let s = (both (nat_lt start n) ((i == 0) || not (start == 0)) q.0).0 in
    (grind (arith, nat_tests), grind (arith, nat_tests))
top_below n i Pop e = (tt, tt)
top_below n i (PopPush q) e = let p = both (may_name n i q) true e in let r = (both (nat_lt q n) ((i == 0) || not (q == 0)) p.0).0 in (grind (arith, nat_tests), tt)
top_below n i Fail e = (tt, tt)

-- ---- one point
point_fit : (n i : ℕ) (widths : List Width) (xs : List Alternative)
    → list_all (λ a. list_all (may_name n i) (named_points a.control)) xs ≡ true
    → list_all (λ a. nat_le 1 a.label && nat_lt a.label (2 ^ 20)) xs ≡ true
    → list_all (λ a. names_cells (length widths) (term_of a.guard) && sets_fit (length widths) a.sets) xs ≡ true
    → list_all (λ a. input_fits widths a.sets a.input) xs ≡ true
    → AreFit n widths (plain_alternatives xs)
point_fit n i widths [] c l s p = tt
point_fit n i widths (x ∷ xs) c l s p =
    let c1 = both (list_all (may_name n i) (named_points x.control)) (list_all (λ a. list_all (may_name n i) (named_points a.control)) xs) c in
    let l1 = both (nat_le 1 x.label && nat_lt x.label (2 ^ 20)) (list_all (λ a. nat_le 1 a.label && nat_lt a.label (2 ^ 20)) xs) l in
    let s1 = both (names_cells (length widths) (term_of x.guard) && sets_fit (length widths) x.sets) (list_all (λ a. names_cells (length widths) (term_of a.guard) && sets_fit (length widths) a.sets) xs) s in
    let p1 = both (input_fits widths x.sets x.input) (list_all (λ a. input_fits widths a.sets a.input) xs) p in
    let s2 = both (names_cells (length widths) (term_of x.guard)) (sets_fit (length widths) x.sets) s1.0 in
    let s3 = both (are_distinct_by (λ (s : Set). s.cell) x.sets) (sets_name_cells (length widths) x.sets) s2.1 in
    let least = (both (nat_le 1 x.label) (nat_lt x.label (2 ^ 20)) l1.0).0 in
    let names = top_below n i x.control c1.0 in (
      record {
        label = grind (arith, nat_tests);
        guard = within (length widths) (term_of x.guard) s2.0;
        sets = sets_within (length widths) x.sets s3.1;
        input = input_within widths x.sets x.input p1.0;
        top = names.0;
        below = names.1;
      },
      point_fit n i widths xs c1.1 l1.1 s1.1 p1.1,
    )

-- ---- all points
fit_append : (n : ℕ) (widths : List Width) (os qs : List Offer) → AreFit n widths (offered_choices os) → AreFit n widths (offered_choices qs) → AreFit n widths (offered_choices (os ++ qs))
fit_append n widths [] qs f g = g
fit_append n widths (o ∷ os) qs f g = (f.0, fit_append n widths os qs f.1 g)

here_fit : (n i : ℕ) (widths : List Width) (as' : List PlainAlternative) → AreFit n widths as' → AreFit n widths (offered_choices (offers_here i as'))
here_fit n i widths [] f = tt
here_fit n i widths (a ∷ as') f = (f.0, here_fit n i widths as' f.1)

points_fit : (n i : ℕ) (widths : List Width) (points : List (List Alternative)) → ((q : ℕ) → AreFit n widths (plain_alternatives (unwrap_or (slice_get points q) []))) → AreFit n widths (offered_choices (offers_from i points))
points_fit n i widths [] h = tt
points_fit n i widths (p ∷ points) h = fit_append n widths (offers_here i (plain_alternatives p)) (offers_from (i + 1) points) (here_fit n i widths (plain_alternatives p) (h 0)) (points_fit n (i + 1) widths points (λ q. h (suc q)))

pub draft_fits : (d : Draft) → IsWellShaped d → AreFit (length d.points) d.widths (offered_choices (offers_from 0 d.points))
draft_fits d w = points_fit (length d.points) 0 d.widths d.points (λ q. point_fit (length d.points) q d.widths (point_of d q) (w.controls q) (label q) (w.cells q) (w.inputs q))
  where
    label : (q : ℕ) → list_all (λ a. nat_le 1 a.label && nat_lt a.label (2 ^ 20)) (point_of d q) ≡ true
    label q = (both (are_distinct_by (λ a. a.label) (point_of d q)) (list_all (λ a. nat_le 1 a.label && nat_lt a.label (2 ^ 20)) (point_of d q)) (w.labels q)).1

-- ---- what follows
pub fit_numbered : (n : ℕ) (widths : List Width) (as' : List PlainAlternative) → AreFit n widths as' → AreNumbered as'
fit_numbered n widths [] f = tt
fit_numbered n widths (a ∷ as') f = (f.0.label, fit_numbered n widths as' f.1)

pub fit_top : (n : ℕ) (widths : List Width) (as' : List PlainAlternative) → AreFit n widths as' → AreBelow Top n as'
fit_top n widths [] f = tt
fit_top n widths (a ∷ as') f = (f.0.top, fit_top n widths as' f.1)

pub fit_below : (n : ℕ) (widths : List Width) (as' : List PlainAlternative) → AreFit n widths as' → AreBelow Below n as'
fit_below n widths [] f = tt
fit_below n widths (a ∷ as') f = (f.0.below, fit_below n widths as' f.1)

-- the labels are at most the greatest
labels_most : (m : ℕ) (os : List Offer) → greatest_of os ≤ m → AreNumbered (offered_choices os) → labels_below m (offered_choices os)
labels_most m [] h n = tt
labels_most m (o ∷ os) h n = (n.0, omega arith, labels_most m os (omega arith) n.1)

pub fit_labels : (n : ℕ) (widths : List Width) (os : List Offer) → AreFit n widths (offered_choices os) → labels_below (greatest_of os) (offered_choices os)
fit_labels n widths os f = labels_most (greatest_of os) os (omega arith) (fit_numbered n widths (offered_choices os) f)

pub labels_within : (m n : ℕ) (as' : List PlainAlternative) → m < n → labels_below m as' → AreBelow Label n as'
labels_within m n [] h l = tt
labels_within m n (a ∷ as') h l = (omega (arith, l.1), labels_within m n as' h l.2)

-- ---- labels are small
-- the greatest of two lists is in one of them
greatest_joined : (m : ℕ) (os qs : List Offer) → greatest_of os < m → greatest_of qs < m → greatest_of (os ++ qs) < m
greatest_joined m [] qs h k = k
greatest_joined m (o ∷ os) qs h k = let r = greatest_joined m os qs (omega (arith, h)) k in omega (arith, h, r)

greatest_here : (i : ℕ) (xs : List Alternative) → list_all (λ a. nat_le 1 a.label && nat_lt a.label (2 ^ 20)) xs ≡ true → greatest_of (offers_here i (plain_alternatives xs)) < 2 ^ 20
greatest_here i [] l = omega arith
greatest_here i (x ∷ xs) l =
    let p = both (nat_le 1 x.label && nat_lt x.label (2 ^ 20)) (list_all (λ a. nat_le 1 a.label && nat_lt a.label (2 ^ 20)) xs) l in
    let q = (both (nat_le 1 x.label) (nat_lt x.label (2 ^ 20)) p.0).1 in
    let h : x.label < 2 ^ 20 = grind (arith, nat_tests, q) in
    let r = greatest_here i xs p.1 in
    omega (arith, h, r)

greatest_points : (i : ℕ) (points : List (List Alternative)) → ((q : ℕ) → list_all (λ a. nat_le 1 a.label && nat_lt a.label (2 ^ 20)) (unwrap_or (slice_get points q) []) ≡ true) → greatest_of (offers_from i points) < 2 ^ 20
greatest_points i [] h = omega arith
greatest_points i (p ∷ points) h = greatest_joined (2 ^ 20) (offers_here i (plain_alternatives p)) (offers_from (i + 1) points) (greatest_here i p (h 0)) (greatest_points (i + 1) points (λ q. h (suc q)))

-- the greatest label is below 2 ^ 20
pub draft_few : (d : Draft) → IsWellShaped d → greatest_of (offers_from 0 d.points) < 2 ^ 20
draft_few d w = greatest_points 0 d.points label
  where
    label : (q : ℕ) → list_all (λ a. nat_le 1 a.label && nat_lt a.label (2 ^ 20)) (point_of d q) ≡ true
    label q = (both (are_distinct_by (λ a. a.label) (point_of d q)) (list_all (λ a. nat_le 1 a.label && nat_lt a.label (2 ^ 20)) (point_of d q)) (w.labels q)).1
