-- What a well-shaped draft owes, point by point.
use Rattle.std.proofs.Common.{◌≡◌, ℕ, suc, zero, ◌<◌, ◌≤◌, Bool, true, false, ◌&&◌, if◌then◌else◌, ◌==◌, length, refl, List, [], ap, arith, unwrap_or, nat_lt}
use Rattle.std.proofs.lemmas.Bool.{and_parts}
use Rattle.std.proofs.lemmas.Bool.Decides.{nat_tests}
use Rattle.std.proofs.lemmas.Option.{slice_get_past}
use Rattle.guard_prog.specs.declared.draft.Alternative.{Alternative}
use Rattle.guard_prog.specs.declared.draft.Draft.{Draft}
use Rattle.guard_prog.specs.Drafts.{point_of}
use Rattle.guard_prog.specs.WellShaped.{sizes_fit, first_fits, idle_fits, controls_fit, labels_fit, cells_fit, inputs_fit, point_fits, IsWellShaped, IsFirstBreak}

-- the tests of a point together
abbrev fits_by : (i : ℕ) (whole controls labels cells inputs : Bool) → Bool
fits_by i whole controls labels cells inputs = (if i == 0 then whole else true) && (controls && (labels && (cells && inputs)))

-- what the tests of a point say when they pass together
record Fits (i : ℕ) (w a b c d : Bool) : Type 0 where
  whole : i ≡ 0 → w ≡ true
  controls : a ≡ true
  labels : b ≡ true
  cells : c ≡ true
  inputs : d ≡ true

whole_of : (i : ℕ) (whole : Bool) → (if i == 0 then whole else true) ≡ true → i ≡ 0 → whole ≡ true
whole_of zero whole e z = e
whole_of (suc i) whole e z = absurd (omega (arith, z))

parts : (i : ℕ) (w a b c d : Bool) → fits_by i w a b c d ≡ true → Fits i w a b c d
parts i w a b c d e =
    let f = and_parts (if i == 0 then w else true) (a && (b && (c && d))) e in
    let g = and_parts a (b && (c && d)) f.1 in
    let h = and_parts b (c && d) g.1 in
    let k = and_parts c d h.1 in
    record { whole = whole_of i w f.0; controls = g.0; labels = h.0; cells = k.0; inputs = k.1 }

-- a draft whose points break no condition is well shaped
pub well_shaped : (d : Draft) → ((i : ℕ) → point_fits d i ≡ true) → IsWellShaped d
well_shaped d fit =
    let of = λ (i : ℕ). parts i (sizes_fit d && (first_fits d && idle_fits d)) (controls_fit d i) (labels_fit d i) (cells_fit d i) (inputs_fit d i) (fit i) in
    let whole = and_parts (sizes_fit d) (first_fits d && idle_fits d) ((of 0).whole refl) in
    let rest = and_parts (first_fits d) (idle_fits d) whole.1 in
    record {
      sizes = whole.0;
      first = rest.0;
      idle = rest.1;
      controls = λ i. (of i).controls;
      labels = λ i. (of i).labels;
      cells = λ i. (of i).cells;
      inputs = λ i. (of i).inputs;
    }

joined : (i : ℕ) (s f w a b c d : Bool) → s ≡ true → f ≡ true → w ≡ true → a ≡ true → b ≡ true → c ≡ true → d ≡ true → fits_by i (s && (f && w)) a b c d ≡ true
joined i s f w a b c d e1 e2 e3 e4 e5 e6 e7 = rw (e1, e2, e3, e4, e5, e6, e7) (go (i == 0))
  where
    go : (z : Bool) → ((if z then true else true) && true) ≡ true
    go true = refl
    go false = refl

-- no point of a well-shaped draft breaks a condition
pub breaks_none : (d : Draft) → IsWellShaped d → (i : ℕ) → point_fits d i ≡ true
breaks_none d w i = joined i (sizes_fit d) (first_fits d) (idle_fits d) (controls_fit d i) (labels_fit d i) (cells_fit d i) (inputs_fit d i) w.sizes w.first w.idle (w.controls i) (w.labels i) (w.cells i) (w.inputs i)

-- a draft with a point that breaks a condition isn't well shaped
pub not_well_shaped : (d : Draft) (i : ℕ) → IsFirstBreak d i → ¬ IsWellShaped d
not_well_shaped d i b w = let e = breaks_none d w i in let f = b.broken in absurd (cc)

-- a point beyond the list has no alternative
pub point_of-past : (d : Draft) (i : ℕ) → length d.points ≤ i → point_of d i ≡ []
point_of-past d i past = ap (λ o. unwrap_or {T = List Alternative} o []) (slice_get_past d.points i past)

-- so it breaks no condition
pub fits_past : (d : Draft) (i : ℕ) → length d.points ≤ i → 0 < i → point_fits d i ≡ true
fits_past d i past above = rw (point_of-past d i past) (go (i == 0) (grind (arith, nat_tests, above)))
  where
    go : (z : Bool) → z ≡ false → ((if z then sizes_fit d && (first_fits d && idle_fits d) else true) && true) ≡ true
    go true e = absurd (cc)
    go false e = refl

-- where the points of the list break no condition, none does
pub well_shaped_below : (d : Draft) (n : ℕ) → length d.points ≤ n → 0 < n → ((k : ℕ) → k < n → point_fits d k ≡ true) → IsWellShaped d
well_shaped_below d n past some below = well_shaped d (λ k. go k (nat_lt k n) refl)
  where
    go : (k : ℕ) (b : Bool) → nat_lt k n ≡ b → point_fits d k ≡ true
    go k true e = below k (let h : nat_lt k n ≡ true = e in grind (arith, nat_tests))
    go k false e = let h : n ≤ k = grind (arith, nat_tests) in fits_past d k (omega arith) (omega arith)
