-- A list with gaps as a store.
use Rattle.std.proofs.Common.{◌≡◌, ℕ, zero, suc, ◌+◌, ◌<◌, ◌≤◌, true, false, Option, None, Some, List, [], ◌∷◌, ◌++◌, ◌==◌, length, get_or, map, set, drop, is_some, refl, sym, ap, ◌∙◌, subst, arith}
use Rattle.std.specs.List.{slice_get, swap, filter}
use Rattle.std.specs.Prelude.{IfSome}
use Rattle.std.proofs.lemmas.Bool.Decides.{nat_tests}
use Rattle.std.proofs.lemmas.List.{set-set}
use Rattle.std.proofs.lemmas.Option.{slice_get-get_or}
use Rattle.clause_form.specs.declared.lit.Lit.{Lit}
use Rattle.clause_form.specs.declared.store.ClauseRef.{ClauseRef}
use Rattle.clause_form.specs.ClauseStore.{Stored, lits_at, AreBefore, RiseFrom, swapped, without, IsCompacted}
use Rattle.clause_form.specs.ListStore.{present, moves_from, packed, joined}

abbrev pub Entries : Type 0
Entries = List (Option (List Lit))

at_low : (k r : ℕ) (es : Entries) → r < k → lits_at (present k es) r ≡ None
at_low k r [] h = refl
at_low k r (None ∷ es) h = at_low (suc k) r es (omega arith)
at_low k r (Some c ∷ es) h = let ih = at_low (suc k) r es (omega arith) in let f : (k == r) ≡ false = grind (arith, nat_tests, h) in rw f ih

pub at_place : (k i : ℕ) (es : Entries) → lits_at (present k es) (k + i) ≡ joined (slice_get es i)
at_place k i [] = refl
at_place k zero (None ∷ es) = at_low (suc k) (k + 0) es (omega arith)
at_place k zero (Some c ∷ es) = let f : (k == k + 0) ≡ true = grind (arith, nat_tests) in rw f refl
at_place k (suc i) (None ∷ es) = let e : k + suc i ≡ suc k + i = omega arith in ap (lits_at (present (suc k) es)) e ∙ at_place (suc k) i es
at_place k (suc i) (Some c ∷ es) =
    let e : k + suc i ≡ suc k + i = omega arith in
    let f : (k == k + suc i) ≡ false = grind (arith, nat_tests) in
    rw f (ap (lits_at (present (suc k) es)) e ∙ at_place (suc k) i es)

pub at_start : (r : ℕ) (es : Entries) → lits_at (present 0 es) r ≡ joined (slice_get es r)
at_start r es = let e : 0 + r ≡ r = omega arith in ap (lits_at (present 0 es)) (sym e) ∙ at_place 0 r es

pub some_there : (r : ℕ) (es : Entries) → is_some (joined (slice_get es r)) ≡ true → r < length es
some_there r [] h = absurd (cc)
some_there zero (e ∷ es) h = omega arith
some_there (suc r) (e ∷ es) h = let ih = some_there r es h in omega arith

pub before : (k r : ℕ) (es : Entries) → k + length es ≤ r → AreBefore (present k es) r
before k r [] h = tt
before k r (None ∷ es) h = before (suc k) r es (omega arith)
before k r (Some c ∷ es) h = (omega arith, before (suc k) r es (omega arith))

pub present_push : (k : ℕ) (es : Entries) (c : List Lit) → present k (es ++ Some c ∷ []) ≡ present k es ++ record { at = record { 0 = k + length es }; lits = c } ∷ []
present_push k [] c = let e : k ≡ k + 0 = omega arith in ap (λ n. let s : Stored = record { at = record { 0 = n }; lits = c } in s ∷ []) e
present_push k (None ∷ es) c =
    let e : suc k + length es ≡ k + suc (length es) = omega arith in
    present_push (suc k) es c ∙ ap (λ n. present (suc k) es ++ record { at = record { 0 = n }; lits = c } ∷ []) e
present_push k (Some x ∷ es) c =
    let e : suc k + length es ≡ k + suc (length es) = omega arith in
    ap (λ y. record { at = record { 0 = k }; lits = x } ∷ y) (present_push (suc k) es c ∙ ap (λ n. present (suc k) es ++ record { at = record { 0 = n }; lits = c } ∷ []) e)

pub swapped_at : (k i a b : ℕ) (es : Entries) (c : List Lit) → joined (slice_get es i) ≡ Some c → swapped (present k es) (k + i) a b ≡ present k (set es i (Some (swap c a b)))
swapped_at k i a b [] c h = absurd (cc)
swapped_at k zero a b (None ∷ es) c h = absurd (cc)
swapped_at k zero a b (Some x ∷ es) c h =
    let s : x ≡ c = cc in
    let f : (k == k + 0) ≡ true = grind (arith, nat_tests) in
    rw f (ap (λ y. record { at = record { 0 = k }; lits = swap y a b } ∷ present (suc k) es) s)
swapped_at k (suc i) a b (None ∷ es) c h = let e : k + suc i ≡ suc k + i = omega arith in ap (λ n. swapped (present (suc k) es) n a b) e ∙ swapped_at (suc k) i a b es c h
swapped_at k (suc i) a b (Some x ∷ es) c h =
    let e : k + suc i ≡ suc k + i = omega arith in
    let f : (k == k + suc i) ≡ false = grind (arith, nat_tests) in
    rw f (ap (λ y. record { at = record { 0 = k }; lits = x } ∷ y) (ap (λ n. swapped (present (suc k) es) n a b) e ∙ swapped_at (suc k) i a b es c h))

pub swapped_start : (r a b : ℕ) (es : Entries) (c : List Lit) → joined (slice_get es r) ≡ Some c → swapped (present 0 es) r a b ≡ present 0 (set es r (Some (swap c a b)))
swapped_start r a b es c h = let e : 0 + r ≡ r = omega arith in ap (λ n. swapped (present 0 es) n a b) (sym e) ∙ swapped_at 0 r a b es c h

pub without_at : (k i : ℕ) (es : Entries) → is_some (joined (slice_get es i)) ≡ true → without (present k es) (k + i) ≡ present k (set es i None)
without_at k i [] h = absurd (cc)
without_at k zero (None ∷ es) h = absurd (cc)
without_at k zero (Some x ∷ es) h = let f : (k == k + 0) ≡ true = grind (arith, nat_tests) in rw f refl
without_at k (suc i) (None ∷ es) h = let e : k + suc i ≡ suc k + i = omega arith in ap (without (present (suc k) es)) e ∙ without_at (suc k) i es h
without_at k (suc i) (Some x ∷ es) h =
    let e : k + suc i ≡ suc k + i = omega arith in
    let f : (k == k + suc i) ≡ false = grind (arith, nat_tests) in
    rw f (ap (λ y. record { at = record { 0 = k }; lits = x } ∷ y) (ap (without (present (suc k) es)) e ∙ without_at (suc k) i es h))

pub without_start : (r : ℕ) (es : Entries) → is_some (joined (slice_get es r)) ≡ true → without (present 0 es) r ≡ present 0 (set es r None)
without_start r es h = let e : 0 + r ≡ r = omega arith in ap (without (present 0 es)) (sym e) ∙ without_at 0 r es h

same_lits : (k n : ℕ) (es : Entries) → map (λ s. s.lits) (present n (packed es)) ≡ map (λ s. s.lits) (present k es)
same_lits k n [] = refl
same_lits k n (None ∷ es) = same_lits (suc k) n es
same_lits k n (Some c ∷ es) = ap (λ y. c ∷ y) (same_lits (suc k) (suc n) es)

moved_from : (k n : ℕ) (es : Entries) → map (λ m. m.0) (moves_from k n es) ≡ map (λ s. s.at) (present k es)
moved_from k n [] = refl
moved_from k n (None ∷ es) = moved_from (suc k) n es
moved_from k n (Some c ∷ es) = ap (λ y. record { 0 = k } ∷ y) (moved_from (suc k) (suc n) es)

moved_to : (k n : ℕ) (es : Entries) → map (λ m. m.1) (moves_from k n es) ≡ map (λ s. s.at) (present n (packed es))
moved_to k n [] = refl
moved_to k n (None ∷ es) = moved_to (suc k) n es
moved_to k n (Some c ∷ es) = ap (λ y. record { 0 = n } ∷ y) (moved_to (suc k) (suc n) es)

-- the references of a list with gaps rise
present_rise : (k : ℕ) (es : Entries) → RiseFrom k (present k es)
present_rise k [] = tt
present_rise k (None ∷ es) = rise_less k (suc k) (present (suc k) es) (omega arith) (present_rise (suc k) es)
  where
    rise_less : (k n : ℕ) (ss : List Stored) → k ≤ n → RiseFrom n ss → RiseFrom k ss
    rise_less k n [] h r = tt
    rise_less k n (s ∷ ss) h r = (omega (arith, h, r.0), r.1)
present_rise k (Some c ∷ es) = (omega arith, present_rise (suc k) es)

pub compacted : (es : Entries) → IsCompacted (present 0 es) (present 0 (packed es)) (moves_from 0 0 es)
compacted es = record { lits = same_lits 0 0 es; order = present_rise 0 (packed es); from = moved_from 0 0 es; to = moved_to 0 0 es }

pub packed_filter : (es : Entries) → filter is_some es ≡ packed es
packed_filter [] = refl
packed_filter (None ∷ es) = packed_filter es
packed_filter (Some c ∷ es) = ap (λ y. Some c ∷ y) (packed_filter es)

-- how far the moves have come
pub record IsMoving (entries : Entries) (moves : List (ClauseRef × ClauseRef)) (k n : ℕ) : Type 0 where
  pub low : n ≤ k
  pub rest : moves_from 0 0 entries ≡ moves ++ moves_from k n (drop k entries)

pub found_at : (es : Entries) (now : List Stored) (r : ℕ) → present 0 es ≡ now → lits_at now r ≡ joined (slice_get es r)
found_at es now r e = ap (λ x. lits_at x r) (sym e) ∙ at_start r es

pub fits_at : (es : Entries) (now : List Stored) (r : ℕ) → present 0 es ≡ now → is_some (lits_at now r) ≡ true → is_some (joined (slice_get es r)) ≡ true
fits_at es now r e h = ap is_some (sym (found_at es now r e)) ∙ h

pub swapped_if : (r a b : ℕ) (es new : Entries) → is_some (joined (slice_get es r)) ≡ true → IfSome (joined (slice_get es r)) (λ c. new ≡ set es r (Some (swap c a b))) → present 0 new ≡ swapped (present 0 es) r a b
swapped_if r a b es new h s = go (joined (slice_get es r)) refl h s
  where
    go : (o : Option (List Lit)) → joined (slice_get es r) ≡ o → is_some o ≡ true → IfSome o (λ c. new ≡ set es r (Some (swap c a b))) → present 0 new ≡ swapped (present 0 es) r a b
    go None f h s = absurd (cc)
    go (Some c) f h s = ap (present 0) s ∙ sym (swapped_start r a b es c f)

pub pushed_at : (es new : Entries) (now : List Stored) (n : ℕ) (c l : List Lit) → present 0 es ≡ now → n ≡ length es → c ≡ l → new ≡ es ++ Some c ∷ [] → present 0 new ≡ now ++ record { at = record { 0 = n }; lits = l } ∷ []
pushed_at es new now n c l e f g h =
    let z : 0 + length es ≡ n = omega (arith, f) in
    ap (present 0) h ∙ present_push 0 es c
    ∙ ap (λ k. present 0 es ++ record { at = record { 0 = k }; lits = c } ∷ []) z
    ∙ ap (λ y. present 0 es ++ record { at = record { 0 = n }; lits = y } ∷ []) g
    ∙ ap (λ x. x ++ record { at = record { 0 = n }; lits = l } ∷ []) e

pub before_at : (es : Entries) (now : List Stored) (n : ℕ) → present 0 es ≡ now → n ≡ length es → AreBefore now n
before_at es now n e f = subst (λ x. AreBefore x n) e (before 0 n es (omega (arith, f)))

pub swap_done : (es new : Entries) (k i j : ℕ) (e mid : Option (List Lit)) (lits w : List Lit) → k < length es → e ≡ get_or es k e → e ≡ Some lits → w ≡ swap lits i j → new ≡ set (set es k mid) k (Some w) → IfSome (joined (slice_get es k)) (λ c. new ≡ set es k (Some (swap c i j)))
swap_done es new k i j e mid lits w h a b g f =
    let q = slice_get-get_or es k e h in
    let s : slice_get es k ≡ Some (Some lits) = q ∙ ap (λ x. Some x) (sym a ∙ b) in
    subst (λ o. IfSome (joined o) (λ c. new ≡ set es k (Some (swap c i j)))) (sym s) (f ∙ set-set es k mid (Some w) ∙ ap (λ x. set es k (Some x)) g)

pub swap_none : (es new : Entries) (k i j : ℕ) (e : Option (List Lit)) → k < length es → e ≡ get_or es k e → (e ≡ None) → IfSome (joined (slice_get es k)) (λ c. new ≡ set es k (Some (swap c i j)))
swap_none es new k i j e h a b =
    let q = slice_get-get_or es k e h in
    let s : slice_get es k ≡ Some None = q ∙ ap (λ x. Some x) (sym a ∙ b) in
    subst (λ o. IfSome (joined o) (λ c. new ≡ set es k (Some (swap c i j)))) (sym s) tt
