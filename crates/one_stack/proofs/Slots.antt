-- The sets of a change, slot by slot.
use Rattle.std.proofs.Common.{◌≡◌, ◌≢◌, ℕ, zero, suc, ◌+◌, ◌<◌, ◌≤◌, ◌%◌, Bool, true, false, List, [], ◌∷◌, ◌++◌, Option, Some, None, refl, ap, ap₂, ◌∙◌, arith, ◌==◌, if◌then◌else◌}
use Rattle.std.proofs.lemmas.Bool.Decides.{nat_tests}
use Rattle.chk_base.specs.Term.{Term}
use Rattle.chk_base.specs.Widths.{limit_of}
use Rattle.chk_base.specs.declared.word.Width.{Width}
use Rattle.guard_prog.specs.GuardedRun.{value_in, value_set}
use Rattle.one_stack.specs.Rules.{Slot, On, Count, Waits, Held, Kept, Plan, Change, collect, set_at, on_set, count_set, waits_set, held_set, kept_set, base_sets, resource_sets, change_sets}
use Rattle.step_ir.specs.Setting.{Setting}

abbrev pub IsValid : Setting → Plan → Slot → Type 0
IsValid app plan (On x) = x < plan.tasks
IsValid app plan (Count t) = t < plan.tasks
IsValid app plan (Waits l i) = (l ≤ app.top) × (i < plan.room l)
IsValid app plan (Held r) = r < plan.resources
IsValid app plan (Kept e i) = (e < plan.tasks) × (i < plan.resources)

-- the slots have cells of their own, above those of the code
pub record IsApart (app : Setting) (plan : Plan) (cells : ℕ) : Type 0 where
  pub above : (s : Slot) → IsValid app plan s → cells ≤ plan.place s
  pub apart : (s u : Slot) → IsValid app plan s → IsValid app plan u → plan.place s ≡ plan.place u → s ≡ u

abbrev pub or_else : Option ℕ → Option ℕ → Option ℕ
or_else None o = o
or_else (Some v) o = Some v

abbrev pub slot_set : Setting → Plan → Change → Slot → Option Term
slot_set app plan c (On x) = on_set c x
slot_set app plan c (Count t) = count_set app plan c t
slot_set app plan c (Waits l i) = waits_set app plan c l i
slot_set app plan c (Held r) = held_set c r
slot_set app plan c (Kept e i) = kept_set app plan c e i

module _ (width : ℕ → Width) (cells : ℕ → ℕ) where
  -- a value as it is set
  abbrev pub as_set : ℕ → Option Term → Option ℕ
  as_set q None = None
  as_set q (Some t) = Some (value_in width cells t % limit_of (width q))

  pub value_set-append : (xs ys : List (ℕ × Term)) (q : ℕ) → value_set width cells (xs ++ ys) q ≡ or_else (value_set width cells xs q) (value_set width cells ys q)
  value_set-append [] ys q = refl
  value_set-append (x ∷ xs) ys q = go (x.0 == q) (value_set-append xs ys q)
    where
      go : (b : Bool) → value_set width cells (xs ++ ys) q ≡ or_else (value_set width cells xs q) (value_set width cells ys q) → (if b then Some (value_in width cells x.1 % limit_of (width q)) else value_set width cells (xs ++ ys) q) ≡ or_else (if b then Some (value_in width cells x.1 % limit_of (width q)) else value_set width cells xs q) (value_set width cells ys q)
      go true ih = refl
      go false ih = ih

  or_else-none : (o : Option ℕ) → or_else o None ≡ o
  or_else-none None = refl
  or_else-none (Some v) = refl

  set_at_is : (q : ℕ) (o : Option Term) → value_set width cells (set_at q o) q ≡ as_set q o
  set_at_is q None = refl
  set_at_is q (Some t) =
      let same : (q == q) ≡ true = grind (arith, nat_tests) in
      ap (λ b. if b then Some (value_in width cells t % limit_of (width q)) else None) same

  set_at_other : (p q : ℕ) (o : Option Term) → p ≢ q → value_set width cells (set_at p o) q ≡ None
  set_at_other p q None h = refl
  set_at_other p q (Some t) h =
      let differ : (p == q) ≡ false = grind (arith, nat_tests) in
      ap (λ b. if b then Some (value_in width cells t % limit_of (width q)) else None) differ

  pub collect_miss : (n : ℕ) (f : ℕ → List (ℕ × Term)) (q : ℕ) → ((j : ℕ) → j < n → value_set width cells (f j) q ≡ None) → value_set width cells (collect n f) q ≡ None
  collect_miss zero f q h = refl
  collect_miss (suc n) f q h =
      let last : n < suc n = omega arith in
      value_set-append (f n) (collect n f) q
      ∙ ap₂ or_else (h n last) (collect_miss n f q (λ j lt. let l : j < suc n = omega arith in h j l))

  pub collect_hit : (n : ℕ) (f : ℕ → List (ℕ × Term)) (q k : ℕ) → k < n → ((j : ℕ) → j < n → j ≢ k → value_set width cells (f j) q ≡ None) → value_set width cells (collect n f) q ≡ value_set width cells (f k) q
  collect_hit zero f q k lt h = absurd (omega arith)
  collect_hit (suc n) f q k lt h = go (n == k) refl (λ l. collect_hit n f q k l (λ j lj d. let l' : j < suc n = omega arith in h j l' d))
    where
      go : (b : Bool) → (n == k) ≡ b → (k < n → value_set width cells (collect n f) q ≡ value_set width cells (f k) q) → value_set width cells (collect (suc n) f) q ≡ value_set width cells (f k) q
      go true e ih =
          let same : n ≡ k = grind (arith, nat_tests) in
          let rest : value_set width cells (collect n f) q ≡ None =
          collect_miss n f q (λ j lj. let l' : j < suc n = omega arith in let d : j ≢ k = λ z. absurd (omega arith) in h j l' d) in
          value_set-append (f n) (collect n f) q
          ∙ (ap (or_else (value_set width cells (f n) q)) rest
          ∙ (or_else-none (value_set width cells (f n) q) ∙ ap (λ j. value_set width cells (f j) q) same))
      go false e ih =
          let differ : n ≢ k = grind (arith, nat_tests) in
          let below : k < n = omega arith in
          let last : n < suc n = omega arith in
          value_set-append (f n) (collect n f) q
          ∙ (ap (λ o. or_else o (value_set width cells (collect n f) q)) (h n last differ)
          ∙ ih below)

  module _ (app : Setting) (plan : Plan) (low : ℕ) (ok : IsApart app plan low) (c : Change) where
    ons : List (ℕ × Term)
    ons = collect plan.tasks (λ x. set_at (plan.place (On x)) (on_set c x))

    -- sets at the places of other slots don't name this cell
    ons_miss : (q : ℕ) → ((x : ℕ) → x < plan.tasks → plan.place (On x) ≢ q) → value_set width cells (collect plan.tasks (λ x. set_at (plan.place (On x)) (on_set c x))) q ≡ None
    ons_miss q h = collect_miss plan.tasks _ q (λ x lt. set_at_other (plan.place (On x)) q (on_set c x) (h x lt))

    counts_miss : (q : ℕ) → ((x : ℕ) → x < plan.tasks → plan.place (Count x) ≢ q) → value_set width cells (collect plan.tasks (λ x. set_at (plan.place (Count x)) (count_set app plan c x))) q ≡ None
    counts_miss q h = collect_miss plan.tasks _ q (λ x lt. set_at_other (plan.place (Count x)) q (count_set app plan c x) (h x lt))

    level_miss : (q l : ℕ) → ((i : ℕ) → i < plan.room l → plan.place (Waits l i) ≢ q) → value_set width cells (collect (plan.room l) (λ i. set_at (plan.place (Waits l i)) (waits_set app plan c l i))) q ≡ None
    level_miss q l h = collect_miss (plan.room l) _ q (λ i lt. set_at_other (plan.place (Waits l i)) q (waits_set app plan c l i) (h i lt))

    waits_miss : (q : ℕ) → ((l i : ℕ) → l ≤ app.top → i < plan.room l → plan.place (Waits l i) ≢ q) → value_set width cells (collect (app.top + 1) (λ l. collect (plan.room l) (λ i. set_at (plan.place (Waits l i)) (waits_set app plan c l i)))) q ≡ None
    waits_miss q h =
        collect_miss (app.top + 1) _ q (λ l lt. level_miss q l (λ i li. let le : l ≤ app.top = omega arith in h l i le li))

    split : (q : ℕ) → value_set width cells (base_sets app plan c) q ≡ or_else (value_set width cells (collect plan.tasks (λ x. set_at (plan.place (On x)) (on_set c x))) q) (or_else (value_set width cells (collect plan.tasks (λ x. set_at (plan.place (Count x)) (count_set app plan c x))) q) (value_set width cells (collect (app.top + 1) (λ l. collect (plan.room l) (λ i. set_at (plan.place (Waits l i)) (waits_set app plan c l i)))) q))
    split q =
        value_set-append _ _ q
        ∙ ap (or_else (value_set width cells (collect plan.tasks (λ x. set_at (plan.place (On x)) (on_set c x))) q)) (value_set-append _ _ q)

    apart : (s u : Slot) → IsValid app plan s → IsValid app plan u → s ≢ u → plan.place s ≢ plan.place u
    apart s u vs vu d e = d (ok.apart s u vs vu e)

    on_at : (x : ℕ) (v : x < plan.tasks) → value_set width cells (base_sets app plan c) (plan.place (On x)) ≡ as_set (plan.place (On x)) (on_set c x)
    on_at x v =
        split (plan.place (On x))
        ∙ (ap₂ or_else
        (collect_hit plan.tasks _ (plan.place (On x)) x v (λ j lj d. set_at_other (plan.place (On j)) (plan.place (On x)) (on_set c j) (apart (On j) (On x) lj v (λ e. d (let e' : On j ≡ On x = e in cc))))
        ∙ set_at_is (plan.place (On x)) (on_set c x))
        (ap₂ or_else
        (counts_miss (plan.place (On x)) (λ t lt. apart (Count t) (On x) lt v (λ e. let e' : Count t ≡ On x = e in cc)))
        (waits_miss (plan.place (On x)) (λ l i le li. apart (Waits l i) (On x) (le, li) v (λ e. let e' : Waits l i ≡ On x = e in cc))))
        ∙ or_else-none (as_set (plan.place (On x)) (on_set c x)))

    count_at : (t : ℕ) (v : t < plan.tasks) → value_set width cells (base_sets app plan c) (plan.place (Count t)) ≡ as_set (plan.place (Count t)) (count_set app plan c t)
    count_at t v =
        split (plan.place (Count t))
        ∙ (ap₂ or_else
        (ons_miss (plan.place (Count t)) (λ x lt. apart (On x) (Count t) lt v (λ e. let e' : On x ≡ Count t = e in cc)))
        (ap₂ or_else
        (collect_hit plan.tasks _ (plan.place (Count t)) t v (λ j lj d. set_at_other (plan.place (Count j)) (plan.place (Count t)) (count_set app plan c j) (apart (Count j) (Count t) lj v (λ e. d (let e' : Count j ≡ Count t = e in cc))))
        ∙ set_at_is (plan.place (Count t)) (count_set app plan c t))
        (waits_miss (plan.place (Count t)) (λ l i le li. apart (Waits l i) (Count t) (le, li) v (λ e. let e' : Waits l i ≡ Count t = e in cc))))
        ∙ or_else-none (as_set (plan.place (Count t)) (count_set app plan c t)))

    waits_at : (l i : ℕ) (v : IsValid app plan (Waits l i)) → value_set width cells (base_sets app plan c) (plan.place (Waits l i)) ≡ as_set (plan.place (Waits l i)) (waits_set app plan c l i)
    waits_at l i v =
        let inside : l < app.top + 1 = omega (arith, v.0) in
        split (plan.place (Waits l i))
        ∙ ap₂ or_else
        (ons_miss (plan.place (Waits l i)) (λ x lt. apart (On x) (Waits l i) lt v (λ e. let e' : On x ≡ Waits l i = e in cc)))
        (ap₂ or_else
        (counts_miss (plan.place (Waits l i)) (λ t lt. apart (Count t) (Waits l i) lt v (λ e. let e' : Count t ≡ Waits l i = e in cc)))
        (collect_hit (app.top + 1) _ (plan.place (Waits l i)) l inside
        (λ j lj d. level_miss (plan.place (Waits l i)) j (λ k lk. let le : j ≤ app.top = omega arith in apart (Waits j k) (Waits l i) (le, lk) v (λ e. d (let e' : Waits j k ≡ Waits l i = e in cc))))
        ∙ (collect_hit (plan.room l) _ (plan.place (Waits l i)) i v.1
        (λ j lj d. set_at_other (plan.place (Waits l j)) (plan.place (Waits l i)) (waits_set app plan c l j) (apart (Waits l j) (Waits l i) (v.0, lj) v (λ e. d (let e' : Waits l j ≡ Waits l i = e in cc))))
        ∙ set_at_is (plan.place (Waits l i)) (waits_set app plan c l i))))

    -- the first three kinds don't name the cells of others
    base_miss : (q : ℕ) → ((x : ℕ) → x < plan.tasks → plan.place (On x) ≢ q) → ((x : ℕ) → x < plan.tasks → plan.place (Count x) ≢ q) → ((l i : ℕ) → l ≤ app.top → i < plan.room l → plan.place (Waits l i) ≢ q) → value_set width cells (base_sets app plan c) q ≡ None
    base_miss q a b d = split q ∙ ap₂ or_else (ons_miss q a) (ap₂ or_else (counts_miss q b) (waits_miss q d))

    helds_miss : (q : ℕ) → ((r : ℕ) → r < plan.resources → plan.place (Held r) ≢ q) → value_set width cells (collect plan.resources (λ r. set_at (plan.place (Held r)) (held_set c r))) q ≡ None
    helds_miss q h = collect_miss plan.resources _ q (λ r lt. set_at_other (plan.place (Held r)) q (held_set c r) (h r lt))

    kept_miss : (q e : ℕ) → ((i : ℕ) → i < plan.resources → plan.place (Kept e i) ≢ q) → value_set width cells (collect plan.resources (λ i. set_at (plan.place (Kept e i)) (kept_set app plan c e i))) q ≡ None
    kept_miss q e h = collect_miss plan.resources _ q (λ i lt. set_at_other (plan.place (Kept e i)) q (kept_set app plan c e i) (h i lt))

    kepts_miss : (q : ℕ) → ((e i : ℕ) → e < plan.tasks → i < plan.resources → plan.place (Kept e i) ≢ q) → value_set width cells (collect plan.tasks (λ e. collect plan.resources (λ i. set_at (plan.place (Kept e i)) (kept_set app plan c e i)))) q ≡ None
    kepts_miss q h = collect_miss plan.tasks _ q (λ e lt. kept_miss q e (λ i li. h e i lt li))

    whole : (q : ℕ) → value_set width cells (change_sets app plan c) q ≡ or_else (value_set width cells (base_sets app plan c) q) (or_else (value_set width cells (collect plan.resources (λ r. set_at (plan.place (Held r)) (held_set c r))) q) (value_set width cells (collect plan.tasks (λ e. collect plan.resources (λ i. set_at (plan.place (Kept e i)) (kept_set app plan c e i)))) q))
    whole q =
        value_set-append (base_sets app plan c) (resource_sets app plan c) q
        ∙ ap (or_else (value_set width cells (base_sets app plan c) q)) (value_set-append _ _ q)

    -- a slot of the first three kinds
    first_three : (s : Slot) → IsValid app plan s → ((r : ℕ) → Held r ≢ s) → ((e i : ℕ) → Kept e i ≢ s) → (o : Option ℕ) → value_set width cells (base_sets app plan c) (plan.place s) ≡ o → value_set width cells (change_sets app plan c) (plan.place s) ≡ o
    first_three s v a b o is =
        whole (plan.place s)
        ∙ (ap₂ or_else is (ap₂ or_else (helds_miss (plan.place s) (λ r lt. apart (Held r) s lt v (a r))) (kepts_miss (plan.place s) (λ e i le li. apart (Kept e i) s (le, li) v (b e i))))
        ∙ or_else-none o)

    -- what is set at the cell of a slot
    pub change_at : (s : Slot) → IsValid app plan s → value_set width cells (change_sets app plan c) (plan.place s) ≡ as_set (plan.place s) (slot_set app plan c s)
    change_at (On x) v =
        first_three (On x) v (λ r e. let z : Held r ≡ On x = e in cc) (λ k i e. let z : Kept k i ≡ On x = e in cc) _ (on_at x v)
    change_at (Count t) v =
        first_three (Count t) v (λ r e. let z : Held r ≡ Count t = e in cc) (λ k i e. let z : Kept k i ≡ Count t = e in cc) _ (count_at t v)
    change_at (Waits l j) v =
        first_three (Waits l j) v (λ r e. let z : Held r ≡ Waits l j = e in cc) (λ k i e. let z : Kept k i ≡ Waits l j = e in cc) _ (waits_at l j v)
    change_at (Held r) v =
        whole (plan.place (Held r))
        ∙ (ap₂ or_else
        (base_miss (plan.place (Held r))
        (λ x lt. apart (On x) (Held r) lt v (λ e. let z : On x ≡ Held r = e in cc))
        (λ x lt. apart (Count x) (Held r) lt v (λ e. let z : Count x ≡ Held r = e in cc))
        (λ l i le li. apart (Waits l i) (Held r) (le, li) v (λ e. let z : Waits l i ≡ Held r = e in cc)))
        (ap₂ or_else
        (collect_hit plan.resources _ (plan.place (Held r)) r v (λ j lj d. set_at_other (plan.place (Held j)) (plan.place (Held r)) (held_set c j) (apart (Held j) (Held r) lj v (λ e. d (let z : Held j ≡ Held r = e in cc))))
        ∙ set_at_is (plan.place (Held r)) (held_set c r))
        (kepts_miss (plan.place (Held r)) (λ k i le li. apart (Kept k i) (Held r) (le, li) v (λ e. let z : Kept k i ≡ Held r = e in cc))))
        ∙ or_else-none (as_set (plan.place (Held r)) (held_set c r)))
    change_at (Kept k i) v =
        whole (plan.place (Kept k i))
        ∙ ap₂ or_else
        (base_miss (plan.place (Kept k i))
        (λ x lt. apart (On x) (Kept k i) lt v (λ e. let z : On x ≡ Kept k i = e in cc))
        (λ x lt. apart (Count x) (Kept k i) lt v (λ e. let z : Count x ≡ Kept k i = e in cc))
        (λ l j le li. apart (Waits l j) (Kept k i) (le, li) v (λ e. let z : Waits l j ≡ Kept k i = e in cc)))
        (ap₂ or_else
        (helds_miss (plan.place (Kept k i)) (λ r lt. apart (Held r) (Kept k i) lt v (λ e. let z : Held r ≡ Kept k i = e in cc)))
        (collect_hit plan.tasks _ (plan.place (Kept k i)) k v.0
        (λ j lj d. kept_miss (plan.place (Kept k i)) j (λ x lx. apart (Kept j x) (Kept k i) (lj, lx) v (λ e. d (let z : Kept j x ≡ Kept k i = e in cc))))
        ∙ (collect_hit plan.resources _ (plan.place (Kept k i)) i v.1
        (λ j lj d. set_at_other (plan.place (Kept k j)) (plan.place (Kept k i)) (kept_set app plan c k j) (apart (Kept k j) (Kept k i) (v.0, lj) v (λ e. d (let z : Kept k j ≡ Kept k i = e in cc))))
        ∙ set_at_is (plan.place (Kept k i)) (kept_set app plan c k i))))

    -- the cells of the code are left alone
    pub change_low : (q : ℕ) → q < low → value_set width cells (change_sets app plan c) q ≡ None
    change_low q lt =
        whole q
        ∙ ap₂ or_else
        (base_miss q
        (λ x l e. let a = ok.above (On x) l in absurd (omega arith))
        (λ x l e. let a = ok.above (Count x) l in absurd (omega arith))
        (λ l i le li e. let a = ok.above (Waits l i) (le, li) in absurd (omega arith)))
        (ap₂ or_else
        (helds_miss q (λ r l e. let a = ok.above (Held r) l in absurd (omega arith)))
        (kepts_miss q (λ k i le li e. let a = ok.above (Kept k i) (le, li) in absurd (omega arith))))
