-- From a conflict back to the first unique implication point.
use Rattle.std.proofs.Common.{◌≡◌, ℕ, suc, ◌-◌, ◌<◌, ◌≤◌, Bool, true, false, not, Option, None, Some, List, [], ◌∷◌, ◌++◌, ◌==◌, ◌&&◌, if◌then◌else◌, ◌⊎◌, inl, inr, length, is_none, reverse, refl, sym, ap, ◌∙◌, subst, count_by, arith}
use Rattle.std.specs.List.{slice_get}
use Rattle.std.proofs.lemmas.Bool.Decides.{nat_tests}
use Rattle.std.proofs.lemmas.List.{reverse-append}
use Rattle.std.proofs.lemmas.Option.{slice_get_within}
use Rattle.clause_form.specs.declared.lit.Lit.{Lit}
use Rattle.clause_form.specs.Literals.{negation, has}
use Rattle.clause_form.specs.DerivedLine.{clause_at, unfalse, option_unfalse, follow, closes, is_empty}
use Rattle.clause_form.specs.LearnedLine.{IsConsistent, has_true, is_open, is_settled, is_closed}
use Rattle.clause_form.proofs.Negations.{same_lit, negation-negation, negation_other}
use Rattle.clause_form.proofs.Sets.{has_self, unfalse_has, unfalse_none, unfalse_same, each_has}
use Rattle.clause_solver.specs.declared.trail.Entry.{Entry}
use Rattle.clause_solver.specs.Trail.{lits_of, decisions, below, is_newest, AreFresh, IsTrail, HasReason}
use Rattle.clause_solver.specs.Analysis.{Falsifies, IsAnalysis, IsPoint}
use Rattle.clause_solver.specs.Resolvent.{newest_count, IsResolvent, IsPart, Adds}
use Rattle.clause_solver.specs.Propagation.{IsConflict}
use Rattle.clause_solver.proofs.Counting.{count_found}
use Rattle.clause_solver.proofs.Adding.{newest_count_mono}

-- no literal of a trail is set twice
pub trail_fresh : (n : ℕ) (cs : List (List Lit)) (t : List Entry) → IsTrail n cs t → AreFresh t
trail_fresh n cs [] i = tt
trail_fresh n cs (e ∷ es) i = (i.0.unset, trail_fresh n cs es i.1)

-- and none together with its negation
pub trail_consistent : (n : ℕ) (cs : List (List Lit)) (t : List Entry) → IsTrail n cs t → IsConsistent (lits_of t)
trail_consistent n cs [] i l h = refl
trail_consistent n cs (e ∷ es) i l h = go (λ p. trail_consistent n cs es i.1 l p) (e.lit.0 == l.0) refl (e.lit.0 == (negation l).0) refl
  where
    go : (has (lits_of es) l ≡ true → has (lits_of es) (negation l) ≡ false) → (a : Bool) → (e.lit.0 == l.0) ≡ a → (b : Bool) → (e.lit.0 == (negation l).0) ≡ b → has (lits_of (e ∷ es)) (negation l) ≡ false
    go ih true f b g =
        let s : has (lits_of es) (negation l) ≡ false = ap (λ y. has (lits_of es) (negation y)) (sym (same_lit e.lit l (grind (arith, nat_tests, f)))) ∙ i.0.other in
        let o = negation_other l in
        grind (arith, nat_tests, f, s, o)
    go ih false f true g =
        let back : negation e.lit ≡ l = ap negation (same_lit e.lit (negation l) (grind (arith, nat_tests, g))) ∙ negation-negation l in
        let s : has (lits_of es) l ≡ false = ap (has (lits_of es)) (sym back) ∙ i.0.other in
        absurd (grind (arith, f, h, s))
    go ih false f false g = let r = ih (grind (arith, f, h)) in grind (arith, g, r)

-- what was set before the last decision is closed over the clauses
pub closed_below : (n : ℕ) (cs : List (List Lit)) (t : List Entry) → IsTrail n cs t → 0 < decisions t → is_closed (lits_of (below t)) cs ≡ true
closed_below n cs [] i h = absurd (omega arith)
closed_below n cs (e ∷ es) i h = go (λ p. closed_below n cs es i.1 p) e.reason i.0.why h
  where
    go : (0 < decisions es → is_closed (lits_of (below es)) cs ≡ true) → (r : Option ℕ) → HasReason cs (lits_of es) e.lit r → 0 < (if is_none r then suc (decisions es) else decisions es) → is_closed (lits_of (if is_none r then es else below es)) cs ≡ true
    go ih None w h = w
    go ih (Some r) w h = ih h

-- and is a trail
pub trail_below : (n : ℕ) (cs : List (List Lit)) (t : List Entry) → IsTrail n cs t → IsTrail n cs (below t)
trail_below n cs [] i = tt
trail_below n cs (e ∷ es) i = go (trail_below n cs es i.1) (is_none e.reason)
  where
    go : IsTrail n cs (below es) → (b : Bool) → IsTrail n cs (if b then es else below es)
    go ih true = i.1
    go ih false = ih

-- and a part of the whole
pub below_part : (t : List Entry) → IsPart (lits_of (below t)) (lits_of t)
below_part [] l h = h
below_part (e ∷ es) l h = go (λ p. below_part es l p) (is_none e.reason) h
  where
    go : (has (lits_of (below es)) l ≡ true → has (lits_of es) l ≡ true) → (b : Bool) → has (lits_of (if b then es else below es)) l ≡ true → has (lits_of (e ∷ es)) l ≡ true
    go ih true h = grind (arith, h)
    go ih false h = let i = ih h in grind (arith, i)

settled_get : (set : List Lit) (cs : List (List Lit)) (k : ℕ) (c : List Lit) → is_closed set cs ≡ true → slice_get cs k ≡ Some c → is_settled set c ≡ true
settled_get set [] k c h e = absurd (cc)
settled_get set (x ∷ xs) Prim.Native.Nat.zero c h e =
    let s : x ≡ c = cc in
    subst (λ y. is_settled set y ≡ true) s (grind (arith, h))
settled_get set (x ∷ xs) (suc k) c h e = settled_get set xs k c (grind (arith, h)) e

-- a number of a clause is from 1 to their count
pub clause_within : (cs : List (List Lit)) (n : ℕ) (c : List Lit) → clause_at cs n ≡ Some c → (0 < n) × (n ≤ length cs) × (slice_get cs (n - 1) ≡ Some c)
clause_within cs n c e = go (n == 0) refl
  where
    go : (b : Bool) → (n == 0) ≡ b → (0 < n) × (n ≤ length cs) × (slice_get cs (n - 1) ≡ Some c)
    go true f = absurd (let g : None ≡ Some c = subst (λ b. (if b then None else slice_get cs (n - 1)) ≡ Some c) f e in cc)
    go false f =
        let g : slice_get cs (n - 1) ≡ Some c = subst (λ b. (if b then None else slice_get cs (n - 1)) ≡ Some c) f e in
        let p : 0 < n = grind (arith, nat_tests, f) in
        let w = slice_get_within cs (n - 1) c g in
        (p, omega (arith, w, p), g)

-- a numbered clause is settled by a closed set
pub settled_at : (set : List Lit) (cs : List (List Lit)) (n : ℕ) (c : List Lit) → is_closed set cs ≡ true → clause_at cs n ≡ Some c → is_settled set c ≡ true
settled_at set cs n c h e = settled_get set cs (n - 1) c h (clause_within cs n c e).2

newest_count_some : (m : List Lit) (t : List Entry) (l : Lit) → is_newest t l ≡ true → has m l ≡ true → 0 < newest_count m t
newest_count_some m [] l n h = absurd (cc)
newest_count_some m (x ∷ xs) l n h = go (λ p. newest_count_some m xs l p h) (x.lit.0 == l.0) refl (is_none x.reason) refl
  where
    go : (is_newest xs l ≡ true → 0 < newest_count m xs) → (a : Bool) → (x.lit.0 == l.0) ≡ a → (b : Bool) → is_none x.reason ≡ b → 0 < newest_count m (x ∷ xs)
    go ih true f b g = let s = ap (has m) (same_lit x.lit l (grind (arith, nat_tests, f))) in grind (arith, s, h)
    go ih false f true g = absurd (grind (arith, f, g, n))
    go ih false f false g = let i = ih (grind (arith, f, g, n)) in grind (arith, g, i)

newest_count_none : (m : List Lit) (t : List Entry) (l : Lit) → newest_count m t ≡ 0 → is_newest t l ≡ true → has m l ≡ true → ⊥
newest_count_none m t l z n h = let s = newest_count_some m t l n h in omega (arith, s, z)

-- each literal of a clause of which nothing is left is false
pub all_false : (set c : List Lit) (l : Lit) → unfalse set c ≡ [] → has c l ≡ true → has set (negation l) ≡ true
all_false set c l u h =
    let a = unfalse_has set c l in
    let b = ap (λ x. has x l) u in
    grind (arith, a, b, h)

has_no_true : (set c : List Lit) → ((l : Lit) → has c l ≡ true → has set l ≡ false) → has_true set c ≡ false
has_no_true set [] h = refl
has_no_true set (x ∷ xs) h =
    let ih = has_no_true set xs (λ l i. h l (grind (arith, i))) in
    let a = h x (has_self x xs) in
    grind (arith, ih, a)

-- an open literal isn't false
pub first_open : (set : List Lit) (l : Lit) → is_open set l ≡ true → has set (negation l) ≡ false
first_open set l h = go (has set l) (has set (negation l)) h
  where
    go : (a b : Bool) → (not a && not b) ≡ true → b ≡ false
    go a false h = refl
    go true true h = absurd (cc)
    go false true h = absurd (cc)

-- the analysis begins
pub begins : (n : ℕ) (cs : List (List Lit)) (t : List Entry) (number : ℕ) (c m k : List Lit) (amount : ℕ) → IsTrail n cs t → 0 < decisions t → IsConflict cs t number → clause_at cs number ≡ Some c → Adds t [] [] c m k amount → IsAnalysis cs (lits_of t) (below t) t m k amount (number ∷ [])
begins n cs t number c m k amount i d con at adds =
    record {
      is_trail = (n, i);
      part = λ l h. h;
      consistent = trail_consistent n cs t i;
      start = refl;
      resolvent = adds.resolvent;
      some = let a = adds.resolvent.count in let b = some in omega (arith, a, b);
      derives = λ set meets part. derives set meets;
    }
  where
    left : unfalse (lits_of t) c ≡ []
    left = let e : Some (unfalse (lits_of t) c) ≡ Some [] = ap (option_unfalse (lits_of t)) (sym at) ∙ con in cc

    denied : (l : Lit) → has c l ≡ true → has (lits_of t) (negation l) ≡ true
    denied l h = all_false (lits_of t) c l left h

    derives : (set : List Lit) → Falsifies t m k set → follow true (option_unfalse set (clause_at cs number)) (λ l. closes cs (l ∷ set) []) ≡ true
    derives set meets = subst (λ o. follow true (option_unfalse set o) (λ l. closes cs (l ∷ set) []) ≡ true) (sym at)
        (subst (λ u. follow true (Some u) (λ l. closes cs (l ∷ set) []) ≡ true) (sym none) refl)
      where
        by : (l : Lit) → ((is_newest t (negation l) ≡ true) × (has m (negation l) ≡ true)) ⊎ (has k l ≡ true) → has set (negation l) ≡ true
        by l (inl p) = meets.newest (negation l) p.0 p.1
        by l (inr p) = meets.older l p

        none : unfalse set c ≡ []
        none = unfalse_none set c (each_has (λ l. has set (negation l) ≡ true) c (λ l h. by l (adds.covered l h (denied l h))))

    low : (l : Lit) → has c l ≡ true → has (lits_of (below t)) l ≡ false
    low l h = go (has (lits_of (below t)) l) refl
      where
        go : (b : Bool) → has (lits_of (below t)) l ≡ b → has (lits_of (below t)) l ≡ false
        go true e = absurd (let z : true ≡ false = sym (denied l h) ∙ trail_consistent n cs t i l (below_part t l e) in cc)
        go false e = e

    two : 2 ≤ count_by (is_open (lits_of (below t))) c
    two =
        let s = settled_at (lits_of (below t)) cs number c (closed_below n cs t i d) at in
        let f = has_no_true (lits_of (below t)) c low in
        grind (arith, nat_tests, s, f)

    some : 0 < newest_count m t
    some = pick (count_found (is_open (lits_of (below t))) c (omega (arith, two)))
      where
        pick : (l : Lit) × (has c l ≡ true) × (is_open (lits_of (below t)) l ≡ true) → 0 < newest_count m t
        pick r = met (adds.covered r.0 r.1 (denied r.0 r.1))
          where
            met : ((is_newest t (negation r.0) ≡ true) × (has m (negation r.0) ≡ true)) ⊎ (has k r.0 ≡ true) → 0 < newest_count m t
            met (inl p) = newest_count_some m t (negation r.0) p.0 p.1
            met (inr p) = absurd (let z : true ≡ false = sym (adds.resolvent.older r.0 p) ∙ first_open (lits_of (below t)) r.0 r.2 in cc)

-- while a seen literal of the current level is left, one that isn't seen is no decision
pub not_decision : (e : Entry) (es : List Entry) (m : List Lit) → has m e.lit ≡ false → 0 < newest_count m (e ∷ es) → is_none e.reason ≡ false
not_decision e es m h s = go (is_none e.reason) refl
  where
    go : (b : Bool) → is_none e.reason ≡ b → is_none e.reason ≡ false
    go true f = absurd (grind (arith, f, h, s))
    go false f = f

pub not_last : (e : Entry) (es : List Entry) (m : List Lit) → 1 < newest_count m (e ∷ es) → is_none e.reason ≡ false
not_last e es m s = go (is_none e.reason) refl (has m e.lit) refl
  where
    go : (b : Bool) → is_none e.reason ≡ b → (x : Bool) → has m e.lit ≡ x → is_none e.reason ≡ false
    go true f true g = absurd (grind (arith, f, g, s))
    go true f false g = absurd (grind (arith, f, g, s))
    go false f x g = f

newest_tail : (e : Entry) (es : List Entry) (l : Lit) → is_newest (e ∷ es) l ≡ true → (e.lit.0 == l.0) ≡ false → is_newest es l ≡ true
newest_tail e es l h g = go (is_none e.reason) refl
  where
    go : (b : Bool) → is_none e.reason ≡ b → is_newest es l ≡ true
    go true f = absurd (grind (arith, f, g, h))
    go false f = grind (arith, f, g, h)

differs : (e : Entry) (es : List Entry) (l : Lit) → has (lits_of es) e.lit ≡ false → has (lits_of es) l ≡ true → (e.lit.0 == l.0) ≡ false
differs e es l f h = go (e.lit.0 == l.0) refl
  where
    go : (b : Bool) → (e.lit.0 == l.0) ≡ b → (e.lit.0 == l.0) ≡ false
    go true g = absurd (let z : true ≡ false = sym h ∙ ap (has (lits_of es)) (sym (same_lit e.lit l (grind (arith, nat_tests, g)))) ∙ f in cc)
    go false g = g

-- the resolvent on a trail, when its newest literal is taken out
pub resolvent_tail : (e : Entry) (es : List Entry) (m k : List Lit) (amount less : ℕ) → has (lits_of es) e.lit ≡ false → is_none e.reason ≡ false → IsResolvent (e ∷ es) m k amount → less ≡ newest_count m es → IsResolvent es m k less
resolvent_tail e es m k amount less f r i c =
    record {
      count = c;
      cover = λ l h s. go l s (i.cover l h (grind (arith, s)));
      older = λ l h. let a = i.older l h in subst (λ t. has (lits_of t) (negation l) ≡ true) same a;
      signs = i.signs;
      distinct = i.distinct;
    }
  where
    same : below (e ∷ es) ≡ below es
    same = ap (λ b. if b then es else below es) r

    go : (l : Lit) → has (lits_of es) l ≡ true → (is_newest (e ∷ es) l ≡ true) ⊎ (has k (negation l) ≡ true) → (is_newest es l ≡ true) ⊎ (has k (negation l) ≡ true)
    go l s (inl n) = inl (newest_tail e es l n (differs e es l f s))
    go l s (inr p) = inr p

-- a literal that isn't seen is passed over
pub passes : (cs : List (List Lit)) (whole : List Lit) (old es : List Entry) (e : Entry) (m k : List Lit) (amount : ℕ) (hints : List ℕ) → IsAnalysis cs whole old (e ∷ es) m k amount hints → has m e.lit ≡ false → IsAnalysis cs whole old es m k amount hints
passes cs whole old es e m k amount hints a h =
    record {
      is_trail = (a.is_trail.0, a.is_trail.1.1);
      part = λ l p. a.part l (grind (arith, p));
      consistent = a.consistent;
      start = sym (ap (λ b. if b then es else below es) r) ∙ a.start;
      resolvent = resolvent_tail e es m k amount amount a.is_trail.1.0.unset r a.resolvent (let c = a.resolvent.count in grind (arith, c, h, r));
      some = a.some;
      derives = λ set meets part. a.derives set (up set meets) part;
    }
  where
    r : is_none e.reason ≡ false
    r = not_decision e es m h (let c = a.resolvent.count in let s = a.some in omega (arith, c, s))

    up : (set : List Lit) → Falsifies es m k set → Falsifies (e ∷ es) m k set
    up set meets = record { newest = λ l n i. meets.newest l (newest_tail e es l n (other l i (e.lit.0 == l.0) refl)) i; older = meets.older }
      where
        other : (l : Lit) → has m l ≡ true → (b : Bool) → (e.lit.0 == l.0) ≡ b → (e.lit.0 == l.0) ≡ false
        other l i true g = absurd (let z : true ≡ false = sym i ∙ ap (has m) (sym (same_lit e.lit l (grind (arith, nat_tests, g)))) ∙ h in cc)
        other l i false g = g

-- the last seen literal of the level is the point
pub stops : (cs : List (List Lit)) (whole : List Lit) (old es : List Entry) (e : Entry) (m k : List Lit) (amount : ℕ) (hints : List ℕ) → IsAnalysis cs whole old (e ∷ es) m k amount hints → has m e.lit ≡ true → amount ≡ 1 → IsPoint cs whole old es k hints e.lit
stops cs whole old es e m k amount hints a h one =
    record {
      is_trail = (a.is_trail.0, a.is_trail.1.1);
      set = a.part e.lit (has_self e.lit (lits_of es));
      newer = a.is_trail.1.0.unset;
      other = a.is_trail.1.0.other;
      older = λ l i. subst (λ t. has (lits_of t) (negation l) ≡ true) a.start (a.resolvent.older l i);
      start = λ l i. older l (subst (λ t. has (lits_of t) l ≡ true) (sym a.start) i);
      distinct = a.resolvent.distinct;
      part = λ l p. a.part l (grind (arith, p));
      consistent = a.consistent;
      derives = λ set p q part. a.derives set (meets set p q) part;
    }
  where
    older : (l : Lit) → has (lits_of (below (e ∷ es))) l ≡ true → has (lits_of es) l ≡ true
    older l i = go (is_none e.reason) i
      where
        go : (b : Bool) → has (lits_of (if b then es else below es)) l ≡ true → has (lits_of es) l ≡ true
        go true i = i
        go false i = below_part es l i

    no_more : (l : Lit) → is_newest (e ∷ es) l ≡ true → has m l ≡ true → (b : Bool) → (e.lit.0 == l.0) ≡ b → e.lit ≡ l
    no_more l n i true g = same_lit e.lit l (grind (arith, nat_tests, g))
    no_more l n i false g = go (is_none e.reason) refl
      where
        go : (b : Bool) → is_none e.reason ≡ b → e.lit ≡ l
        go true f = absurd (grind (arith, f, g, n))
        go false f =
            let c = a.resolvent.count in
            let z : newest_count m es ≡ 0 = grind (arith, c, h, f, one) in
            absurd (newest_count_none m es l z (newest_tail e es l n g) i)

    meets : (set : List Lit) → has set e.lit ≡ true → ((l : Lit) → has k l ≡ true → has set (negation l) ≡ true) → Falsifies (e ∷ es) m k set
    meets set p q = record { newest = λ l n i. subst (λ y. has set y ≡ true) (no_more l n i (e.lit.0 == l.0) refl) p; older = q }

-- what closes has a hint
pub closes_some : (cs : List (List Lit)) (set : List Lit) (hints : List ℕ) → closes cs set hints ≡ true → is_empty hints ≡ false
closes_some cs set [] h = absurd (cc)
closes_some cs set (x ∷ xs) h = refl

-- a literal is replaced by what made it true
pub resolves : (cs : List (List Lit)) (whole : List Lit) (old es : List Entry) (e : Entry) (m k m' k' : List Lit) (amount more : ℕ) (hints : List ℕ) (r : ℕ) (c : List Lit) → IsAnalysis cs whole old (e ∷ es) m k amount hints → has m e.lit ≡ true → 1 < amount → e.reason ≡ Some r → clause_at cs r ≡ Some c → Adds es m k c m' k' more → IsAnalysis cs whole old es m' k' more (hints ++ r ∷ [])
resolves cs whole old es e m k m' k' amount more hints r c a h two reason at adds =
    record {
      is_trail = (a.is_trail.0, a.is_trail.1.1);
      part = λ l p. a.part l (grind (arith, p));
      consistent = a.consistent;
      start = sym (ap (λ b. if b then es else below es) named) ∙ a.start;
      resolvent = adds.resolvent;
      some =
          let d = a.resolvent.count in
          let n = newest_count_mono m m' es adds.more_seen in
          let g = adds.resolvent.count in
          let left : suc (newest_count m es) ≡ amount = grind (arith, d, h, named) in
          omega (arith, n, g, left, two);
      derives = λ set meets part. subst (λ x. closes cs set x ≡ true) (sym (reverse-append hints (r ∷ []))) (derives set meets part);
    }
  where
    named : is_none e.reason ≡ false
    named = ap is_none reason

    left : unfalse (lits_of es) c ≡ e.lit ∷ []
    left =
        let w : HasReason cs (lits_of es) e.lit (Some r) = subst (HasReason cs (lits_of es) e.lit) reason a.is_trail.1.0.why in
        let f : Some (unfalse (lits_of es) c) ≡ Some (e.lit ∷ []) = ap (option_unfalse (lits_of es)) (sym at) ∙ w in
        cc

    here : has whole e.lit ≡ true
    here = a.part e.lit (has_self e.lit (lits_of es))

    derives : (set : List Lit) → Falsifies es m' k' set → IsPart set whole → closes cs set (r ∷ reverse hints) ≡ true
    derives set meets part =
        subst (λ b. follow b (option_unfalse set (clause_at cs r)) (λ l. closes cs (l ∷ set) (reverse hints)) ≡ true) (sym (closes_some cs (e.lit ∷ set) (reverse hints) rest))
        (subst (λ o. follow false (option_unfalse set o) (λ l. closes cs (l ∷ set) (reverse hints)) ≡ true) (sym at)
        (subst (λ u. follow false (Some u) (λ l. closes cs (l ∷ set) (reverse hints)) ≡ true) (sym (unfalse_same set (lits_of es) c (each_has (λ l. has set (negation l) ≡ has (lits_of es) (negation l)) c agree) ∙ left)) rest))
      where
        by : (l : Lit) → ((is_newest es (negation l) ≡ true) × (has m' (negation l) ≡ true)) ⊎ (has k' l ≡ true) → has set (negation l) ≡ true
        by l (inl p) = meets.newest (negation l) p.0 p.1
        by l (inr p) = meets.older l p

        -- the literal that the clause set isn't false
        unless : (l : Lit) → e.lit ≡ l → (b : Bool) → has set (negation l) ≡ b → has set (negation l) ≡ false
        unless l s true g = absurd (let z : true ≡ false = sym (part (negation l) g) ∙ a.consistent l (subst (λ y. has whole y ≡ true) s here) in cc)
        unless l s false g = g

        agree : (l : Lit) → has c l ≡ true → has set (negation l) ≡ has (lits_of es) (negation l)
        agree l i = go (has (lits_of es) (negation l)) refl
          where
            go : (b : Bool) → has (lits_of es) (negation l) ≡ b → has set (negation l) ≡ has (lits_of es) (negation l)
            go true f = by l (adds.covered l i f) ∙ sym f
            go false f =
                let u = unfalse_has (lits_of es) c l in
                let v = ap (λ x. has x l) left in
                unless l (same_lit e.lit l (grind (arith, nat_tests, u, v, i, f))) (has set (negation l)) refl ∙ sym f

        up : Falsifies (e ∷ es) m k (e.lit ∷ set)
        up = record { newest = λ l n i. new l n i (e.lit.0 == l.0) refl; older = λ l i. let p = meets.older l (adds.more_lower l i) in grind (arith, p) }
          where
            new : (l : Lit) → is_newest (e ∷ es) l ≡ true → has m l ≡ true → (b : Bool) → (e.lit.0 == l.0) ≡ b → has (e.lit ∷ set) l ≡ true
            new l n i true g = grind (arith, g)
            new l n i false g = let p = meets.newest l (newest_tail e es l n g) (adds.more_seen l i) in grind (arith, p)

        whole_part : (l : Lit) → has (e.lit ∷ set) l ≡ true → (b : Bool) → (e.lit.0 == l.0) ≡ b → has whole l ≡ true
        whole_part l i true g = subst (λ y. has whole y ≡ true) (same_lit e.lit l (grind (arith, nat_tests, g))) here
        whole_part l i false g = part l (grind (arith, g, i))

        rest : closes cs (e.lit ∷ set) (reverse hints) ≡ true
        rest = a.derives (e.lit ∷ set) up (λ l i. whole_part l i (e.lit.0 == l.0) refl)

-- a reason is the number of a clause
pub reason_within : (cs : List (List Lit)) (whole : List Lit) (old es : List Entry) (e : Entry) (m k : List Lit) (amount : ℕ) (hints : List ℕ) (r : ℕ) → IsAnalysis cs whole old (e ∷ es) m k amount hints → e.reason ≡ Some r → r ≤ length cs
reason_within cs whole old es e m k amount hints r a reason = go (clause_at cs r) refl (subst (HasReason cs (lits_of es) e.lit) reason a.is_trail.1.0.why)
  where
    go : (o : Option (List Lit)) → clause_at cs r ≡ o → option_unfalse (lits_of es) (clause_at cs r) ≡ Some (e.lit ∷ []) → r ≤ length cs
    go None f w = absurd (let z : None ≡ Some (e.lit ∷ []) = ap (option_unfalse (lits_of es)) (sym f) ∙ w in cc)
    go (Some c) f w = (clause_within cs r c f).1

pub more_than_one : (n : ℕ) → 0 < n → (n ≡ 1 → ⊥) → 1 < n
more_than_one n h f = omega arith

-- the resolvent without the literal that is replaced
pub resolved : (cs : List (List Lit)) (whole : List Lit) (old es : List Entry) (e : Entry) (m k : List Lit) (amount : ℕ) (hints : List ℕ) (r : ℕ) → IsAnalysis cs whole old (e ∷ es) m k amount hints → has m e.lit ≡ true → e.reason ≡ Some r → IsResolvent es m k (amount - 1)
resolved cs whole old es e m k amount hints r a h reason =
    resolvent_tail e es m k amount (amount - 1) a.is_trail.1.0.unset named a.resolvent
    (let d = a.resolvent.count in
    let left : suc (newest_count m es) ≡ amount = grind (arith, d, h, named) in
    omega (arith, left))
  where
    named : is_none e.reason ≡ false
    named = ap is_none reason

pub analysis_fresh : (cs : List (List Lit)) (whole : List Lit) (old es : List Entry) (e : Entry) (m k : List Lit) (amount : ℕ) (hints : List ℕ) → IsAnalysis cs whole old (e ∷ es) m k amount hints → AreFresh es
analysis_fresh cs whole old es e m k amount hints a = trail_fresh a.is_trail.0 cs es a.is_trail.1.1

-- the resolvent without literals
pub resolvent_start : (t : List Entry) (m k : List Lit) (amount : ℕ) → m ≡ [] → k ≡ [] → amount ≡ 0 → IsResolvent t m k amount
resolvent_start t m k amount a b c =
    subst (λ x. IsResolvent t x k amount) (sym a) (subst (λ x. IsResolvent t [] x amount) (sym b) (subst (λ x. IsResolvent t [] [] x) (sym c) (record {
      count = sym (none t);
      cover = λ l h s. absurd (cc);
      older = λ l h. absurd (cc);
      signs = λ l h. absurd (cc);
      distinct = tt;
    })))
  where
    none : (t : List Entry) → newest_count [] t ≡ 0
    none [] = refl
    none (e ∷ es) = let i = none es in grind (arith, i)
