-- The line of an implication point.
use Rattle.std.proofs.Common.{◌≡◌, ℕ, suc, ◌<◌, ◌≤◌, Bool, true, false, List, [], ◌∷◌, ◌++◌, ◌==◌, ◌&&◌, length, map, reverse, refl, sym, ap, ◌∙◌, subst, count_by, arith}
use Rattle.std.proofs.lemmas.Bool.Decides.{nat_tests}
use Rattle.clause_form.specs.declared.lit.Lit.{Lit}
use Rattle.clause_form.specs.Literals.{variable, negation, has, rises_above, is_within}
use Rattle.clause_form.specs.DerivedLine.{closes, is_empty}
use Rattle.clause_form.specs.LearnedLine.{IsConsistent, is_open, is_false, LeavesOne}
use Rattle.clause_form.proofs.Negations.{same_lit, negation-negation, variable-negation}
use Rattle.clause_form.proofs.Sets.{has-append, has_self, has-negations}
use Rattle.clause_solver.specs.declared.trail.Entry.{Entry}
use Rattle.clause_solver.specs.Trail.{lits_of, decisions, below, IsTrail}
use Rattle.clause_solver.specs.Analysis.{IsPoint}
use Rattle.clause_solver.specs.Resolvent.{IsDistinct, IsPart}
use Rattle.clause_solver.specs.Learning.{AreNew, IsSorted, IsLearning}
use Rattle.clause_solver.proofs.Adding.{distinct_push}
use Rattle.clause_solver.proofs.Counting.{count_yes, count_no}
use Rattle.clause_solver.proofs.Levels.{set_within, retrail}
use Rattle.clause_solver.proofs.Resolving.{trail_consistent, closed_below, first_open, trail_below}

-- a literal outside a part
pub outside : (a b : List Lit) (l : Lit) → IsPart a b → has b l ≡ false → has a l ≡ false
outside a b l p h = go (has a l) refl
  where
    go : (x : Bool) → has a l ≡ x → has a l ≡ false
    go true e = absurd (let z : true ≡ false = sym (p l e) ∙ h in cc)
    go false e = e

-- literals whose negations are all set have different variables
pub all_new : (whole ls : List Lit) → IsConsistent whole → ((l : Lit) → has whole l ≡ true → 0 < variable l) → ((l : Lit) → has ls l ≡ true → has whole (negation l) ≡ true) → IsDistinct ls → AreNew ls
all_new whole [] con up set d = tt
all_new whole (x ∷ xs) con up set d = (
  record {
    above = subst (λ n. 0 < n) (variable-negation x) (up (negation x) here);
    self = d.0;
    other = other (has xs (negation x)) refl;
  },
  all_new whole xs con up (λ l h. set l (grind (arith, h))) d.1,
)
  where
    here : has whole (negation x) ≡ true
    here = set x (has_self x xs)

    other : (b : Bool) → has xs (negation x) ≡ b → has xs (negation x) ≡ false
    other true e =
        let a = set (negation x) (grind (arith, e)) in
        let b = con (negation x) here in
        absurd (let z : true ≡ false = sym a ∙ b in cc)
    other false e = e

within_each : (n : ℕ) (c : List Lit) → ((l : Lit) → has c l ≡ true → (0 < variable l) × (variable l ≤ n)) → is_within n c ≡ true
within_each n [] h = refl
within_each n (x ∷ xs) h =
    let ih = within_each n xs (λ l i. h l (grind (arith, i))) in
    let a = h x (has_self x xs) in
    grind (arith, nat_tests, ih, a)

rising_above : (k : ℕ) (c : List Lit) (l : Lit) → rises_above k c ≡ true → has c l ≡ true → k < variable l
rising_above k [] l r h = absurd (cc)
rising_above k (x ∷ xs) l r h = go (λ p. rising_above (variable x) xs l (grind (arith, r)) p) (x.0 == l.0) refl
  where
    low : k < variable x
    low = grind (arith, nat_tests, r)

    go : (has xs l ≡ true → variable x < variable l) → (b : Bool) → (x.0 == l.0) ≡ b → k < variable l
    go ih true f = subst (λ y. k < variable y) (same_lit x l (grind (arith, nat_tests, f))) low
    go ih false f = let i = ih (grind (arith, f, h)) in omega (arith, i, low)

rising_distinct : (k : ℕ) (c : List Lit) → rises_above k c ≡ true → IsDistinct c
rising_distinct k [] r = tt
rising_distinct k (x ∷ xs) r = (go (has xs x) refl, rising_distinct (variable x) xs (grind (arith, r)))
  where
    go : (b : Bool) → has xs x ≡ b → has xs x ≡ false
    go true e = absurd (let i = rising_above (variable x) xs x (grind (arith, r)) e in omega (arith, i))
    go false e = e

false_not_open : (set : List Lit) (l : Lit) → is_false set l ≡ true → is_open set l ≡ false
false_not_open set l h = grind (arith, h)

open_not_false : (set : List Lit) (l : Lit) → is_open set l ≡ true → is_false set l ≡ false
open_not_false set l h = first_open set l h

all_are_false : (set c : List Lit) → ((l : Lit) → has c l ≡ true → is_false set l ≡ true) → (count_by (is_open set) c ≡ 0) × (count_by (is_false set) c ≡ length c)
all_are_false set [] h = (refl, refl)
all_are_false set (x ∷ xs) h =
    let ih = all_are_false set xs (λ l i. h l (grind (arith, i))) in
    let f = h x (has_self x xs) in
    let o = false_not_open set x f in
    (count_no (is_open set) x xs o ∙ ih.0, count_yes (is_false set) x xs f ∙ ap suc ih.1)

-- an open literal, and all others false
pub leaves_one : (set c : List Lit) (u : Lit) → IsDistinct c → has c u ≡ true → is_open set u ≡ true → ((l : Lit) → has c l ≡ true → (u.0 == l.0) ≡ false → is_false set l ≡ true) → LeavesOne set c
leaves_one set [] u d h o f = absurd (cc)
leaves_one set (x ∷ xs) u d h o f = go (λ i. leaves_one set xs u d.1 i o (λ l j. f l (grind (arith, j)))) (x.0 == u.0) refl
  where
    go : (has xs u ≡ true → LeavesOne set xs) → (b : Bool) → (x.0 == u.0) ≡ b → LeavesOne set (x ∷ xs)
    go ih true e =
        let s = same_lit x u (grind (arith, nat_tests, e)) in
        let ox : is_open set x ≡ true = ap (is_open set) s ∙ o in
        let fx = open_not_false set x ox in
        let r = all_are_false set xs (λ l i. f l (grind (arith, i)) (other l i)) in
        (count_yes (is_open set) x xs ox ∙ ap suc r.0, ap suc (count_no (is_false set) x xs fx ∙ r.1))
      where
        other : (l : Lit) → has xs l ≡ true → (u.0 == l.0) ≡ false
        other l i = pick (u.0 == l.0) refl
          where
            pick : (b : Bool) → (u.0 == l.0) ≡ b → (u.0 == l.0) ≡ false
            pick true g =
                let s : l ≡ x = same_lit l x (grind (arith, nat_tests, e, g)) in
                absurd (let z : true ≡ false = sym i ∙ ap (has xs) s ∙ d.0 in cc)
            pick false g = g
    go ih false e =
        let turned : (u.0 == x.0) ≡ false = grind (arith, nat_tests, e) in
        let fx = f x (has_self x xs) turned in
        let ox = false_not_open set x fx in
        let r = ih (grind (arith, e, h)) in
        (count_no (is_open set) x xs ox ∙ r.0, ap suc (count_yes (is_false set) x xs fx ∙ r.1))

-- what the analysis has found is a derived and learned line, and asserting
pub learning : (cs : List (List Lit)) (t es : List Entry) (k : List Lit) (hints : List ℕ) (p : Lit) (c : List Lit) → (n : ℕ) × IsTrail n cs t → 0 < decisions t → IsPoint cs (lits_of t) (below t) es k hints p → IsSorted (k ++ negation p ∷ []) c → IsLearning cs t (record { clause = c; hints = reverse hints }) es
learning cs t es k hints p c i d pt s =
    record {
      derived = λ n j. derived n j;
      learned = record {
        set = lits_of (below t);
        consistent = low;
        closed = closed_below i.0 cs t i.1 d;
        new = leaves_one (lits_of (below t)) c (negation p) (rising_distinct 0 c s.rising) point_in open_point others;
      };
      some = not_empty c point_in;
      trail = λ n j. retrail n pt.is_trail.0 cs es pt.is_trail.1 (λ l h. (set_within n cs t l j (pt.part l h)).1);
      asserting = record { point = negation p; inside = point_in; unset = open_left; others = λ l h e. pt.start (negation l) (pt.older l (which l h e)) };
    }
  where
    low : IsConsistent (lits_of (below t))
    low = trail_consistent i.0 cs (below t) (trail_below i.0 cs t i.1)

    point_in : has c (negation p) ≡ true
    point_in = let a = s.same (negation p) in let b = has-append k (negation p ∷ []) (negation p) in grind (arith, nat_tests, a, b)

    kept_in : (l : Lit) → has k l ≡ true → has c l ≡ true
    kept_in l h = let a = s.same l in let b = has-append k (negation p ∷ []) l in grind (arith, a, b, h)

    -- the point, or kept
    which : (l : Lit) → has c l ≡ true → ((negation p).0 == l.0) ≡ false → has k l ≡ true
    which l h e = let a = s.same l in let b = has-append k (negation p ∷ []) l in grind (arith, a, b, h, e)

    set_by : (l : Lit) → has c l ≡ true → has (lits_of t) (negation l) ≡ true
    set_by l h = go ((negation p).0 == l.0) refl
      where
        go : (b : Bool) → ((negation p).0 == l.0) ≡ b → has (lits_of t) (negation l) ≡ true
        go true e = subst (λ y. has (lits_of t) y ≡ true) (sym (negation-negation p) ∙ ap negation (same_lit (negation p) l (grind (arith, nat_tests, e)))) pt.set
        go false e = pt.part (negation l) (pt.start (negation l) (pt.older l (which l h e)))

    below_point : has (lits_of (below t)) (negation (negation p)) ≡ false
    below_point = subst (λ y. has (lits_of (below t)) y ≡ false) (sym (negation-negation p)) (outside (lits_of (below t)) (lits_of es) p pt.start pt.newer)

    open_point : is_open (lits_of (below t)) (negation p) ≡ true
    open_point = let a = outside (lits_of (below t)) (lits_of es) (negation p) pt.start pt.other in let b = below_point in grind (arith, a, b)

    others : (l : Lit) → has c l ≡ true → ((negation p).0 == l.0) ≡ false → is_false (lits_of (below t)) l ≡ true
    others l h e = pt.older l (which l h e)

    open_left : is_open (lits_of es) (negation p) ≡ true
    open_left =
        let a = pt.other in
        let b : has (lits_of es) (negation (negation p)) ≡ false = ap (has (lits_of es)) (negation-negation p) ∙ pt.newer in
        grind (arith, a, b)

    not_empty : (c : List Lit) → has c (negation p) ≡ true → is_empty c ≡ false
    not_empty [] h = absurd (cc)
    not_empty (x ∷ xs) h = refl

    derived : (n : ℕ) → IsTrail n cs t → ((rises_above 0 c && is_within n c) && closes cs (map negation c) (reverse hints)) ≡ true
    derived n j =
        let a = s.rising in
        let b = within_each n c (λ l h. subst (λ v. (0 < v) × (v ≤ n)) (variable-negation l) (set_within n cs t (negation l) j (set_by l h))) in
        let e = pt.derives (map negation c) has_point (λ l h. has-negations c l ∙ kept_in l h) part in
        grind (arith, a, b, e)
      where
        has_point : has (map negation c) p ≡ true
        has_point = subst (λ y. has (map negation c) y ≡ true) (negation-negation p) (has-negations c (negation p) ∙ point_in)

        part : IsPart (map negation c) (lits_of t)
        part l h = subst (λ y. has (lits_of t) y ≡ true) (negation-negation l) (set_by (negation l) (sym (has-negations c (negation l)) ∙ ap (has (map negation c)) (negation-negation l) ∙ h))

-- the literals of the line have different variables
pub line_new : (cs : List (List Lit)) (t es : List Entry) (k : List Lit) (hints : List ℕ) (p : Lit) → (n : ℕ) × IsTrail n cs t → IsPoint cs (lits_of t) (below t) es k hints p → AreNew (k ++ negation p ∷ [])
line_new cs t es k hints p i pt =
    all_new (lits_of t) (k ++ negation p ∷ []) pt.consistent (λ l h. (set_within i.0 cs t l i.1 h).0) (λ l h. set_by l h (has k l) refl) (distinct_push k (negation p) pt.distinct (unkept (has k (negation p)) refl))
  where
    set_by : (l : Lit) → has (k ++ negation p ∷ []) l ≡ true → (b : Bool) → has k l ≡ b → has (lits_of t) (negation l) ≡ true
    set_by l h true e = pt.part (negation l) (pt.start (negation l) (pt.older l e))
    set_by l h false e =
        let b = has-append k (negation p ∷ []) l in
        subst (λ y. has (lits_of t) y ≡ true) (sym (negation-negation p) ∙ ap negation (same_lit (negation p) l (grind (arith, nat_tests, b, h, e)))) pt.set

    unkept : (b : Bool) → has k (negation p) ≡ b → has k (negation p) ≡ false
    unkept true e =
        let a = pt.start (negation (negation p)) (pt.older (negation p) e) in
        absurd (let z : true ≡ false = sym (subst (λ y. has (lits_of es) y ≡ true) (negation-negation p) a) ∙ pt.newer in cc)
    unkept false e = e
