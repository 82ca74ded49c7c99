-- The levels of a trail, and a trail that is cut back to one.
use Rattle.std.proofs.Common.{◌≡◌, ℕ, suc, ◌-◌, ◌<◌, ◌≤◌, Bool, true, false, Option, None, Some, List, [], ◌∷◌, ◌++◌, ◌==◌, if◌then◌else◌, is_none, nat_le, refl, sym, ap, ◌∙◌, subst, arith}
use Rattle.std.specs.List.{slice_get}
use Rattle.std.proofs.lemmas.Bool.Decides.{nat_tests}
use Rattle.clause_form.specs.declared.lit.Lit.{Lit}
use Rattle.clause_form.specs.Literals.{variable, negation, has}
use Rattle.clause_form.specs.DerivedLine.{clause_at, option_unfalse}
use Rattle.clause_form.specs.LearnedLine.{is_open, is_settled}
use Rattle.clause_form.proofs.Negations.{same_lit}
use Rattle.clause_form.proofs.Sets.{has_self}
use Rattle.clause_solver.specs.declared.trail.Entry.{Entry}
use Rattle.clause_solver.specs.Trail.{lits_of, decisions, level_of, up_to, AreFresh, IsTrail, HasReason}
use Rattle.clause_solver.specs.Resolvent.{IsPart}
use Rattle.clause_solver.proofs.Counting.{count_two}
use Rattle.clause_solver.proofs.Numbers.{closed-append}
use Rattle.clause_solver.proofs.Adding.{level_low}

-- where a literal is set, its variable is one of the n
pub set_within : (n : ℕ) (cs : List (List Lit)) (t : List Entry) (l : Lit) → IsTrail n cs t → has (lits_of t) l ≡ true → (0 < variable l) × (variable l ≤ n)
set_within n cs [] l i h = absurd (cc)
set_within n cs (e ∷ es) l i h = go (λ p. set_within n cs es l i.1 p) (e.lit.0 == l.0) refl
  where
    go : (has (lits_of es) l ≡ true → (0 < variable l) × (variable l ≤ n)) → (b : Bool) → (e.lit.0 == l.0) ≡ b → (0 < variable l) × (variable l ≤ n)
    go ih true f = subst (λ y. (0 < variable y) × (variable y ≤ n)) (same_lit e.lit l (grind (arith, nat_tests, f))) (i.0.above, i.0.within)
    go ih false f = ih (grind (arith, f, h))

-- a trail over some variables is one over those that hold its literals
pub retrail : (n k : ℕ) (cs : List (List Lit)) (t : List Entry) → IsTrail k cs t → ((l : Lit) → has (lits_of t) l ≡ true → variable l ≤ n) → IsTrail n cs t
retrail n k cs [] i w = tt
retrail n k cs (e ∷ es) i w = (
  record { above = i.0.above; within = w e.lit (has_self e.lit (lits_of es)); unset = i.0.unset; other = i.0.other; why = i.0.why },
  retrail n k cs es i.1 (λ l h. w l (grind (arith, h))),
)

-- what was set up to a level is a trail
pub trail_up_to : (n k : ℕ) (cs : List (List Lit)) (t : List Entry) → IsTrail n cs t → IsTrail n cs (up_to k t)
trail_up_to n k cs [] i = tt
trail_up_to n k cs (e ∷ es) i = go (trail_up_to n k cs es i.1) (nat_le (decisions (e ∷ es)) k)
  where
    go : IsTrail n cs (up_to k es) → (b : Bool) → IsTrail n cs (if b then e ∷ es else up_to k es)
    go ih true = i
    go ih false = ih

-- and a part of the whole
pub up_to_part : (k : ℕ) (t : List Entry) → IsPart (lits_of (up_to k t)) (lits_of t)
up_to_part k [] l h = h
up_to_part k (e ∷ es) l h = go (λ p. up_to_part k es l p) (nat_le (decisions (e ∷ es)) k) h
  where
    go : (has (lits_of (up_to k es)) l ≡ true → has (lits_of es) l ≡ true) → (b : Bool) → has (lits_of (if b then e ∷ es else up_to k es)) l ≡ true → has (lits_of (e ∷ es)) l ≡ true
    go ih true h = h
    go ih false h = let i = ih h in grind (arith, i)

-- and of no higher level
pub up_to_low : (k : ℕ) (t : List Entry) → decisions (up_to k t) ≤ k
up_to_low k [] = omega arith
up_to_low k (e ∷ es) = go (up_to_low k es) (nat_le (decisions (e ∷ es)) k) refl
  where
    go : decisions (up_to k es) ≤ k → (b : Bool) → nat_le (decisions (e ∷ es)) k ≡ b → decisions (if nat_le (decisions (e ∷ es)) k then e ∷ es else up_to k es) ≤ k
    go ih true f = rw f (grind (arith, nat_tests, f))
    go ih false f = rw f ih

-- taking newer literals out changes no level
pub level_up_to : (k : ℕ) (t : List Entry) (l : Lit) → AreFresh t → has (lits_of (up_to k t)) l ≡ true → level_of (up_to k t) l ≡ level_of t l
level_up_to k [] l f h = refl
level_up_to k (e ∷ es) l f h = go (λ p. level_up_to k es l f.1 p) (nat_le (decisions (e ∷ es)) k) h
  where
    go : (has (lits_of (up_to k es)) l ≡ true → level_of (up_to k es) l ≡ level_of es l) → (b : Bool) → has (lits_of (if b then e ∷ es else up_to k es)) l ≡ true → level_of (if b then e ∷ es else up_to k es) l ≡ level_of (e ∷ es) l
    go ih true h = refl
    go ih false h = ih h ∙ older (up_to_part k es l h)
      where
        older : has (lits_of es) l ≡ true → level_of es l ≡ level_of (e ∷ es) l
        older p = pick (e.lit.0 == l.0) refl
          where
            pick : (b : Bool) → (e.lit.0 == l.0) ≡ b → level_of es l ≡ (if e.lit.0 == l.0 then Some (decisions (e ∷ es)) else level_of es l)
            pick true g = absurd (let z : true ≡ false = sym p ∙ ap (has (lits_of es)) (sym (same_lit e.lit l (grind (arith, nat_tests, g)))) ∙ f.0 in cc)
            pick false g = rw g refl

-- before each decision, the clause is settled
abbrev pub IsSettledBelow : List Entry → List Lit → Type 0
IsSettledBelow [] c = Unit {0}
IsSettledBelow (e ∷ es) c = (is_none e.reason ≡ true → is_settled (lits_of es) c ≡ true) × IsSettledBelow es c

clause_at-append : (cs : List (List Lit)) (c : List Lit) (r : ℕ) (set u : List Lit) → option_unfalse set (clause_at cs r) ≡ Some u → option_unfalse set (clause_at (cs ++ c ∷ []) r) ≡ Some u
clause_at-append cs c r set u h = go (r == 0) refl
  where
    get : (xs : List (List Lit)) (k : ℕ) → option_unfalse set (slice_get xs k) ≡ Some u → option_unfalse set (slice_get (xs ++ c ∷ []) k) ≡ Some u
    get [] k h = absurd (cc)
    get (x ∷ xs) Prim.Native.Nat.zero h = h
    get (x ∷ xs) (suc k) h = get xs k h

    go : (b : Bool) → (r == 0) ≡ b → option_unfalse set (if r == 0 then None else slice_get (cs ++ c ∷ []) (r - 1)) ≡ Some u
    go true f = absurd (let z : option_unfalse set (if true then None else slice_get cs (r - 1)) ≡ Some u = subst (λ b. option_unfalse set (if b then None else slice_get cs (r - 1)) ≡ Some u) f h in cc)
    go false f = rw f (get cs (r - 1) (subst (λ b. option_unfalse set (if b then None else slice_get cs (r - 1)) ≡ Some u) f h))

-- a trail is one over a clause more, where that clause is settled before each decision
pub extended : (n : ℕ) (cs : List (List Lit)) (c : List Lit) (t : List Entry) → IsTrail n cs t → IsSettledBelow t c → IsTrail n (cs ++ c ∷ []) t
extended n cs c [] i s = tt
extended n cs c (e ∷ es) i s = (
  record { above = i.0.above; within = i.0.within; unset = i.0.unset; other = i.0.other; why = why e.reason i.0.why s.0 },
  extended n cs c es i.1 s.1,
)
  where
    why : (r : Option ℕ) → HasReason cs (lits_of es) e.lit r → (is_none r ≡ true → is_settled (lits_of es) c ≡ true) → HasReason (cs ++ c ∷ []) (lits_of es) e.lit r
    why None w s = let a = closed-append (lits_of es) cs (c ∷ []) in let b = s refl in grind (arith, a, b, w)
    why (Some r) w s = clause_at-append cs c r (lits_of es) (e.lit ∷ []) w

open_by : (set : List Lit) (l : Lit) → has set l ≡ false → has set (negation l) ≡ false → is_open set l ≡ true
open_by set l a b = grind (arith, a, b)

has_not_more : (e : Entry) (es : List Entry) (l : Lit) → has (lits_of (e ∷ es)) l ≡ false → has (lits_of es) l ≡ false
has_not_more e es l h = grind (arith, nat_tests, h)

-- below its second level the line has two open literals
pub settled_below : (t : List Entry) (c : List Lit) (x y : Lit) (k : ℕ) → AreFresh t → decisions t ≤ k → has c x ≡ true → has c y ≡ true → (x.0 == y.0) ≡ false
    → has (lits_of t) x ≡ false → has (lits_of t) (negation x) ≡ false → has (lits_of t) y ≡ false → (has (lits_of t) (negation y) ≡ true → level_of t (negation y) ≡ Some k) → IsSettledBelow t c
settled_below [] c x y k f d a b ne px nx py ny = tt
settled_below (e ∷ es) c x y k f d a b ne px nx py ny =
    (here, settled_below es c x y k f.1 low a b ne (has_not_more e es x px) (has_not_more e es (negation x) nx) (has_not_more e es y py) older)
  where
    low : decisions es ≤ k
    low = go (is_none e.reason) d
      where
        go : (b : Bool) → (if b then suc (decisions es) else decisions es) ≤ k → decisions es ≤ k
        go true h = omega arith
        go false h = h

    fresh : has (lits_of es) (negation y) ≡ true → (e.lit.0 == (negation y).0) ≡ false
    fresh h = go (e.lit.0 == (negation y).0) refl
      where
        go : (b : Bool) → (e.lit.0 == (negation y).0) ≡ b → (e.lit.0 == (negation y).0) ≡ false
        go true g = absurd (let z : true ≡ false = sym h ∙ ap (has (lits_of es)) (sym (same_lit e.lit (negation y) (grind (arith, nat_tests, g)))) ∙ f.0 in cc)
        go false g = g

    older : has (lits_of es) (negation y) ≡ true → level_of es (negation y) ≡ Some k
    older h =
        let g = fresh h in
        subst (λ b. (if b then Some (decisions (e ∷ es)) else level_of es (negation y)) ≡ Some k) g (ny (grind (arith, h)))

    gone : is_none e.reason ≡ true → (b : Bool) → has (lits_of es) (negation y) ≡ b → has (lits_of es) (negation y) ≡ false
    gone r true h =
        let q = level_low es (negation y) k (older h) in
        let w : suc (decisions es) ≤ k = subst (λ b. (if b then suc (decisions es) else decisions es) ≤ k) r d in
        absurd (omega (arith, q, w))
    gone r false h = h

    here : is_none e.reason ≡ true → is_settled (lits_of es) c ≡ true
    here r =
        let p = open_by (lits_of es) x (has_not_more e es x px) (has_not_more e es (negation x) nx) in
        let q = open_by (lits_of es) y (has_not_more e es y py) (gone r (has (lits_of es) (negation y)) refl) in
        let two = count_two (is_open (lits_of es)) c x y a b ne p q in
        grind (arith, nat_tests, two)

-- where nothing was decided, any clause is
pub settled_none : (t : List Entry) (c : List Lit) → decisions t ≤ 0 → IsSettledBelow t c
settled_none [] c d = tt
settled_none (e ∷ es) c d = (λ r. absurd (let w : suc (decisions es) ≤ 0 = subst (λ b. (if b then suc (decisions es) else decisions es) ≤ 0) r d in omega (arith, w)), settled_none es c (go (is_none e.reason) d))
  where
    go : (b : Bool) → (if b then suc (decisions es) else decisions es) ≤ 0 → decisions es ≤ 0
    go true h = omega arith
    go false h = h
