-- Where every variable is set and the set literals are closed over the clauses, they make the clauses true.
use Rattle.std.proofs.Common.{◌≡◌, ℕ, ◌+◌, ◌-◌, ◌*◌, ◌/◌, ◌%◌, ◌<◌, ◌≤◌, Bool, true, false, not, List, [], ◌∷◌, ◌==◌, if◌then◌else◌, ◌⊎◌, inl, inr, refl, sym, ap, ◌∙◌, subst, count_by, arith}
use Rattle.std.proofs.lemmas.Bool.Decides.{nat_tests}
use Rattle.clause_form.specs.declared.lit.Lit.{Lit}
use Rattle.clause_form.specs.Literals.{variable, is_positive, negation, literal, has, is_within, are_within}
use Rattle.clause_form.specs.ClauseTruth.{is_lit_true, is_clause_true, are_true, values_of}
use Rattle.clause_form.specs.LearnedLine.{IsConsistent, has_true, is_open, is_settled, is_closed}
use Rattle.clause_form.proofs.Negations.{same_lit, same_variable, negation_code, variable-negation}
use Rattle.clause_solver.specs.declared.trail.Entry.{Entry}
use Rattle.clause_solver.specs.Trail.{lits_of, is_variable_set}
use Rattle.clause_solver.specs.Decision.{AreAllSet, HasValues, IsChoice}
use Rattle.clause_solver.proofs.Resolving.{first_open}

-- a variable is set where one of its literals is
pub variable_set : (t : List Entry) (l : Lit) → is_variable_set t (variable l) ≡ true → (has (lits_of t) l ≡ true) ⊎ (has (lits_of t) (negation l) ≡ true)
variable_set [] l h = absurd (cc)
variable_set (e ∷ es) l h = go (λ p. variable_set es l p) (variable e.lit == variable l) refl
  where
    more : (has (lits_of es) l ≡ true) ⊎ (has (lits_of es) (negation l) ≡ true) → (has (lits_of (e ∷ es)) l ≡ true) ⊎ (has (lits_of (e ∷ es)) (negation l) ≡ true)
    more (inl p) = inl (grind (arith, nat_tests, p))
    more (inr p) = inr (grind (arith, nat_tests, p))

    here : (e.lit ≡ l) ⊎ (e.lit ≡ negation l) → (has (lits_of (e ∷ es)) l ≡ true) ⊎ (has (lits_of (e ∷ es)) (negation l) ≡ true)
    here (inl s) = let c = ap (λ (x : Lit). x.0) s in inl (grind (arith, nat_tests, c))
    here (inr s) = let c = ap (λ (x : Lit). x.0) s in inr (grind (arith, nat_tests, c))

    go : (is_variable_set es (variable l) ≡ true → (has (lits_of es) l ≡ true) ⊎ (has (lits_of es) (negation l) ≡ true)) → (b : Bool) → (variable e.lit == variable l) ≡ b → (has (lits_of (e ∷ es)) l ≡ true) ⊎ (has (lits_of (e ∷ es)) (negation l) ≡ true)
    go ih true f = here (same_variable e.lit l (grind (arith, nat_tests, f)))
    go ih false f = more (ih (grind (arith, f, h)))

-- and the other way
pub set_variable : (t : List Entry) (l : Lit) → has (lits_of t) l ≡ true → is_variable_set t (variable l) ≡ true
set_variable [] l h = absurd (cc)
set_variable (e ∷ es) l h = go (λ p. set_variable es l p) (e.lit.0 == l.0) refl
  where
    go : (has (lits_of es) l ≡ true → is_variable_set es (variable l) ≡ true) → (b : Bool) → (e.lit.0 == l.0) ≡ b → is_variable_set (e ∷ es) (variable l) ≡ true
    go ih true f = let s = ap variable (same_lit e.lit l (grind (arith, nat_tests, f))) in grind (arith, nat_tests, s)
    go ih false f = let i = ih (grind (arith, nat_tests, f, h)) in grind (arith, nat_tests, i)

abbrev pub Gives : ℕ → List Lit → List Bool → Type 0
Gives n set values = (l : Lit) → 0 < variable l → variable l ≤ n → has set l ≡ true → is_lit_true (values_of values) l ≡ true

-- the values make every set literal true
pub values_true : (n : ℕ) (set : List Lit) (values : List Bool) → IsConsistent set → HasValues n set values → Gives n set values
unfolding is_lit_true variable is_positive
values_true n set values con h l a b i = go (negation_code l)
  where
    at : values_of values (l.0 / 2) ≡ has set (record { 0 = 2 * (l.0 / 2) })
    at = let v = h (l.0 / 2 - 1) (omega (arith, a, b)) in
        let e : l.0 / 2 - 1 + 1 ≡ l.0 / 2 = omega (arith, a) in
        let w = ap (λ n. let x : Lit = record { 0 = 2 * n } in has set x) e in
        grind (arith, nat_tests, v, w, a)

    go : ((l.0 % 2 ≡ 0) × ((negation l).0 ≡ l.0 + 1)) ⊎ ((l.0 % 2 ≡ 1) × ((negation l).0 + 1 ≡ l.0)) → (if (l.0 % 2) == 0 then values_of values (l.0 / 2) else not (values_of values (l.0 / 2))) ≡ true
    go (inl p) =
        let e : 2 * (l.0 / 2) ≡ l.0 = omega (arith, p.0) in
        let w = ap (λ n. let x : Lit = record { 0 = n } in has set x) e in
        grind (arith, nat_tests, at, w, i, p)
    go (inr p) =
        let e : 2 * (l.0 / 2) ≡ (negation l).0 = omega (arith, p) in
        let w = ap (λ n. let x : Lit = record { 0 = n } in has set x) e in
        let c = con l i in
        grind (arith, nat_tests, at, w, c, p)

pub settled_true : (n : ℕ) (t : List Entry) (values : List Bool) (c : List Lit) → AreAllSet n t → Gives n (lits_of t) values → is_within n c ≡ true → is_settled (lits_of t) c ≡ true → is_clause_true (values_of values) c ≡ true
settled_true n t values c all g w s = from c w (grind (arith, nat_tests, s, closed c w))
  where
    none_open : (l : Lit) → 0 < variable l → variable l ≤ n → is_open (lits_of t) l ≡ false
    none_open l a b = go (variable_set t l (all (variable l) a b))
      where
        go : (has (lits_of t) l ≡ true) ⊎ (has (lits_of t) (negation l) ≡ true) → is_open (lits_of t) l ≡ false
        go (inl p) = grind (arith, p)
        go (inr p) = grind (arith, p)

    closed : (c : List Lit) → is_within n c ≡ true → count_by (is_open (lits_of t)) c ≡ 0
    closed [] w = refl
    closed (x ∷ xs) w = let ih = closed xs (grind (arith, w)) in let o = none_open x (grind (arith, nat_tests, w)) (grind (arith, nat_tests, w)) in grind (arith, ih, o)

    from : (c : List Lit) → is_within n c ≡ true → has_true (lits_of t) c ≡ true → is_clause_true (values_of values) c ≡ true
    from [] w h = absurd (cc)
    from (x ∷ xs) w h = pick (from xs (grind (arith, w))) (has (lits_of t) x) refl
      where
        pick : (has_true (lits_of t) xs ≡ true → is_clause_true (values_of values) xs ≡ true) → (b : Bool) → has (lits_of t) x ≡ b → is_clause_true (values_of values) (x ∷ xs) ≡ true
        pick ih true e = let r = g x (grind (arith, nat_tests, w)) (grind (arith, nat_tests, w)) e in grind (arith, r)
        pick ih false e = let r = ih (grind (arith, e, h)) in grind (arith, r)

pub closed_true : (n : ℕ) (t : List Entry) (values : List Bool) (cs : List (List Lit)) → AreAllSet n t → Gives n (lits_of t) values → are_within n cs ≡ true → is_closed (lits_of t) cs ≡ true → are_true (values_of values) cs ≡ true
closed_true n t values [] all g w s = refl
closed_true n t values (c ∷ cs) all g w s =
    let ih = closed_true n t values cs all g (grind (arith, w)) (grind (arith, s)) in
    let h = settled_true n t values c all g (grind (arith, w)) (grind (arith, s)) in
    grind (arith, ih, h)

-- the open literal of the first variable that is not set
pub open_choice : (n v : ℕ) (t : List Entry) (l : Lit) → l ≡ literal (v + 1) → variable l ≡ v + 1 → v < n → is_open (lits_of t) l ≡ true → AreAllSet v t → IsChoice n t l
open_choice n v t l e c h o all =
    record {
      above = omega (arith, c);
      within = omega (arith, c, h);
      unset = grind (arith, o);
      other = first_open (lits_of t) l o;
      positive = e ∙ ap literal (sym c);
      least = subst (λ k. AreAllSet k t) (let s : v ≡ variable l - 1 = omega (arith, c) in s) all;
    }

-- a variable more is set
pub all_more : (v : ℕ) (t : List Entry) (l : Lit) → variable l ≡ v + 1 → is_open (lits_of t) l ≡ false → AreAllSet v t → AreAllSet (v + 1) t
all_more v t l c o h k a b = go (k == v + 1) refl
  where
    here : is_variable_set t (variable l) ≡ true
    here = pick (has (lits_of t) l) refl (has (lits_of t) (negation l)) refl
      where
        pick : (x : Bool) → has (lits_of t) l ≡ x → (y : Bool) → has (lits_of t) (negation l) ≡ y → is_variable_set t (variable l) ≡ true
        pick true p y q = set_variable t l p
        pick false p true q = subst (λ n. is_variable_set t n ≡ true) (variable-negation l) (set_variable t (negation l) q)
        pick false p false q = absurd (grind (arith, o, p, q))

    go : (x : Bool) → (k == v + 1) ≡ x → is_variable_set t k ≡ true
    go true f = let s : variable l ≡ k = grind (arith, nat_tests, c, f) in subst (λ n. is_variable_set t n ≡ true) s here
    go false f = h k a (grind (arith, nat_tests, b, f))
