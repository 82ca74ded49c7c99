-- A pass over the clauses.
use Rattle.std.proofs.Common.{◌≡◌, ℕ, suc, ◌+◌, ◌<◌, ◌≤◌, Bool, true, false, Some, List, [], ◌∷◌, ◌==◌, if◌then◌else◌, ◌⊎◌, inl, inr, length, take, refl, sym, ap, ◌∙◌, subst, arith}
use Rattle.std.proofs.lemmas.Bool.Decides.{nat_tests}
use Rattle.std.proofs.lemmas.List.{take_all}
use Rattle.std.specs.List.{slice_get}
use Rattle.clause_form.specs.declared.lit.Lit.{Lit}
use Rattle.clause_form.specs.Literals.{variable, negation, has, are_within}
use Rattle.clause_form.specs.DerivedLine.{clause_at, unfalse, option_unfalse}
use Rattle.clause_form.specs.LearnedLine.{is_closed, is_settled}
use Rattle.clause_form.proofs.Negations.{same_variable}
use Rattle.clause_form.proofs.Sets.{unfalse_has, has_self}
use Rattle.clause_solver.specs.declared.trail.Entry.{Entry}
use Rattle.clause_solver.specs.Trail.{lits_of, IsTrail, IsSet, unset, is_variable_set}
use Rattle.clause_solver.specs.Propagation.{Grows, Advances, IsConflict}
use Rattle.clause_solver.proofs.Numbers.{within_get, within_has, closed_more, clause_at_suc}

-- what a scan leaves after so many clauses
abbrev pub IsScanned : List (List Lit) → List Entry → List Entry → ℕ → Bool → Type 0
IsScanned clauses old new at true = Advances clauses old new
IsScanned clauses old new at false = (new ≡ old) × (is_closed (lits_of new) (take at clauses) ≡ true)

-- a variable neither of whose literals is set
pub variable_unset : (t : List Entry) (l : Lit) → has (lits_of t) l ≡ false → has (lits_of t) (negation l) ≡ false → is_variable_set t (variable l) ≡ false
variable_unset [] l a b = refl
variable_unset (e ∷ es) l a b = go (variable_unset es l (grind (arith, nat_tests, a)) (grind (arith, nat_tests, b))) (variable e.lit == variable l) refl
  where
    other : (e.lit ≡ l) ⊎ (e.lit ≡ negation l) → ⊥
    other (inl s) = let c = ap (λ (x : Lit). x.0) s in grind (arith, nat_tests, a, c)
    other (inr s) = let c = ap (λ (x : Lit). x.0) s in grind (arith, nat_tests, b, c)

    go : is_variable_set es (variable l) ≡ false → (x : Bool) → (variable e.lit == variable l) ≡ x → (if variable e.lit == variable l then true else is_variable_set es (variable l)) ≡ false
    go ih true f = absurd (other (same_variable e.lit l (grind (arith, nat_tests, f))))
    go ih false f = grind (arith, ih, f)

-- one variable less is unset
pub unset_same : (n : ℕ) (t : List Entry) (e : Entry) → n < variable e.lit → unset n (e ∷ t) ≡ unset n t
unset_same Prim.Native.Nat.zero t e h = refl
unset_same (suc n) t e h = let ih = unset_same n t e (omega arith) in grind (arith, nat_tests, ih, h)

pub unset_less : (n : ℕ) (t : List Entry) (e : Entry) → 0 < variable e.lit → variable e.lit ≤ n → is_variable_set t (variable e.lit) ≡ false → suc (unset n (e ∷ t)) ≡ unset n t
unset_less Prim.Native.Nat.zero t e a b c = absurd (omega arith)
unset_less (suc n) t e a b c = go (λ p. unset_less n t e a p c) (variable e.lit == suc n) refl
  where
    go : (variable e.lit ≤ n → suc (unset n (e ∷ t)) ≡ unset n t) → (x : Bool) → (variable e.lit == suc n) ≡ x → suc (unset (suc n) (e ∷ t)) ≡ unset (suc n) t
    go ih true f =
        let v : variable e.lit ≡ suc n = grind (arith, nat_tests, f) in
        let s = unset_same n t e (omega (arith, v)) in
        let d : is_variable_set t (suc n) ≡ false = ap (is_variable_set t) (sym v) ∙ c in
        grind (arith, f, s, d)
    go ih false f =
        let s = ih (grind (arith, nat_tests, f, b)) in
        go2 s (is_variable_set t (suc n)) refl
      where
        go2 : suc (unset n (e ∷ t)) ≡ unset n t → (y : Bool) → is_variable_set t (suc n) ≡ y → suc (unset (suc n) (e ∷ t)) ≡ unset (suc n) t
        go2 s true g = grind (arith, f, s, g)
        go2 s false g = grind (arith, f, s, g)

-- a literal that a clause left alone is set by it
pub forced_set : (n : ℕ) (cs : List (List Lit)) (t : List Entry) (k : ℕ) (c : List Lit) (l : Lit) → are_within n cs ≡ true → slice_get cs k ≡ Some c → unfalse (lits_of t) c ≡ l ∷ [] → has (lits_of t) l ≡ false → IsSet n cs (lits_of t) l (Some (k + 1))
forced_set n cs t k c l w e u h =
    let i = unfalse_has (lits_of t) c l in
    let j = has_self l [] in
    let s = ap (λ x. has x l) u in
    let r = within_get n cs k c w e in
    let v = within_has n c l r.1 (grind (arith, i, j, s)) in
    record {
      above = v.0;
      within = v.1;
      unset = h;
      other = grind (arith, i, j, s);
      why = ap (option_unfalse (lits_of t)) (clause_at_suc cs k ∙ e) ∙ ap Some u;
    }

-- a literal is set
pub advanced : (cs : List (List Lit)) (t : List Entry) (e : Entry) → ((n : ℕ) → are_within n cs ≡ true → IsTrail n cs t → IsSet n cs (lits_of t) e.lit e.reason) → Advances cs t (e ∷ t)
advanced cs t e s =
    record {
      trail = λ n w i. (s n w i, i);
      fewer = λ n w i.
          let x = s n w i in
          let u = unset_less n t e x.above x.within (variable_unset t e.lit x.unset x.other) in
          omega arith;
    }

-- steps one after the other
pub advances_trans : (cs : List (List Lit)) (a b c : List Entry) → Advances cs a b → Advances cs b c → Advances cs a c
advances_trans cs a b c x y =
    record {
      trail = λ n w i. y.trail n w (x.trail n w i);
      fewer = λ n w i. let p = x.fewer n w i in let q = y.fewer n w (x.trail n w i) in omega arith;
    }

-- an advance is a growth
pub grows : (cs : List (List Lit)) (a b : List Entry) → Advances cs a b → Grows cs a b
grows cs a b x = record { trail = x.trail; no_more = λ n w i. let p = x.fewer n w i in omega arith }

pub grows_refl : (cs : List (List Lit)) (a : List Entry) → Grows cs a a
grows_refl cs a = record { trail = λ n w i. i; no_more = λ n w i. omega arith }

-- no clause was looked at
pub scanned_start : (cs : List (List Lit)) (t : List Entry) → IsScanned cs t t 0 false
scanned_start cs t = (refl, refl)

-- a clause is settled
pub scanned_settled : (cs : List (List Lit)) (old new : List Entry) (k : ℕ) (b : Bool) (c : List Lit) → IsScanned cs old new k b → clause_at cs (k + 1) ≡ Some c → is_settled (lits_of new) c ≡ true → IsScanned cs old new (k + 1) b
scanned_settled cs old new k true c h e s = h
scanned_settled cs old new k false c h e s = (h.0, closed_more (lits_of new) cs k c h.1 (sym (clause_at_suc cs k) ∙ e) s)

-- a clause forces a literal
pub scanned_forced : (cs : List (List Lit)) (old new : List Entry) (k : ℕ) (b : Bool) (c : List Lit) (l : Lit) → IsScanned cs old new k b → clause_at cs (k + 1) ≡ Some c → unfalse (lits_of new) c ≡ l ∷ [] → has (lits_of new) l ≡ false → IsScanned cs old (record { lit = l; reason = Some (k + 1) } ∷ new) (k + 1) true
scanned_forced cs old new k b c l h e u f = go b h
  where
    step : Advances cs new (record { lit = l; reason = Some (k + 1) } ∷ new)
    step = advanced cs new (record { lit = l; reason = Some (k + 1) }) (λ n w i. forced_set n cs new k c l w (sym (clause_at_suc cs k) ∙ e) u f)

    go : (x : Bool) → IsScanned cs old new k x → Advances cs old (record { lit = l; reason = Some (k + 1) } ∷ new)
    go true a = advances_trans cs old new _ a step
    go false a = subst (λ o. Advances cs o (record { lit = l; reason = Some (k + 1) } ∷ new)) a.0 step

-- a clause is in conflict
pub scanned_conflict : (cs : List (List Lit)) (old new : List Entry) (k : ℕ) (b : Bool) (c : List Lit) → IsScanned cs old new k b → clause_at cs (k + 1) ≡ Some c → unfalse (lits_of new) c ≡ [] → Grows cs old new × IsConflict cs new (k + 1)
scanned_conflict cs old new k b c h e u = (go b h, ap (option_unfalse (lits_of new)) e ∙ ap Some u)
  where
    go : (x : Bool) → IsScanned cs old new k x → Grows cs old new
    go true a = grows cs old new a
    go false a = subst (λ o. Grows cs o new) a.0 (grows_refl cs new)

pub scanned_all : (cs : List (List Lit)) (old new : List Entry) (k : ℕ) → length cs ≤ k → IsScanned cs old new k false → (new ≡ old) × (is_closed (lits_of new) cs ≡ true)
scanned_all cs old new k h i = (i.0, subst (λ x. is_closed (lits_of new) x ≡ true) (take_all k cs h) i.1)
