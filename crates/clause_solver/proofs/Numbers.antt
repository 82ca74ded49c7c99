-- Clauses by their numbers.
use Rattle.std.proofs.Common.{◌≡◌, ℕ, suc, ◌+◌, ◌-◌, ◌<◌, ◌≤◌, Bool, true, false, Option, None, Some, List, [], ◌∷◌, ◌++◌, ◌==◌, ◌&&◌, length, get_or, take, is_some, refl, sym, ap, ◌∙◌, subst, arith}
use Rattle.std.specs.List.{slice_get}
use Rattle.std.proofs.lemmas.Bool.Decides.{nat_tests}
use Rattle.std.proofs.lemmas.List.{take_more}
use Rattle.std.proofs.lemmas.Option.{slice_get_within, slice_get-get_or}
use Rattle.clause_form.specs.declared.lit.Lit.{Lit}
use Rattle.clause_form.specs.declared.store.ClauseRef.{ClauseRef}
use Rattle.clause_form.specs.Literals.{variable, has, rises_above, is_within, are_within}
use Rattle.clause_form.specs.ClauseStore.{Stored, lits_at, HasAt}
use Rattle.clause_form.specs.DerivedLine.{clause_at}
use Rattle.clause_form.specs.LearnedLine.{is_closed, is_settled}
use Rattle.clause_form.proofs.Negations.{same_lit}
use Rattle.clause_solver.specs.Numbering.{clauses_of, lits_or_none, HasEach}

-- the reference at a place is one of the store, and has that place's clause
pub clauses_of_get : (ss : List Stored) (refs : List ClauseRef) (k : ℕ) (r : ClauseRef) → HasEach ss refs → slice_get refs k ≡ Some r → HasAt ss r.0 × (slice_get (clauses_of ss refs) k ≡ lits_at ss r.0)
clauses_of_get ss [] k r h e = absurd (cc)
clauses_of_get ss (x ∷ xs) Prim.Native.Nat.zero r h e =
    let s : x ≡ r = cc in
    subst (λ y. HasAt ss y.0 × (Some (lits_or_none (lits_at ss x.0)) ≡ lits_at ss y.0)) s (h.0, whole (lits_at ss x.0) h.0)
  where
    whole : (o : Option (List Lit)) → is_some o ≡ true → Some (lits_or_none o) ≡ o
    whole None p = absurd (cc)
    whole (Some c) p = refl
clauses_of_get ss (x ∷ xs) (suc k) r h e = clauses_of_get ss xs k r h.1 e

-- there are as many clauses as references
pub length-clauses_of : (ss : List Stored) (refs : List ClauseRef) → length (clauses_of ss refs) ≡ length refs
length-clauses_of ss [] = refl
length-clauses_of ss (x ∷ xs) = ap suc (length-clauses_of ss xs)

-- numbers are counted from 1
pub clause_at_suc : (cs : List (List Lit)) (k : ℕ) → clause_at cs (k + 1) ≡ slice_get cs k
clause_at_suc cs k = grind (arith, nat_tests)

-- a numbered clause is over the variables
pub within_get : (n : ℕ) (cs : List (List Lit)) (k : ℕ) (c : List Lit) → are_within n cs ≡ true → slice_get cs k ≡ Some c → (rises_above 0 c ≡ true) × (is_within n c ≡ true)
within_get n [] k c h e = absurd (cc)
within_get n (x ∷ xs) Prim.Native.Nat.zero c h e =
    let s : x ≡ c = cc in
    subst (λ y. (rises_above 0 y ≡ true) × (is_within n y ≡ true)) s (grind (arith, h), grind (arith, h))
within_get n (x ∷ xs) (suc k) c h e = within_get n xs k c (grind (arith, h)) e

-- a literal of a clause over the variables
pub within_has : (n : ℕ) (c : List Lit) (l : Lit) → is_within n c ≡ true → has c l ≡ true → (0 < variable l) × (variable l ≤ n)
within_has n [] l h e = absurd (cc)
within_has n (x ∷ xs) l h e = go (λ p q. within_has n xs l p q) (x.0 == l.0) refl
  where
    go : (is_within n xs ≡ true → has xs l ≡ true → (0 < variable l) × (variable l ≤ n)) → (b : Bool) → (x.0 == l.0) ≡ b → (0 < variable l) × (variable l ≤ n)
    go ih true f = subst (λ y. (0 < variable y) × (variable y ≤ n)) (same_lit x l (grind (arith, nat_tests, f))) (grind (arith, nat_tests, h), grind (arith, nat_tests, h))
    go ih false f = ih (grind (arith, h)) (grind (arith, nat_tests, f, e))

pub closed-append : (set : List Lit) (a b : List (List Lit)) → is_closed set (a ++ b) ≡ (is_closed set a && is_closed set b)
closed-append set [] b = refl
closed-append set (x ∷ xs) b = let ih = closed-append set xs b in grind (arith, ih)

-- a set closed over so many clauses, and one more
pub closed_more : (set : List Lit) (cs : List (List Lit)) (k : ℕ) (c : List Lit) → is_closed set (take k cs) ≡ true → slice_get cs k ≡ Some c → is_settled set c ≡ true → is_closed set (take (k + 1) cs) ≡ true
closed_more set cs k c h e s =
    subst (λ x. is_closed set x ≡ true) (sym (take_more cs k c (slice_get_within cs k c e))) (grind (arith, closed-append set (take k cs) (get_or cs k c ∷ []), h, g))
  where
    g : is_settled set (get_or cs k c) ≡ true
    g = let f = slice_get-get_or cs k c (slice_get_within cs k c e) in
        let w : get_or cs k c ≡ c = cc in
        ap (is_settled set) w ∙ s

-- the clause of a number is that of its reference
pub clause_there : (ss : List Stored) (refs : List ClauseRef) (n : ℕ) (d : ClauseRef) → HasEach ss refs → 0 < n → n ≤ length refs → HasAt ss (get_or refs (n - 1) d).0 × (clause_at (clauses_of ss refs) n ≡ lits_at ss (get_or refs (n - 1) d).0)
clause_there ss refs n d h a b =
    let w : n - 1 < length refs = omega arith in
    let r = clauses_of_get ss refs (n - 1) (get_or refs (n - 1) d) h (slice_get-get_or refs (n - 1) d w) in
    (r.0, shift ∙ r.1)
  where
    shift : clause_at (clauses_of ss refs) n ≡ slice_get (clauses_of ss refs) (n - 1)
    shift = grind (arith, nat_tests, a)

-- the same of a reference that was read
pub clause_read : (ss : List Stored) (refs : List ClauseRef) (n : ℕ) (r : ClauseRef) → HasEach ss refs → 0 < n → n ≤ length refs → r ≡ get_or refs (n - 1) r → HasAt ss r.0 × (clause_at (clauses_of ss refs) n ≡ lits_at ss r.0)
clause_read ss refs n r h a b e = subst (λ q. HasAt ss q.0 × (clause_at (clauses_of ss refs) n ≡ lits_at ss q.0)) (sym e) (clause_there ss refs n r h a b)
