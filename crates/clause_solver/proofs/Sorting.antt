-- Literals in the order of their variables.
use Rattle.std.proofs.Common.{◌≡◌, ℕ, suc, ◌+◌, ◌<◌, ◌≤◌, Bool, true, false, List, [], ◌∷◌, ◌++◌, ◌==◌, cond, ◌⊎◌, inl, inr, length, get_or, take, drop, count_by, refl, sym, ap, ◌∙◌, subst, arith}
use Rattle.std.proofs.lemmas.Bool.Decides.{nat_tests}
use Rattle.std.proofs.lemmas.List.{drop_more}
use Rattle.std.specs.List.{list_any}
use Rattle.std.specs.List.Sorted.{IsPermutation, IsNonDecreasingBy}
use Rattle.std.proofs.lemmas.List.Sorted.{list_any-IsPermutation, sum_by-IsPermutation}
use Rattle.clause_form.specs.declared.lit.Lit.{Lit}
use Rattle.clause_form.specs.Literals.{variable, negation, has, rises_above, last_variable}
use Rattle.clause_form.proofs.Negations.{same_lit, same_variable}
use Rattle.clause_form.proofs.Rising.{last_variable-push}
use Rattle.clause_form.proofs.Sets.{has_self}
use Rattle.clause_solver.specs.Learning.{AreNew, IsSorted}
use Rattle.clause_solver.proofs.Counting.{count_yes, count_no, count_grows, count_some, count_found}

-- a literal of this variable
abbrev pub speaks_of : ℕ → Lit → Bool
speaks_of v l = variable l == v

has_any : (xs : List Lit) (l : Lit) → list_any (λ x. x.0 == l.0) xs ≡ has xs l
has_any [] l = refl
has_any (x ∷ xs) l = let ih = has_any xs l in grind (arith, ih)

-- the same literals in another order
has_permutation : (xs ys : List Lit) → IsPermutation xs ys → (l : Lit) → has ys l ≡ has xs l
has_permutation xs ys p l = sym (has_any ys l) ∙ sym (list_any-IsPermutation (λ x. x.0 == l.0) xs ys p) ∙ has_any xs l

-- no variable has two literals that are new to each other
once : (v : ℕ) (xs : List Lit) → AreNew xs → count_by (speaks_of v) xs ≤ 1
once v [] n = omega arith
once v (x ∷ xs) n = go (once v xs n.1) (speaks_of v x) refl
  where
    none : speaks_of v x ≡ true → (k : ℕ) → count_by (speaks_of v) xs ≡ k → k ≤ 0
    none e Prim.Native.Nat.zero f = omega arith
    none e (suc k) f = absurd (other (count_found (speaks_of v) xs (omega (arith, f))))
      where
        other : (l : Lit) × (has xs l ≡ true) × (speaks_of v l ≡ true) → ⊥
        other r = met (same_variable r.0 x (let a = r.2 in grind (arith, nat_tests, a, e)))
          where
            met : (r.0 ≡ x) ⊎ (r.0 ≡ negation x) → ⊥
            met (inl s) = let z : true ≡ false = sym r.1 ∙ ap (has xs) s ∙ n.0.self in cc
            met (inr s) = let z : true ≡ false = sym r.1 ∙ ap (has xs) s ∙ n.0.other in cc

    go : count_by (speaks_of v) xs ≤ 1 → (b : Bool) → speaks_of v x ≡ b → count_by (speaks_of v) (x ∷ xs) ≤ 1
    go ih true e =
        let c = count_yes (speaks_of v) x xs e in
        let z = none e (count_by (speaks_of v) xs) refl in
        omega (arith, c, z)
    go ih false e = let c = count_no (speaks_of v) x xs e in omega (arith, c, ih)

above_zero : (xs : List Lit) (l : Lit) → AreNew xs → has xs l ≡ true → 0 < variable l
above_zero [] l n h = absurd (cc)
above_zero (x ∷ xs) l n h = go (λ i. above_zero xs l n.1 i) (x.0 == l.0) refl
  where
    go : (has xs l ≡ true → 0 < variable l) → (b : Bool) → (x.0 == l.0) ≡ b → 0 < variable l
    go ih true f = subst (λ y. 0 < variable y) (same_lit x l (grind (arith, nat_tests, f))) n.0.above
    go ih false f = ih (grind (arith, f, h))

-- the variables of a list don't fall, and none stands twice
record IsOrdered (xs : List Lit) : Type 0 where
  pub order : IsNonDecreasingBy variable xs
  pub once : (v : ℕ) → count_by (speaks_of v) xs ≤ 1

ordered_tail : (x : Lit) (xs : List Lit) → IsOrdered (x ∷ xs) → IsOrdered xs
ordered_tail x xs o =
    record {
      order = λ i j d a b. o.order (suc i) (suc j) d (omega (arith, a)) (omega (arith, b));
      once = λ v. let a = o.once v in let b = count_grows (speaks_of v) x xs in omega (arith, a, b);
    }

rises : (k : ℕ) (xs : List Lit) → IsOrdered xs → ((l : Lit) → has xs l ≡ true → k < variable l) → rises_above k xs ≡ true
rises k [] o h = refl
rises k (x ∷ xs) o h =
    let ih = rises (variable x) xs (ordered_tail x xs o) (λ l i. next xs l i o) in
    let a = h x (has_self x xs) in
    grind (arith, nat_tests, ih, a)
  where
    later : (xs : List Lit) (l : Lit) → has xs l ≡ true → (i : ℕ) × (i < length xs) × (get_or xs i l ≡ l)
    later [] l i = absurd (cc)
    later (y ∷ ys) l i = go (λ j. later ys l j) (y.0 == l.0) refl
      where
        go : (has ys l ≡ true → (i : ℕ) × (i < length ys) × (get_or ys i l ≡ l)) → (b : Bool) → (y.0 == l.0) ≡ b → (i : ℕ) × (i < length (y ∷ ys)) × (get_or (y ∷ ys) i l ≡ l)
        go ih true f = (0, omega arith, same_lit y l (grind (arith, nat_tests, f)))
        go ih false f = up (ih (grind (arith, f, i)))
          where
            up : (i : ℕ) × (i < length ys) × (get_or ys i l ≡ l) → (i : ℕ) × (i < length (y ∷ ys)) × (get_or (y ∷ ys) i l ≡ l)
            up r = (suc r.0, (let a = r.1 in omega (arith, a)), r.2)

    next : (xs : List Lit) (l : Lit) → has xs l ≡ true → IsOrdered (x ∷ xs) → variable x < variable l
    next xs l i o = go (later xs l i) (variable x == variable l) refl
      where
        go : (i : ℕ) × (i < length xs) × (get_or xs i l ≡ l) → (b : Bool) → (variable x == variable l) ≡ b → variable x < variable l
        go r true f =
            let c = count_yes (speaks_of (variable l)) x xs f in
            let s = count_some (speaks_of (variable l)) xs l i (grind (arith, nat_tests)) in
            let m = o.once (variable l) in
            absurd (omega (arith, c, s, m))
        go r false f =
            let a : variable x ≤ variable (get_or xs r.0 l) = o.order 0 (suc r.0) l (omega arith) (let w = r.1 in omega (arith, w)) in
            let b = ap variable r.2 in
            let ne : variable x ≡ variable l → ⊥ = (λ e. (grind (arith, nat_tests, f, e))) in
            omega (arith, a, b, ne)

-- literals that are new to each other, in the order of their variables, are a clause
pub sorted : (xs ys : List Lit) → AreNew xs → IsPermutation xs ys → IsNonDecreasingBy variable ys → IsSorted xs ys
sorted xs ys n p o =
    record {
      rising = rises 0 ys (record { order = o; once = λ v. let a = once v xs n in let b = sum_by-IsPermutation (λ l. cond (speaks_of v l) 1 0) xs ys p in omega (arith, a, b) }) (λ l h. above_zero xs l n (sym (has_permutation xs ys p l) ∙ h));
      same = has_permutation xs ys p;
    }

-- so many of the literals are in the clause, and the others may follow
pub record IsBegun (lits clause : List Lit) (k : ℕ) : Type 0 where
  pub same : clause ≡ take k lits
  pub rest : rises_above (last_variable 0 clause) (drop k lits) ≡ true

pub begun_next : (lits clause : List Lit) (k : ℕ) (d : Lit) → k < length lits → IsBegun lits clause k → last_variable 0 clause < variable (get_or lits k d)
begun_next lits clause k d h b =
    let q = subst (λ y. rises_above (last_variable 0 clause) y ≡ true) (drop_more lits k d h) b.rest in
    grind (arith, nat_tests, q)

pub begun_more : (lits clause : List Lit) (k : ℕ) (d : Lit) → k < length lits → IsBegun lits clause k → take (k + 1) lits ≡ take k lits ++ get_or lits k d ∷ [] → IsBegun lits (clause ++ get_or lits k d ∷ []) (k + 1)
begun_more lits clause k d h b t =
    let q = subst (λ y. rises_above (last_variable 0 clause) y ≡ true) (drop_more lits k d h) b.rest in
    let v = last_variable-push 0 clause (get_or lits k d) in
    record {
      same = ap (λ y. y ++ get_or lits k d ∷ []) b.same ∙ sym t;
      rest = subst (λ y. rises_above y (drop (k + 1) lits) ≡ true) (sym v) (grind (arith, nat_tests, q));
    }
