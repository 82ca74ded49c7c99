-- How many literals of a clause pass a test.
use Rattle.std.proofs.Common.{◌≡◌, ℕ, suc, ◌<◌, ◌≤◌, Bool, true, false, List, [], ◌∷◌, ◌==◌, cond, count_by, ap, ◌∙◌, refl, arith}
use Rattle.std.proofs.lemmas.Bool.Decides.{nat_tests}
use Rattle.std.proofs.lemmas.List.Sums.{sum_by-cons}
use Rattle.clause_form.specs.declared.lit.Lit.{Lit}
use Rattle.clause_form.specs.Literals.{has}
use Rattle.clause_form.proofs.Negations.{same_lit}
use Rattle.clause_form.proofs.Sets.{has_self}

abbrev one : Bool → ℕ
one b = cond b 1 0

-- a literal in front that passes
pub count_yes : (p : Lit → Bool) (x : Lit) (xs : List Lit) → p x ≡ true → count_by p (x ∷ xs) ≡ suc (count_by p xs)
count_yes p x xs e =
    let c : one (p x) ≡ 1 = ap one e in
    let s = sum_by-cons (λ y. one (p y)) x xs in
    omega (arith, s, c)

-- and one that doesn't
pub count_no : (p : Lit → Bool) (x : Lit) (xs : List Lit) → p x ≡ false → count_by p (x ∷ xs) ≡ count_by p xs
count_no p x xs e =
    let c : one (p x) ≡ 0 = ap one e in
    let s = sum_by-cons (λ y. one (p y)) x xs in
    omega (arith, s, c)

-- another literal in front lowers no count
pub count_grows : (p : Lit → Bool) (x : Lit) (xs : List Lit) → count_by p xs ≤ count_by p (x ∷ xs)
count_grows p x xs = go (p x) refl
  where
    go : (b : Bool) → p x ≡ b → count_by p xs ≤ count_by p (x ∷ xs)
    go true e = let c = count_yes p x xs e in omega (arith, c)
    go false e = let c = count_no p x xs e in omega (arith, c)

-- a literal of the list that passes is counted
pub count_some : (p : Lit → Bool) (xs : List Lit) (l : Lit) → has xs l ≡ true → p l ≡ true → 1 ≤ count_by p xs
count_some p [] l h e = absurd (cc)
count_some p (x ∷ xs) l h e = go (λ i. count_some p xs l i e) (x.0 == l.0) refl
  where
    go : (has xs l ≡ true → 1 ≤ count_by p xs) → (b : Bool) → (x.0 == l.0) ≡ b → 1 ≤ count_by p (x ∷ xs)
    go ih true f =
        let s = count_yes p x xs (ap p (same_lit x l (grind (arith, nat_tests, f))) ∙ e) in
        omega (arith, s)
    go ih false f = let i = ih (grind (arith, f, h)) in let g = count_grows p x xs in omega (arith, i, g)

-- two literals that pass are counted twice
pub count_two : (p : Lit → Bool) (xs : List Lit) (x y : Lit) → has xs x ≡ true → has xs y ≡ true → (x.0 == y.0) ≡ false → p x ≡ true → p y ≡ true → 2 ≤ count_by p xs
count_two p [] x y a b d e f = absurd (cc)
count_two p (z ∷ zs) x y a b d e f = go (λ i j. count_two p zs x y i j d e f) (z.0 == x.0) refl (z.0 == y.0) refl
  where
    go : (has zs x ≡ true → has zs y ≡ true → 2 ≤ count_by p zs) → (u : Bool) → (z.0 == x.0) ≡ u → (v : Bool) → (z.0 == y.0) ≡ v → 2 ≤ count_by p (z ∷ zs)
    go ih true g true h = absurd (grind (arith, nat_tests, g, h, d))
    go ih true g false h =
        let s = count_yes p z zs (ap p (same_lit z x (grind (arith, nat_tests, g))) ∙ e) in
        let o = count_some p zs y (grind (arith, h, b)) f in
        omega (arith, s, o)
    go ih false g true h =
        let s = count_yes p z zs (ap p (same_lit z y (grind (arith, nat_tests, h))) ∙ f) in
        let o = count_some p zs x (grind (arith, g, a)) e in
        omega (arith, s, o)
    go ih false g false h =
        let i = ih (grind (arith, g, a)) (grind (arith, h, b)) in
        let s = count_grows p z zs in
        omega (arith, i, s)

-- where something is counted, a literal passes
pub count_found : (p : Lit → Bool) (xs : List Lit) → 0 < count_by p xs → (l : Lit) × (has xs l ≡ true) × (p l ≡ true)
count_found p [] h = absurd (omega arith)
count_found p (x ∷ xs) h = go (λ q. count_found p xs q) (p x) refl
  where
    go : (0 < count_by p xs → (l : Lit) × (has xs l ≡ true) × (p l ≡ true)) → (b : Bool) → p x ≡ b → (l : Lit) × (has (x ∷ xs) l ≡ true) × (p l ≡ true)
    go ih true e = (x, has_self x xs, e)
    go ih false e = up (ih (let c = count_no p x xs e in omega (arith, c, h)))
      where
        up : (l : Lit) × (has xs l ≡ true) × (p l ≡ true) → (l : Lit) × (has (x ∷ xs) l ≡ true) × (p l ≡ true)
        up r = (r.0, (let i = r.1 in grind (arith, i)), r.2)
