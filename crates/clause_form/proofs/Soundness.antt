-- What a derived line says: it is true wherever the clauses before it are.
use Rattle.std.proofs.Common.{◌≡◌, ℕ, zero, suc, ◌-◌, Bool, true, false, Option, None, Some, List, [], ◌∷◌, ◌==◌, if◌then◌else◌, map, slice_get, refl, sym, ap, ◌∙◌, subst, arith}
use Rattle.std.proofs.lemmas.Bool.Decides.{nat_tests}
use Rattle.clause_form.specs.declared.lit.Lit.{Lit}
use Rattle.clause_form.specs.declared.line.Line.{Line}
use Rattle.clause_form.specs.Literals.{negation, has}
use Rattle.clause_form.specs.ClauseTruth.{is_lit_true, is_clause_true, are_true}
use Rattle.clause_form.specs.DerivedLine.{unfalse, option_unfalse, clause_at, follow, closes, is_empty, is_derived}
use Rattle.clause_form.proofs.Negations.{is_lit_true-negation, same_lit}

-- the assignment makes every literal of the set true
abbrev pub Makes : (ℕ → Bool) → List Lit → Type 0
Makes v set = (l : Lit) → has set l ≡ true → is_lit_true v l ≡ true

pub true_unfalse : (v : ℕ → Bool) (set c : List Lit) → Makes v set → is_clause_true v (unfalse set c) ≡ is_clause_true v c
true_unfalse v set [] m = refl
true_unfalse v set (x ∷ xs) m = go (true_unfalse v set xs m) (has set (negation x)) refl
  where
    go : is_clause_true v (unfalse set xs) ≡ is_clause_true v xs → (p : Bool) → has set (negation x) ≡ p → is_clause_true v (unfalse set (x ∷ xs)) ≡ is_clause_true v (x ∷ xs)
    go ih true e = let a = m (negation x) e in let b = is_lit_true-negation v x in grind (arith, ih, e, a, b)
    go ih false e = grind (arith, ih, e)

pub true_get : (v : ℕ → Bool) (cs : List (List Lit)) (k : ℕ) (c : List Lit) → are_true v cs ≡ true → slice_get cs k ≡ Some c → is_clause_true v c ≡ true
true_get v [] k c h e = absurd (cc)
true_get v (x ∷ xs) zero c h e =
    let s : x ≡ c = cc in
    let a = ap (is_clause_true v) s in
    grind (arith, h, a)
true_get v (x ∷ xs) (suc k) c h e = true_get v xs k c (grind (arith, h)) e

pub true_at : (v : ℕ → Bool) (cs : List (List Lit)) (n : ℕ) (c : List Lit) → are_true v cs ≡ true → clause_at cs n ≡ Some c → is_clause_true v c ≡ true
true_at v cs n c h e = go (n == 0) refl
  where
    go : (b : Bool) → (n == 0) ≡ b → is_clause_true v c ≡ true
    go true f = absurd (let g : None ≡ Some c = subst (λ b. (if b then None else slice_get cs (n - 1)) ≡ Some c) f e in cc)
    go false f = true_get v cs (n - 1) c h (subst (λ b. (if b then None else slice_get cs (n - 1)) ≡ Some c) f e)

pub makes_more : (v : ℕ → Bool) (set : List Lit) (l : Lit) → Makes v set → is_lit_true v l ≡ true → Makes v (l ∷ set)
makes_more v set l m t k i = go (l.0 == k.0) refl
  where
    go : (b : Bool) → (l.0 == k.0) ≡ b → is_lit_true v k ≡ true
    go true f = subst (λ x. is_lit_true v x ≡ true) (same_lit l k (grind (arith, nat_tests, f))) t
    go false f = m k (grind (arith, nat_tests, f, i))

pub closes_sound : (v : ℕ → Bool) (cs : List (List Lit)) (set : List Lit) (hints : List ℕ) → are_true v cs ≡ true → Makes v set → closes cs set hints ≡ true → ⊥
closes_sound v cs set [] h m e = cc
closes_sound v cs set (n ∷ ns) h m e =
    at (λ l t f. closes_sound v cs (l ∷ set) ns h (makes_more v set l m t) f) (clause_at cs n) refl e
  where
    left : (c u : List Lit) → clause_at cs n ≡ Some c → unfalse set c ≡ u → is_clause_true v u ≡ true
    left c u f g = ap (is_clause_true v) (sym g) ∙ true_unfalse v set c m ∙ true_at v cs n c h f

    by : ((l : Lit) → is_lit_true v l ≡ true → closes cs (l ∷ set) ns ≡ true → ⊥) → (last : Bool) (u : List Lit) → is_clause_true v u ≡ true → follow last (Some u) (λ l. closes cs (l ∷ set) ns) ≡ true → ⊥
    by again true [] t f = cc
    by again true (l ∷ ls) t f = cc
    by again false [] t f = cc
    by again false (l ∷ []) t f = again l (grind (arith, t)) f
    by again false (l ∷ (k ∷ ls)) t f = cc

    none : (last : Bool) → follow last None (λ l. closes cs (l ∷ set) ns) ≡ true → ⊥
    none true f = cc
    none false f = cc

    at : ((l : Lit) → is_lit_true v l ≡ true → closes cs (l ∷ set) ns ≡ true → ⊥) → (o : Option (List Lit)) → clause_at cs n ≡ o → follow (is_empty ns) (option_unfalse set o) (λ l. closes cs (l ∷ set) ns) ≡ true → ⊥
    at again None f g = none (is_empty ns) g
    at again (Some c) f g = by again (is_empty ns) (unfalse set c) (left c (unfalse set c) f refl) g

-- where a clause is false, its negations are true
pub makes_negations : (v : ℕ → Bool) (c : List Lit) → is_clause_true v c ≡ false → Makes v (map negation c)
makes_negations v [] h l i = absurd (cc)
makes_negations v (x ∷ xs) h l i = go (λ j. makes_negations v xs (grind (arith, h)) l j) ((negation x).0 == l.0) refl
  where
    go : (has (map negation xs) l ≡ true → is_lit_true v l ≡ true) → (b : Bool) → ((negation x).0 == l.0) ≡ b → is_lit_true v l ≡ true
    go rest true f =
        let a = is_lit_true-negation v x in
        let s = ap (is_lit_true v) (same_lit (negation x) l (grind (arith, nat_tests, f))) in
        grind (arith, a, s, h)
    go rest false f = rest (grind (arith, nat_tests, f, i))

-- a derived line is true wherever the clauses are
pub derived_true : (v : ℕ → Bool) (n : ℕ) (cs : List (List Lit)) (line : Line) → are_true v cs ≡ true → is_derived n cs line ≡ true → is_clause_true v line.clause ≡ true
derived_true v n cs line h d = go (is_clause_true v line.clause) refl
  where
    go : (b : Bool) → is_clause_true v line.clause ≡ b → is_clause_true v line.clause ≡ true
    go true e = e
    go false e = absurd (closes_sound v cs (map negation line.clause) line.hints h (makes_negations v line.clause e) (grind (arith, d)))
