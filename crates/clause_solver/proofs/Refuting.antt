-- A refutation at level zero.
use Rattle.std.proofs.Common.{◌≡◌, ℕ, suc, Bool, true, false, Option, None, Some, List, [], ◌∷◌, ◌++◌, ◌==◌, if◌then◌else◌, is_none, reverse, refl, sym, ap, ◌∙◌, subst, arith}
use Rattle.std.proofs.lemmas.Bool.Decides.{nat_tests}
use Rattle.std.proofs.lemmas.List.{reverse-append}
use Rattle.clause_form.specs.declared.lit.Lit.{Lit}
use Rattle.clause_form.specs.Literals.{negation, has}
use Rattle.clause_form.specs.DerivedLine.{clause_at, unfalse, option_unfalse, follow, closes, is_empty, is_derived}
use Rattle.clause_form.specs.LearnedLine.{IsConsistent}
use Rattle.clause_form.proofs.Negations.{same_lit}
use Rattle.clause_form.proofs.Sets.{has_self, unfalse_has, unfalse_none, unfalse_same, each_has}
use Rattle.clause_solver.specs.declared.trail.Entry.{Entry}
use Rattle.clause_solver.specs.Trail.{lits_of, decisions, IsTrail, HasReason}
use Rattle.clause_solver.specs.Resolvent.{IsPart}
use Rattle.clause_solver.specs.Propagation.{IsConflict}
use Rattle.clause_solver.proofs.Resolving.{trail_consistent, all_false, closes_some}

-- a refutation, from the newest literal on: the hints so far close from every set with what is left of the trail
pub record IsRefuting (clauses : List (List Lit)) (whole : List Lit) (t : List Entry) (hints : List ℕ) : Type 0 where
  pub is_trail : (n : ℕ) × IsTrail n clauses t
  pub flat : decisions t ≡ 0
  pub part : IsPart (lits_of t) whole
  pub consistent : IsConsistent whole
  pub derives : (set : List Lit) → IsPart (lits_of t) set → IsPart set whole → closes clauses set (reverse hints) ≡ true

-- the refutation begins with the clause in conflict
pub refuting_start : (n : ℕ) (cs : List (List Lit)) (t : List Entry) (number : ℕ) (hints : List ℕ) → IsTrail n cs t → decisions t ≡ 0 → IsConflict cs t number → hints ≡ number ∷ [] → IsRefuting cs (lits_of t) t hints
refuting_start n cs t number hints i flat con e =
    subst (λ h. IsRefuting cs (lits_of t) t h) (sym e) (record {
      is_trail = (n, i);
      flat = flat;
      part = λ l h. h;
      consistent = trail_consistent n cs t i;
      derives = λ set up part. from set up (clause_at cs number) refl con;
    })
  where
    from : (set : List Lit) → IsPart (lits_of t) set → (o : Option (List Lit)) → clause_at cs number ≡ o → option_unfalse (lits_of t) (clause_at cs number) ≡ Some [] → follow true (option_unfalse set (clause_at cs number)) (λ l. closes cs (l ∷ set) []) ≡ true
    from set up None f w = absurd (let z : None ≡ Some [] = ap (option_unfalse (lits_of t)) (sym f) ∙ w in cc)
    from set up (Some c) f w =
        let left : unfalse (lits_of t) c ≡ [] = (let z : Some (unfalse (lits_of t) c) ≡ Some [] = ap (option_unfalse (lits_of t)) (sym f) ∙ w in cc) in
        let none = unfalse_none set c (each_has (λ l. has set (negation l) ≡ true) c (λ l h. up (negation l) (all_false (lits_of t) c l left h))) in
        subst (λ o. follow true (option_unfalse set o) (λ l. closes cs (l ∷ set) []) ≡ true) (sym f)
        (subst (λ u. follow true (Some u) (λ l. closes cs (l ∷ set) []) ≡ true) (sym none) refl)

-- and goes on with the clause that set the newest literal
pub refuting_more : (cs : List (List Lit)) (whole : List Lit) (e : Entry) (es : List Entry) (hints : List ℕ) (r : ℕ) → IsRefuting cs whole (e ∷ es) hints → e.reason ≡ Some r → IsRefuting cs whole es (hints ++ r ∷ [])
refuting_more cs whole e es hints r a reason =
    record {
      is_trail = (a.is_trail.0, a.is_trail.1.1);
      flat = flat;
      part = λ l p. a.part l (grind (arith, p));
      consistent = a.consistent;
      derives = λ set up part. subst (λ x. closes cs set x ≡ true) (sym (reverse-append hints (r ∷ []))) (from set up part (clause_at cs r) refl (subst (HasReason cs (lits_of es) e.lit) reason a.is_trail.1.0.why));
    }
  where
    named : is_none e.reason ≡ false
    named = ap is_none reason

    flat : decisions es ≡ 0
    flat = let f = a.flat in grind (arith, f, named)

    here : has whole e.lit ≡ true
    here = a.part e.lit (has_self e.lit (lits_of es))

    from : (set : List Lit) → IsPart (lits_of es) set → IsPart set whole → (o : Option (List Lit)) → clause_at cs r ≡ o → option_unfalse (lits_of es) (clause_at cs r) ≡ Some (e.lit ∷ []) → follow (is_empty (reverse hints)) (option_unfalse set (clause_at cs r)) (λ l. closes cs (l ∷ set) (reverse hints)) ≡ true
    from set up part None f w = absurd (let z : None ≡ Some (e.lit ∷ []) = ap (option_unfalse (lits_of es)) (sym f) ∙ w in cc)
    from set up part (Some c) f w =
        subst (λ b. follow b (option_unfalse set (clause_at cs r)) (λ l. closes cs (l ∷ set) (reverse hints)) ≡ true) (sym (closes_some cs (e.lit ∷ set) (reverse hints) rest))
        (subst (λ o. follow false (option_unfalse set o) (λ l. closes cs (l ∷ set) (reverse hints)) ≡ true) (sym f)
        (subst (λ u. follow false (Some u) (λ l. closes cs (l ∷ set) (reverse hints)) ≡ true) (sym (unfalse_same set (lits_of es) c (each_has (λ l. has set (negation l) ≡ has (lits_of es) (negation l)) c agree) ∙ left)) rest))
      where
        left : unfalse (lits_of es) c ≡ e.lit ∷ []
        left = let z : Some (unfalse (lits_of es) c) ≡ Some (e.lit ∷ []) = ap (option_unfalse (lits_of es)) (sym f) ∙ w in cc

        unless : (l : Lit) → e.lit ≡ l → (b : Bool) → has set (negation l) ≡ b → has set (negation l) ≡ false
        unless l s true g = absurd (let z : true ≡ false = sym (part (negation l) g) ∙ a.consistent l (subst (λ y. has whole y ≡ true) s here) in cc)
        unless l s false g = g

        agree : (l : Lit) → has c l ≡ true → has set (negation l) ≡ has (lits_of es) (negation l)
        agree l i = go (has (lits_of es) (negation l)) refl
          where
            go : (b : Bool) → has (lits_of es) (negation l) ≡ b → has set (negation l) ≡ has (lits_of es) (negation l)
            go true g = up (negation l) g ∙ sym g
            go false g =
                let u = unfalse_has (lits_of es) c l in
                let v = ap (λ x. has x l) left in
                unless l (same_lit e.lit l (grind (arith, nat_tests, u, v, i, g))) (has set (negation l)) refl ∙ sym g

        up_more : (l : Lit) → has (lits_of (e ∷ es)) l ≡ true → (b : Bool) → (e.lit.0 == l.0) ≡ b → has (e.lit ∷ set) l ≡ true
        up_more l h true g = grind (arith, g)
        up_more l h false g = let p = up l (grind (arith, g, h)) in grind (arith, p)

        part_more : (l : Lit) → has (e.lit ∷ set) l ≡ true → (b : Bool) → (e.lit.0 == l.0) ≡ b → has whole l ≡ true
        part_more l h true g = subst (λ y. has whole y ≡ true) (same_lit e.lit l (grind (arith, nat_tests, g))) here
        part_more l h false g = part l (grind (arith, g, h))

        rest : closes cs (e.lit ∷ set) (reverse hints) ≡ true
        rest = a.derives (e.lit ∷ set) (λ l h. up_more l h (e.lit.0 == l.0) refl) (λ l h. part_more l h (e.lit.0 == l.0) refl)

-- which there is, since nothing was decided
pub refuting_named : (cs : List (List Lit)) (whole : List Lit) (e : Entry) (es : List Entry) (hints : List ℕ) → IsRefuting cs whole (e ∷ es) hints → e.reason ≡ None → ⊥
refuting_named cs whole e es hints a reason =
    let n : is_none e.reason ≡ true = ap is_none reason in
    let f = a.flat in
    grind (arith, n, f)

-- the empty line
pub refuting_end : (n : ℕ) (cs : List (List Lit)) (whole : List Lit) (hints : List ℕ) (c : List Lit) (h : List ℕ) → IsRefuting cs whole [] hints → c ≡ [] → h ≡ reverse hints → is_derived n cs (record { clause = c; hints = h }) ≡ true
refuting_end n cs whole hints c h a e f =
    subst (λ x. is_derived n cs (record { clause = x; hints = h }) ≡ true) (sym e)
    (subst (λ x. is_derived n cs (record { clause = []; hints = x }) ≡ true) (sym f) (a.derives [] (λ l p. p) (λ l p. absurd (cc))))

-- nothing was decided before it
pub flat_tail : (e : Entry) (es : List Entry) (t : List Entry) → t ≡ e ∷ es → decisions t ≡ 0 → decisions es ≡ 0
flat_tail e es t s f = go (is_none e.reason) (ap decisions (sym s) ∙ f)
  where
    go : (b : Bool) → (if b then suc (decisions es) else decisions es) ≡ 0 → decisions es ≡ 0
    go true h = absurd (omega (arith, h))
    go false h = h
