-- The back jump to the second greatest level of a line.
use Rattle.std.proofs.Common.{◌≡◌, ℕ, Bool, true, false, Option, None, Some, List, [], ◌∷◌, ◌++◌, ◌==◌, ◌⊎◌, inl, inr, max, unwrap_or, refl, sym, ap, ◌∙◌, subst, arith}
use Rattle.std.proofs.lemmas.Bool.Decides.{nat_tests}
use Rattle.clause_form.specs.declared.lit.Lit.{Lit}
use Rattle.clause_form.specs.Literals.{negation, has}
use Rattle.clause_form.proofs.Negations.{same_lit, negation-negation}
use Rattle.clause_form.proofs.Sets.{has_self}
use Rattle.clause_solver.specs.declared.trail.Entry.{Entry}
use Rattle.clause_solver.specs.Trail.{lits_of, level_of, up_to, IsTrail}
use Rattle.clause_solver.specs.Learning.{IsAsserting, greatest_level}
use Rattle.clause_solver.proofs.Learned.{outside}
use Rattle.clause_solver.proofs.LevelTables.{has_level}
use Rattle.clause_solver.proofs.Levels.{trail_up_to, up_to_part, up_to_low, level_up_to, IsSettledBelow, extended, settled_below, settled_none}
use Rattle.clause_solver.proofs.Resolving.{trail_fresh, trail_consistent, first_open}

-- level zero, or the level at which a literal of the list became false
abbrev pub IsLevelIn : List Entry → List Lit → ℕ → Type 0
IsLevelIn t c k = (k ≡ 0) ⊎ ((l : Lit) × (has c l ≡ true) × (level_of t (negation l) ≡ Some k))

pub level_in : (t : List Entry) (c : List Lit) → IsLevelIn t c (greatest_level t c)
level_in t [] = inl refl
level_in t (x ∷ xs) = go (level_of t (negation x)) refl (level_in t xs)
  where
    later : (k : ℕ) → IsLevelIn t xs k → IsLevelIn t (x ∷ xs) k
    later k (inl e) = inl e
    later k (inr r) = inr (r.0, (let i = r.1 in grind (arith, i)), r.2)

    pick : (a b : ℕ) → (max a b ≡ a) ⊎ (max a b ≡ b)
    pick a b = grind arith

    go : (o : Option ℕ) → level_of t (negation x) ≡ o → IsLevelIn t xs (greatest_level t xs) → IsLevelIn t (x ∷ xs) (max (unwrap_or (level_of t (negation x)) 0) (greatest_level t xs))
    go None e i =
        let same : max (unwrap_or (level_of t (negation x)) 0) (greatest_level t xs) ≡ greatest_level t xs = (let z = ap (λ o. unwrap_or o 0) e in omega (arith, z)) in
        subst (IsLevelIn t (x ∷ xs)) (sym same) (later (greatest_level t xs) i)
    go (Some k) e i = which (pick (unwrap_or (level_of t (negation x)) 0) (greatest_level t xs))
      where
        which : (max (unwrap_or (level_of t (negation x)) 0) (greatest_level t xs) ≡ unwrap_or (level_of t (negation x)) 0) ⊎ (max (unwrap_or (level_of t (negation x)) 0) (greatest_level t xs) ≡ greatest_level t xs)
            → IsLevelIn t (x ∷ xs) (max (unwrap_or (level_of t (negation x)) 0) (greatest_level t xs))
        which (inl s) = subst (IsLevelIn t (x ∷ xs)) (sym (s ∙ ap (λ o. unwrap_or o 0) e)) (inr (x, has_self x xs, e))
        which (inr s) = subst (IsLevelIn t (x ∷ xs)) (sym s) (later (greatest_level t xs) i)

-- after the jump the trail is one over the clauses with the line
pub jumped : (n : ℕ) (cs : List (List Lit)) (t : List Entry) (c : List Lit) → IsTrail n cs t → IsAsserting (lits_of t) c → IsTrail n (cs ++ c ∷ []) (up_to (greatest_level t c) t)
jumped n cs t c i a = extended n cs c (up_to k t) (trail_up_to n k cs t i) (settled (level_in t c))
  where
    k : ℕ
    k = greatest_level t c

    settled : IsLevelIn t c k → IsSettledBelow (up_to k t) c
    settled (inl e) = settled_none (up_to k t) c (let b = up_to_low k t in omega (arith, b, e))
    settled (inr r) =
        settled_below (up_to k t) c a.point r.0 k (trail_fresh n cs (up_to k t) (trail_up_to n k cs t i)) (up_to_low k t) a.inside r.1 differ
        (outside (lits_of (up_to k t)) (lits_of t) a.point (up_to_part k t) (let u = a.unset in grind (arith, u)))
        (outside (lits_of (up_to k t)) (lits_of t) (negation a.point) (up_to_part k t) (first_open (lits_of t) a.point a.unset))
        (outside (lits_of (up_to k t)) (lits_of t) r.0 (up_to_part k t) untrue)
        (λ h. level_up_to k t (negation r.0) (trail_fresh n cs t i) h ∙ r.2)
      where
        set : has (lits_of t) (negation r.0) ≡ true
        set = let h = has_level t (negation r.0) in let e = r.2 in grind (arith, h, e)

        untrue : has (lits_of t) r.0 ≡ false
        untrue = ap (has (lits_of t)) (sym (negation-negation r.0)) ∙ trail_consistent n cs t i (negation r.0) set

        differ : (a.point.0 == r.0.0) ≡ false
        differ = go (a.point.0 == r.0.0) refl
          where
            go : (b : Bool) → (a.point.0 == r.0.0) ≡ b → (a.point.0 == r.0.0) ≡ false
            go true e = absurd (let f = first_open (lits_of t) a.point a.unset in let z = same e in let w : true ≡ false = sym set ∙ z ∙ f in cc)
              where
                same : (a.point.0 == r.0.0) ≡ true → has (lits_of t) (negation r.0) ≡ has (lits_of t) (negation a.point)
                same e = ap (λ l. has (lits_of t) (negation l)) (sym (same_lit a.point r.0 (grind (arith, nat_tests, e))))
            go false e = e
