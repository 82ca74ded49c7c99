-- Levels and literals of a trail.
use Rattle.std.proofs.Common.{◌≡◌, ℕ, ◌-◌, ◌≤◌, Bool, true, false, Option, None, Some, List, [], ◌∷◌, ◌++◌, ◌==◌, if◌then◌else◌, length, get_or, reverse, is_none, is_some, refl, ap, ◌∙◌, subst, arith}
use Rattle.std.proofs.lemmas.List.{reverse-append}
use Rattle.std.proofs.lemmas.Bool.Decides.{nat_tests}
use Rattle.clause_form.specs.declared.lit.Lit.{Lit}
use Rattle.clause_form.specs.Literals.{has}
use Rattle.clause_form.proofs.Negations.{same_lit}
use Rattle.clause_solver.specs.declared.trail.Entry.{Entry}
use Rattle.clause_solver.specs.Trail.{lits_of, decisions, level_of, up_to}
use Rattle.clause_solver.specs.LevelTable.{IsIndexed, IsPut}

-- a literal has a level where it is set
pub has_level : (t : List Entry) (l : Lit) → is_some (level_of t l) ≡ has (lits_of t) l
has_level [] l = refl
has_level (e ∷ es) l = let ih = has_level es l in grind (arith, nat_tests, ih)

-- a trail of no more decisions is kept whole
pub up_to_all : (k : ℕ) (t : List Entry) → decisions t ≤ k → up_to k t ≡ t
up_to_all k [] h = refl
up_to_all k (e ∷ es) h = grind (arith, nat_tests, h)

-- there are no more decisions than literals that are set
pub decisions_length : (t : List Entry) → decisions t ≤ length t
decisions_length [] = omega arith
decisions_length (e ∷ es) = let ih = decisions_length es in grind (arith, ih)

-- the table after the newest literal was taken out
pub popped : (e : Entry) (t : List Entry) (table new : List (Option ℕ)) (n : ℕ) → IsIndexed (e ∷ t) table n → IsPut table e.lit None new → IsIndexed t new (if is_none e.reason then n - 1 else n)
popped e t table new n inv p =
    record {
      levels = λ l. at l (p l) (inv.levels l) (e.lit.0 == l.0) refl;
      fresh = inv.fresh.1;
      level = let a = inv.level in grind (arith, a);
    }
  where
    gone : level_of t e.lit ≡ None
    gone = none (level_of t e.lit) (has_level t e.lit ∙ inv.fresh.0)
      where
        none : (o : Option ℕ) → is_some o ≡ false → o ≡ None
        none None h = refl
        none (Some x) h = absurd (cc)

    at : (l : Lit) → get_or new l.0 None ≡ (if e.lit.0 == l.0 then None else get_or table l.0 None) → get_or table l.0 None ≡ level_of (e ∷ t) l → (b : Bool) → (e.lit.0 == l.0) ≡ b → get_or new l.0 None ≡ level_of t l
    at l a b true f =
        let s = ap (level_of t) (same_lit e.lit l (grind (arith, nat_tests, f))) in
        grind (arith, nat_tests, a, f, s, gone)
    at l a b false f = grind (arith, nat_tests, a, b, f)

-- the same of the entries in the order of a vector
pub popped_as : (e : Entry) (items rest : List Entry) (table new : List (Option ℕ)) (n : ℕ) → IsIndexed (reverse items) table n → items ≡ rest ++ e ∷ [] → IsPut table e.lit None new → IsIndexed (reverse rest) new (if is_none e.reason then n - 1 else n)
popped_as e items rest table new n inv s p =
    popped e (reverse rest) table new n (subst (λ x. IsIndexed x table n) (ap reverse s ∙ reverse-append rest (e ∷ [])) inv) p
