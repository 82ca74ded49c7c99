-- The laws of a literal's variable, sign and negation.
use Rattle.std.proofs.Common.{◌≡◌, ℕ, ◌+◌, ◌*◌, ◌%◌, Bool, true, false, not, ◌==◌, if◌then◌else◌, ◌⊎◌, inl, inr, refl, sym, ap, ◌∙◌, subst, arith}
use Rattle.std.proofs.lemmas.Bool.Decides.{nat_tests}
use Rattle.clause_form.specs.declared.lit.Lit.{Lit}
use Rattle.clause_form.specs.Literals.{variable, is_positive, negation, literal, IsOf}
use Rattle.clause_form.specs.ClauseTruth.{Values, is_lit_true}

pub same_lit : (a b : Lit) → a.0 ≡ b.0 → a ≡ b
same_lit a b e = ap (λ n. let l : Lit = record { 0 = n } in l) e

pub negation_code : (l : Lit) → ((l.0 % 2 ≡ 0) × ((negation l).0 ≡ l.0 + 1)) ⊎ ((l.0 % 2 ≡ 1) × ((negation l).0 + 1 ≡ l.0))
unfolding negation is_positive
negation_code l = grind (arith, nat_tests)

pub negation-negation : (l : Lit) → negation (negation l) ≡ l
negation-negation l =
    let a = negation_code l in
    let b = negation_code (negation l) in
    same_lit (negation (negation l)) l (grind (arith, a, b))

pub variable-negation : (l : Lit) → variable (negation l) ≡ variable l
unfolding variable
variable-negation l = let a = negation_code l in grind (arith, a)

pub positive-negation : (l : Lit) → is_positive (negation l) ≡ not (is_positive l)
unfolding is_positive
positive-negation l = let a = negation_code l in grind (arith, nat_tests, a)

pub negation_other : (l : Lit) → (l.0 == (negation l).0) ≡ false
negation_other l = let a = negation_code l in grind (arith, nat_tests, a)

-- a literal is another's negation where that one is its own
pub negation_turns : (a b : Lit) → (a.0 == (negation b).0) ≡ ((negation a).0 == b.0)
negation_turns a b =
    let p = negation_code a in
    let q = negation_code b in
    grind (arith, nat_tests, p, q)

pub same_variable : (a b : Lit) → variable a ≡ variable b → (a ≡ b) ⊎ (a ≡ negation b)
unfolding variable
same_variable a b e =
    let q = negation_code b in
    go (grind (arith, e, q))
  where
    go : (a.0 ≡ b.0) ⊎ (a.0 ≡ (negation b).0) → (a ≡ b) ⊎ (a ≡ negation b)
    go (inl h) = inl (same_lit a b h)
    go (inr h) = inr (same_lit a (negation b) h)

pub not_not : (b : Bool) → not (not b) ≡ b
not_not true = refl
not_not false = refl

pub is_lit_true-negation : (v : Values) (l : Lit) → is_lit_true v (negation l) ≡ not (is_lit_true v l)
unfolding is_lit_true
is_lit_true-negation v l =
    subst (λ n. (if is_positive (negation l) then v n else not (v n)) ≡ not (if is_positive l then v (variable l) else not (v (variable l)))) (sym (variable-negation l))
    (subst (λ p. (if p then v (variable l) else not (v (variable l))) ≡ not (if is_positive l then v (variable l) else not (v (variable l)))) (sym (positive-negation l)) (go (is_positive l) (v (variable l))))
  where
    go : (p b : Bool) → (if not p then b else not b) ≡ not (if p then b else not b)
    go true b = refl
    go false b = sym (not_not b)

-- ---- the literal that is a variable
pub variable-literal : (n : ℕ) → variable (literal n) ≡ n
unfolding variable
variable-literal n = omega arith

pub is_positive-literal : (n : ℕ) → is_positive (literal n) ≡ true
unfolding is_positive
is_positive-literal n = let e : (2 * n) % 2 ≡ 0 = omega arith in grind (arith, nat_tests, e)

pub is_lit_true-literal : (v : Values) (n : ℕ) → is_lit_true v (literal n) ≡ v n
unfolding is_lit_true
is_lit_true-literal v n = rw (is_positive-literal n, variable-literal n) refl

-- a literal that isn't its variable is its variable's negation
pub negation_of_literal : (n : ℕ) → is_positive (negation (literal n)) ≡ false
negation_of_literal n = positive-negation (literal n) ∙ ap not (is_positive-literal n)

-- ---- variables up to a number
pub IsOf-negation : (n : ℕ) (l : Lit) → IsOf n l → IsOf n (negation l)
IsOf-negation n l o = record { least = rw (variable-negation l) o.least; most = rw (variable-negation l) o.most }
