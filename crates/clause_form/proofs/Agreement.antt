-- Truth depends on the variables that occur.
use Rattle.std.proofs.Common.{◌≡◌, ℕ, suc, ◌-◌, ◌<◌, ◌≤◌, Bool, true, false, not, ◌&&◌, List, [], ◌∷◌, ◌++◌, ◌==◌, length, if◌then◌else◌, refl, sym, ap, ◌∙◌, arith}
use Rattle.std.proofs.lemmas.Bool.Decides.{nat_tests}
use Rattle.std.specs.List.{slice_index_or}
use Rattle.clause_form.specs.declared.lit.Lit.{Lit}
use Rattle.clause_form.specs.Literals.{variable, is_positive, IsOf, AreOf, are_within}
use Rattle.clause_form.specs.ClauseTruth.{Values, is_lit_true, is_clause_true, are_true, values_of, Agree}
use Rattle.clause_form.proofs.Rising.{AreOf-from}

pub is_lit_true-agree : (n : ℕ) (v w : Values) (l : Lit) → IsOf n l → Agree n v w → is_lit_true v l ≡ is_lit_true w l
unfolding is_lit_true
is_lit_true-agree n v w l o a = ap (λ b. if is_positive l then b else not b) (a.at (variable l) o.least o.most)

pub is_clause_true-agree : (n : ℕ) (v w : Values) (c : List Lit) → AreOf n c → Agree n v w → is_clause_true v c ≡ is_clause_true w c
is_clause_true-agree n v w [] o a = refl
is_clause_true-agree n v w (l ∷ ls) o a = let e = is_lit_true-agree n v w l o.0 a in let f = is_clause_true-agree n v w ls o.1 a in cc

pub are_true-agree : (n : ℕ) (v w : Values) (cs : List (List Lit)) → are_within n cs ≡ true → Agree n v w → are_true v cs ≡ are_true w cs
are_true-agree n v w [] o a = refl
are_true-agree n v w (c ∷ cs) o a =
    let e = is_clause_true-agree n v w c (AreOf-from n c (grind (arith, o))) a in
    let f = are_true-agree n v w cs (grind (arith, o)) a in
    cc

pub are_true-append : (v : Values) (cs ds : List (List Lit)) → are_true v (cs ++ ds) ≡ (are_true v cs && are_true v ds)
are_true-append v [] ds = refl
are_true-append v (c ∷ cs) ds = let ih = are_true-append v cs ds in grind (arith, ih)

pub Agree-refl : (n : ℕ) (v : Values) → Agree n v v
Agree-refl n v = record { at = λ x h g. refl }

pub Agree-sym : (n : ℕ) (v w : Values) → Agree n v w → Agree n w v
Agree-sym n v w a = record { at = λ x h g. sym (a.at x h g) }

pub Agree-trans : (n : ℕ) (u v w : Values) → Agree n u v → Agree n v w → Agree n u w
Agree-trans n u v w a b = record { at = λ x h g. a.at x h g ∙ b.at x h g }

pub Agree-less : (n m : ℕ) (v w : Values) → n ≤ m → Agree m v w → Agree n v w
Agree-less n m v w h a = record { at = λ x i g. a.at x i (omega (arith, h, g)) }

-- the first value is that of variable 1
pub values_of-suc : (a : List Bool) (k : ℕ) → values_of a (suc k) ≡ slice_index_or a k false
values_of-suc a k =
    let e : (suc k == 0) ≡ false = grind (arith, nat_tests) in
    let f : suc k - 1 ≡ k = omega arith in
    ap (λ b. if b then false else slice_index_or a (suc k - 1) false) e ∙ ap (λ i. slice_index_or a i false) f

-- lists of as many values that agree are equal
pub values_equal : (a b : List Bool) → length a ≡ length b → Agree (length a) (values_of a) (values_of b) → a ≡ b
values_equal a b e g = go a b e (λ k h. at k h)
  where
    at : (k : ℕ) → k < length a → slice_index_or a k false ≡ slice_index_or b k false
    at k h = sym (values_of-suc a k) ∙ g.at (suc k) (omega arith) (omega (arith, h)) ∙ values_of-suc b k

    go : (a b : List Bool) → length a ≡ length b → ((k : ℕ) → k < length a → slice_index_or a k false ≡ slice_index_or b k false) → a ≡ b
    go [] [] e f = refl
    go [] (y ∷ ys) e f = absurd (omega (arith, e))
    go (x ∷ xs) [] e f = absurd (omega (arith, e))
    go (x ∷ xs) (y ∷ ys) e f =
        let h : x ≡ y = f 0 (omega arith) in
        let t : xs ≡ ys = go xs ys (omega (arith, e)) (λ k l. f (suc k) (omega (arith, l))) in
        cc
