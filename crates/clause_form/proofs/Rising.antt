-- Clauses and formulas that grow, and their variables.
use Rattle.std.proofs.Common.{◌≡◌, ℕ, ◌<◌, ◌≤◌, ◌&&◌, true, List, [], ◌∷◌, ◌++◌, Result, Ok, Err, OnOk, OnErr, refl, ap, ◌∙◌, arith}
use Rattle.std.proofs.lemmas.Bool.Decides.{nat_tests}
use Rattle.clause_form.specs.declared.lit.Lit.{Lit}
use Rattle.clause_form.specs.Literals.{variable, IsOf, AreOf, rises_above, last_variable, is_within, are_within}

pub rises_above-push : (k : ℕ) (ls : List Lit) (l : Lit) → rises_above k ls ≡ true → last_variable k ls < variable l → rises_above k (ls ++ l ∷ []) ≡ true
rises_above-push k [] l h a = grind (arith, nat_tests)
rises_above-push k (x ∷ xs) l h a = let ih = rises_above-push (variable x) xs l in grind (arith, nat_tests, ih)

pub last_variable-push : (k : ℕ) (ls : List Lit) (l : Lit) → last_variable k (ls ++ l ∷ []) ≡ variable l
last_variable-push k [] l = refl
last_variable-push k (x ∷ xs) l = last_variable-push (variable x) xs l

pub are_within-push : (n : ℕ) (cs : List (List Lit)) (c : List Lit) → are_within n cs ≡ true → rises_above 0 c ≡ true → is_within n c ≡ true → are_within n (cs ++ c ∷ []) ≡ true
are_within-push n [] c h a b = grind (arith, nat_tests)
are_within-push n (x ∷ xs) c h a b = let ih = are_within-push n xs c in grind (arith, nat_tests, ih)

-- after a push that may have failed
pub pushed_within : {E : Type 0} (n : ℕ) (old new : List (List Lit)) (c : List Lit) (r : Result (Unit {0}) E) → OnOk r (new ≡ old ++ c ∷ []) → OnErr r (new ≡ old) → are_within n old ≡ true → rises_above 0 c ≡ true → is_within n c ≡ true → are_within n new ≡ true
pushed_within n old new c (Ok u) a b h p q = ap (are_within n) a ∙ are_within-push n old c h p q
pushed_within n old new c (Err e) a b h p q = ap (are_within n) b ∙ h

pub is_within-push : (n : ℕ) (ls : List Lit) (l : Lit) → is_within n ls ≡ true → 0 < variable l → variable l ≤ n → is_within n (ls ++ l ∷ []) ≡ true
is_within-push n [] l h a b = grind (arith, nat_tests, a, b)
is_within-push n (x ∷ xs) l h a b = let ih = is_within-push n xs l in grind (arith, nat_tests, ih, h, a, b)

pub are_within-append : (n : ℕ) (cs ds : List (List Lit)) → are_within n (cs ++ ds) ≡ (are_within n cs && are_within n ds)
are_within-append n [] ds = refl
are_within-append n (c ∷ cs) ds = let ih = are_within-append n cs ds in grind (arith, ih)

-- ---- the test and the fact
pub AreOf-from : (n : ℕ) (ls : List Lit) → is_within n ls ≡ true → AreOf n ls
AreOf-from n [] h = tt
AreOf-from n (l ∷ ls) h = (record { least = grind (arith, nat_tests, h); most = grind (arith, nat_tests, h) }, AreOf-from n ls (grind (arith, h)))

pub is_within-from : (n : ℕ) (ls : List Lit) → AreOf n ls → is_within n ls ≡ true
is_within-from n [] o = refl
is_within-from n (l ∷ ls) o = let ih = is_within-from n ls o.1 in let a = o.0.least in let b = o.0.most in grind (arith, nat_tests, ih, a, b)

-- ---- more variables
pub IsOf-more : (n m : ℕ) (l : Lit) → n ≤ m → IsOf n l → IsOf m l
IsOf-more n m l h o = record { least = o.least; most = omega (arith, o.most) }

pub AreOf-more : (n m : ℕ) (ls : List Lit) → n ≤ m → AreOf n ls → AreOf m ls
AreOf-more n m [] h o = tt
AreOf-more n m (l ∷ ls) h o = (IsOf-more n m l h o.0, AreOf-more n m ls h o.1)

pub is_within-more : (n m : ℕ) (ls : List Lit) → n ≤ m → is_within n ls ≡ true → is_within m ls ≡ true
is_within-more n m [] h o = refl
is_within-more n m (l ∷ ls) h o = let ih = is_within-more n m ls h in grind (arith, nat_tests, ih, o)

pub are_within-more : (n m : ℕ) (cs : List (List Lit)) → n ≤ m → are_within n cs ≡ true → are_within m cs ≡ true
are_within-more n m [] h o = refl
are_within-more n m (c ∷ cs) h o = let ih = are_within-more n m cs h in let w = is_within-more n m c h in grind (arith, ih, w, o)
