-- What a checker keeps as it takes a line.
use Rattle.std.proofs.Common.{◌≡◌, ℕ, Bool, true, List, [], ◌∷◌, ◌++◌, ◌==◌, take, length, refl, sym, ap, ◌∙◌, subst, arith, length-append}
use Rattle.std.proofs.lemmas.List.{take-append-le}
use Rattle.std.proofs.lemmas.Bool.Decides.{nat_tests}
use Rattle.clause_form.specs.declared.lit.Lit.{Lit}
use Rattle.clause_form.specs.declared.line.Line.{Line}
use Rattle.clause_form.specs.ClauseTruth.{are_true, is_clause_true, HasNoModel}
use Rattle.clause_form.specs.DerivedLine.{is_derived, is_empty}
use Rattle.clause_form.proofs.Agreement.{are_true-append}
use Rattle.clause_form.proofs.Soundness.{derived_true}
use Rattle.proof_check.specs.Checkers.{IsChecking}

pub taken : (n : ℕ) (cs : List (List Lit)) (count : ℕ) (set : List Lit) (line : Line) → IsChecking cs count set → is_derived n cs line ≡ true → IsChecking (cs ++ line.clause ∷ []) count []
taken n cs count set line inv d =
    record {
      given = let a = length-append cs (line.clause ∷ []) in let b = inv.given in omega arith;
      follow = λ v h.
          let e : take count (cs ++ line.clause ∷ []) ≡ take count cs = take-append-le count cs (line.clause ∷ []) inv.given in
          let all = inv.follow v (ap (are_true v) (sym e) ∙ h) in
          let one = derived_true v n cs line all d in
          let s = are_true-append v cs (line.clause ∷ []) in
          grind (arith, all, one, s);
      empty = refl;
    }

pub none : (n : ℕ) (cs : List (List Lit)) (count : ℕ) (set : List Lit) (line : Line) → IsChecking cs count set → is_derived n cs line ≡ true → is_empty line.clause ≡ true → HasNoModel (take count cs)
none n cs count set line inv d e v h = go line.clause e (derived_true v n cs line (inv.follow v h) d)
  where
    go : (c : List Lit) → is_empty c ≡ true → is_clause_true v c ≡ true → ⊥
    go [] f t = cc
    go (x ∷ xs) f t = cc

pub taken_as : (n : ℕ) (cs : List (List Lit)) (count : ℕ) (set : List Lit) (line : Line) (answer : Bool) (clause : List Lit) (new : List (List Lit)) (left : List Lit) → IsChecking cs count set → answer ≡ is_derived n cs line → answer ≡ true → clause ≡ line.clause → new ≡ cs ++ clause ∷ [] → left ≡ [] → IsChecking new count left
taken_as n cs count set line answer clause new left inv a b e f g =
    subst (λ x. IsChecking x count left) (ap (λ c. cs ++ c ∷ []) (sym e) ∙ sym f)
    (subst (λ x. IsChecking (cs ++ line.clause ∷ []) count x) (sym g) (taken n cs count set line inv (sym a ∙ b)))

pub none_as : (n : ℕ) (cs : List (List Lit)) (count : ℕ) (set : List Lit) (line : Line) (answer : Bool) (clause : List Lit) (empty : Bool) → IsChecking cs count set → answer ≡ is_derived n cs line → answer ≡ true → clause ≡ line.clause → empty ≡ (length clause == 0) → empty ≡ true → HasNoModel (take count cs)
none_as n cs count set line answer clause empty inv a b e f g = none n cs count set line inv (sym a ∙ b) (nil clause (sym f ∙ g) e)
  where
    nil : (c : List Lit) → (length c == 0) ≡ true → c ≡ line.clause → is_empty line.clause ≡ true
    nil [] h i = ap is_empty (sym i)
    nil (x ∷ xs) h i = absurd (grind (arith, nat_tests, h))
