-- Gates of constants and of literals of one variable.
use Rattle.std.proofs.Common.{◌≡◌, ◌≢◌, ℕ, Bool, true, false, not, ◌&&◌, ◌||◌, refl, sym, ◌∙◌, ap, inl, inr, ◌⊎◌, arith, nat_eq, if◌then◌else◌}
use Rattle.std.proofs.lemmas.Bool.Decides.{nat_tests}
use Rattle.clause_form.specs.declared.lit.Lit.{Lit}
use Rattle.clause_form.specs.ClauseTruth.{Values, is_lit_true}
use Rattle.clause_form.specs.Literals.{variable, is_positive, negation, IsOf}
use Rattle.clause_form.proofs.Negations.{is_lit_true-negation, negation_other, same_variable, variable-negation, IsOf-negation}
use Rattle.bit_circuit.specs.Extension.{PlainFormula, IsModel, Makes, IsCircuit, xor}
use Rattle.bit_circuit.proofs.Growth.{kept}
use Rattle.bit_circuit.proofs.Composition.{made_here, made_as}

-- ---- literals of one variable
sign_true : (p : Bool) → (if p then true else not true) ≡ p
sign_true true = refl
sign_true false = refl

pub known_true : (s : PlainFormula) (a : Lit) (v : Values) → IsCircuit s → variable a ≡ 1 → IsModel v s → is_lit_true v a ≡ is_positive a
unfolding is_lit_true
known_true s a v k e m = rw (e, k.one v m) (sign_true (is_positive a))

other_code : (l : Lit) → nat_eq (negation l).0 l.0 ≡ false
other_code l = let h = negation_other l in grind (arith, nat_tests, h)

same_code : (n : ℕ) → nat_eq n n ≡ true
same_code n = grind (arith, nat_tests)

pub same_true : (v : Values) (c a : Lit) → variable a ≡ variable c → is_lit_true v c ≡ true → is_lit_true v a ≡ nat_eq a.0 c.0
same_true v c a e t = go (same_variable a c e)
  where
    go : (a ≡ c) ⊎ (a ≡ negation c) → is_lit_true v a ≡ nat_eq a.0 c.0
    go (inl h) = rw h (t ∙ sym (same_code c.0))
    go (inr h) = rw h (is_lit_true-negation v c ∙ ap not t ∙ sym (other_code c))

pub opposite : (v : Values) (a b : Lit) → variable a ≡ variable b → nat_eq a.0 b.0 ≡ false → is_lit_true v a ≡ not (is_lit_true v b)
opposite v a b e f = go (same_variable a b e)
  where
    go : (a ≡ b) ⊎ (a ≡ negation b) → is_lit_true v a ≡ not (is_lit_true v b)
    go (inl h) = let g : true ≡ false = sym (same_code b.0) ∙ ap (λ (l : Lit). nat_eq l.0 b.0) (sym h) ∙ f in absurd (cc)
    go (inr h) = rw h (is_lit_true-negation v b)

-- ---- the gates of them
and_not : (b : Bool) → false ≡ (not b && b)
and_not true = refl
and_not false = refl

pub and_opposite : (s : PlainFormula) (a b r : Lit) → variable a ≡ variable b → nat_eq a.0 b.0 ≡ false → Makes s s r (λ _. false) 0 → Makes s s r (λ v. is_lit_true v a && is_lit_true v b) 1
and_opposite s a b r e f p = made_as s s r _ (λ v. is_lit_true v a && is_lit_true v b) 0 1 p (λ v m. rw (opposite v a b e f) (and_not (is_lit_true v b))) (omega arith)

xor_not : (b : Bool) → true ≡ xor (not b) b
xor_not true = refl
xor_not false = refl

xor_same : (b : Bool) → false ≡ xor b b
xor_same true = refl
xor_same false = refl

pub xor_variable : (s : PlainFormula) (a b r : Lit) (t : Bool) → variable a ≡ variable b → t ≡ not (nat_eq a.0 b.0) → Makes s s r (λ _. t) 0 → Makes s s r (λ v. xor (is_lit_true v a) (is_lit_true v b)) 1
xor_variable s a b r t e f p = made_as s s r _ (λ v. xor (is_lit_true v a) (is_lit_true v b)) 0 1 p (λ v m. f ∙ go v (same_variable a b e)) (omega arith)
  where
    go : (v : Values) → (a ≡ b) ⊎ (a ≡ negation b) → not (nat_eq a.0 b.0) ≡ xor (is_lit_true v a) (is_lit_true v b)
    go v (inl h) = rw h (ap not (same_code b.0) ∙ xor_same (is_lit_true v b))
    go v (inr h) = rw h (ap not (other_code b) ∙ xor_not (is_lit_true v b) ∙ ap (λ x. xor x (is_lit_true v b)) (sym (is_lit_true-negation v b)))

xor-true : (x : Bool) → not x ≡ xor x true
xor-true true = refl
xor-true false = refl

pub xor_left : (s : PlainFormula) (a b r : Lit) (t : Bool) → IsOf s.variables b → t ≡ true → ((v : Values) → IsModel v s → is_lit_true v a ≡ t) → r ≡ negation b → Makes s s r (λ v. xor (is_lit_true v a) (is_lit_true v b)) 1
xor_left s a b r t o e f g = rw g (made_here s (negation b) (λ v. xor (is_lit_true v a) (is_lit_true v b)) 1 (IsOf-negation s.variables b o) (λ v m. rw (f v m, e) (is_lit_true-negation v b)))

pub xor_right : (s : PlainFormula) (a b r : Lit) (t : Bool) → IsOf s.variables a → t ≡ true → ((v : Values) → IsModel v s → is_lit_true v b ≡ t) → r ≡ negation a → Makes s s r (λ v. xor (is_lit_true v a) (is_lit_true v b)) 1
xor_right s a b r t o e f g = rw g (made_here s (negation a) (λ v. xor (is_lit_true v a) (is_lit_true v b)) 1 (IsOf-negation s.variables a o) (λ v m. rw (f v m, e) (is_lit_true-negation v a ∙ xor-true (is_lit_true v a))))

-- ---- choices whose arms are known
xor_choice : (c b : Bool) → xor c b ≡ (if c then not b else b)
xor_choice true b = refl
xor_choice false b = refl

pub choose_opposite : (s new : PlainFormula) (c a b r : Lit) → variable a ≡ variable b → nat_eq a.0 b.0 ≡ false → Makes s new r (λ v. xor (is_lit_true v c) (is_lit_true v b)) 1 → Makes s new r (λ v. if is_lit_true v c then is_lit_true v a else is_lit_true v b) 1
choose_opposite s new c a b r e f p = made_as s new r _ (λ v. if is_lit_true v c then is_lit_true v a else is_lit_true v b) 1 1 p (λ v m. rw (opposite v a b e f) (xor_choice (is_lit_true v c) (is_lit_true v b))) (omega arith)

pub choose_or : (s new : PlainFormula) (c a b r : Lit) (t : Bool) → t ≡ true → ((v : Values) → IsModel v s → is_lit_true v c ≡ true → is_lit_true v a ≡ t) → Makes s new r (λ v. is_lit_true v c || is_lit_true v b) 1 → Makes s new r (λ v. if is_lit_true v c then is_lit_true v a else is_lit_true v b) 1
choose_or s new c a b r t e f p = made_as s new r _ (λ v. if is_lit_true v c then is_lit_true v a else is_lit_true v b) 1 1 p (λ v m. go v (kept p.extends v m) (is_lit_true v c) refl) (omega arith)
  where
    go : (v : Values) → IsModel v s → (x : Bool) → is_lit_true v c ≡ x → (x || is_lit_true v b) ≡ (if x then is_lit_true v a else is_lit_true v b)
    go v m true g = sym (f v m g ∙ e)
    go v m false g = refl

pub choose_and : (s new : PlainFormula) (c nc a b r : Lit) (t : Bool) → t ≡ false → nc ≡ negation c → ((v : Values) → IsModel v s → is_lit_true v c ≡ true → is_lit_true v a ≡ t) → Makes s new r (λ v. is_lit_true v nc && is_lit_true v b) 1 → Makes s new r (λ v. if is_lit_true v c then is_lit_true v a else is_lit_true v b) 1
choose_and s new c nc a b r t e n f p = made_as s new r _ (λ v. if is_lit_true v c then is_lit_true v a else is_lit_true v b) 1 1 p (λ v m. rw (n, is_lit_true-negation v c) (go v (kept p.extends v m) (is_lit_true v c) refl)) (omega arith)
  where
    go : (v : Values) → IsModel v s → (x : Bool) → is_lit_true v c ≡ x → (not x && is_lit_true v b) ≡ (if x then is_lit_true v a else is_lit_true v b)
    go v m true g = sym (f v m g ∙ e)
    go v m false g = refl

pub choose_or_else : (s new : PlainFormula) (c nc a b r : Lit) (t : Bool) → t ≡ true → nc ≡ negation c → ((v : Values) → IsModel v s → is_lit_true v nc ≡ true → is_lit_true v b ≡ t) → Makes s new r (λ v. is_lit_true v nc || is_lit_true v a) 1 → Makes s new r (λ v. if is_lit_true v c then is_lit_true v a else is_lit_true v b) 1
choose_or_else s new c nc a b r t e n f p = made_as s new r _ (λ v. if is_lit_true v c then is_lit_true v a else is_lit_true v b) 1 1 p (λ v m. rw (n, is_lit_true-negation v c) (go v (kept p.extends v m) (is_lit_true v c) refl)) (omega arith)
  where
    go : (v : Values) → IsModel v s → (x : Bool) → is_lit_true v c ≡ x → (not x || is_lit_true v a) ≡ (if x then is_lit_true v a else is_lit_true v b)
    go v m true g = refl
    go v m false g = sym (f v m (ap (is_lit_true v) n ∙ is_lit_true-negation v c ∙ ap not g) ∙ e)

pub choose_and_else : (s new : PlainFormula) (c nc a b r : Lit) (t : Bool) → t ≡ false → nc ≡ negation c → ((v : Values) → IsModel v s → is_lit_true v nc ≡ true → is_lit_true v b ≡ t) → Makes s new r (λ v. is_lit_true v c && is_lit_true v a) 1 → Makes s new r (λ v. if is_lit_true v c then is_lit_true v a else is_lit_true v b) 1
choose_and_else s new c nc a b r t e n f p = made_as s new r _ (λ v. if is_lit_true v c then is_lit_true v a else is_lit_true v b) 1 1 p (λ v m. go v (kept p.extends v m) (is_lit_true v c) refl) (omega arith)
  where
    go : (v : Values) → IsModel v s → (x : Bool) → is_lit_true v c ≡ x → (x && is_lit_true v a) ≡ (if x then is_lit_true v a else is_lit_true v b)
    go v m true g = refl
    go v m false g = sym (f v m (ap (is_lit_true v) n ∙ is_lit_true-negation v c ∙ ap not g) ∙ e)

-- a literal that hasn't the variable of a negation hasn't that of the literal
pub apart_from : (b c nc : Lit) → nc ≡ negation c → variable b ≢ variable nc → variable b ≢ variable c
apart_from b c nc e f g = f (g ∙ sym (variable-negation c) ∙ ap variable (sym e))
