-- How answers compose.
use Rattle.std.proofs.Common.{◌≡◌, ℕ, ◌+◌, ◌≤◌, Bool, true, false, not, ◌&&◌, ◌||◌, refl, ◌∙◌, ap, arith}
use Rattle.clause_form.specs.declared.lit.Lit.{Lit}
use Rattle.clause_form.specs.ClauseTruth.{Values, is_lit_true}
use Rattle.clause_form.specs.Literals.{IsOf, negation}
use Rattle.clause_form.proofs.Negations.{IsOf-negation, is_lit_true-negation}
use Rattle.bit_circuit.specs.Extension.{PlainFormula, IsModel, Makes}
use Rattle.bit_circuit.proofs.Growth.{extends_refl, extends_trans, kept}

-- an answer that is there already
pub made_here : (s : PlainFormula) (r : Lit) (value : Values → Bool) (n : ℕ) → IsOf s.variables r → ((v : Values) → IsModel v s → is_lit_true v r ≡ value v) → Makes s s r value n
made_here s r value n o e = record { extends = extends_refl s; inside = o; equal = e; few = omega arith }

pub made_negated : (s new : PlainFormula) (r : Lit) (f g : Values → Bool) (n : ℕ) → Makes s new r f n → ((v : Values) → not (f v) ≡ g v) → Makes s new (negation r) g n
made_negated s new r f g n m e = record {
  extends = m.extends;
  inside = IsOf-negation new.variables r m.inside;
  equal = λ v h. is_lit_true-negation v r ∙ ap not (m.equal v h) ∙ e v;
  few = m.few;
}

-- the same value in other words
pub made_as : (s new : PlainFormula) (r : Lit) (f g : Values → Bool) (n m : ℕ) → Makes s new r f n → ((v : Values) → IsModel v new → f v ≡ g v) → n ≤ m → Makes s new r g m
made_as s new r f g n m k e h = record { extends = k.extends; inside = k.inside; equal = λ v i. k.equal v i ∙ e v i; few = omega (arith, k.few) }

-- one call after another
pub made_then : (a b c : PlainFormula) (x y : Lit) (f g h : Values → Bool) (n m k : ℕ) → Makes a b x f n → Makes b c y g m → ((v : Values) → is_lit_true v x ≡ f v → g v ≡ h v) → n + m ≤ k → Makes a c y h k
made_then a b c x y f g h n m k p q e l = record {
  extends = extends_trans a b c p.extends q.extends;
  inside = q.inside;
  equal = λ v i. q.equal v i ∙ e v (p.equal v (kept q.extends v i));
  few = omega (arith, p.few, q.few);
}

or_table : (a b : Bool) → not (not a && not b) ≡ (a || b)
or_table true true = refl
or_table true false = refl
or_table false true = refl
or_table false false = refl

pub or_made_by : (s new : PlainFormula) (a b na nb r nr : Lit) → na ≡ negation a → nb ≡ negation b → nr ≡ negation r → Makes s new r (λ v. is_lit_true v na && is_lit_true v nb) 1 → Makes s new nr (λ v. is_lit_true v a || is_lit_true v b) 1
or_made_by s new a b na nb r nr e f g m = rw g (made_negated s new r _ (λ v. is_lit_true v a || is_lit_true v b) 1 m (λ v. rw (e, f, is_lit_true-negation v a, is_lit_true-negation v b) (or_table (is_lit_true v a) (is_lit_true v b))))
