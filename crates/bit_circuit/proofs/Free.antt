-- The start of a circuit, inputs, and literals that are required.
use Rattle.std.proofs.Common.{◌≡◌, ℕ, zero, suc, ◌+◌, Bool, true, List, [], ◌∷◌, length, refl, sym, ◌∙◌, ap, subst, arith, inl, inr, add-zero}
use Rattle.std.proofs.lemmas.Bool.{cases_eq, and_parts, and_from}
use Rattle.clause_form.specs.declared.lit.Lit.{Lit}
use Rattle.clause_form.specs.ClauseTruth.{Values, is_lit_true, are_true, Agree}
use Rattle.clause_form.specs.Literals.{literal}
use Rattle.clause_form.proofs.Agreement.{are_true-agree, are_true-append}
use Rattle.clause_form.proofs.Negations.{is_lit_true-literal}
use Rattle.bit_circuit.specs.Extension.{PlainFormula, IsModel, GoesOn, ExtendsWith, Extends, IsCircuit, formula, with_clauses}
use Rattle.bit_circuit.proofs.Growth.{longer_refl, only_true, extends_refl, with_append, circuit_more}
use Rattle.bit_circuit.proofs.GateClauses.{literal_of, with_value, with_value-same, with_value-other}

head : (x y : Bool) → x ∷ [] ≡ y ∷ [] → x ≡ y
head x y e = cc

-- a new variable that no clause speaks of is free
pub with_input : (s : PlainFormula) → IsCircuit s → ExtendsWith s (formula (s.variables + 1) s.clauses) (literal (s.variables + 1) ∷ [])
with_input s k = record {
  grows = omega arith;
  adds = longer_refl s.clauses;
  inside = (literal_of (s.variables + 1) (s.variables + 1) (omega arith) (omega arith), tt);
  goes_on = λ v m bits h. go v m bits h;
}
  where
    go : (v : Values) → IsModel v s → (bits : List Bool) → length bits ≡ 1 → GoesOn s (formula (s.variables + 1) s.clauses) (literal (s.variables + 1) ∷ []) bits v
    go v m [] h = absurd (omega arith)
    go v m (b ∷ c ∷ bs) h = absurd (omega arith)
    go v m (b ∷ []) h =
        let w : Values = with_value v (s.variables + 1) b in
        let a : Agree s.variables v w = record { at = λ x l g. sym (with_value-other v (s.variables + 1) x b (omega arith)) } in
        let e : w (s.variables + 1) ≡ b = with_value-same v (s.variables + 1) b in
        record {
          values = w;
          agree = a;
          model = record { holds = sym (are_true-agree s.variables v w s.clauses k.within a) ∙ m.holds };
          reads = ap (λ z. z ∷ []) (is_lit_true-literal w (s.variables + 1) ∙ e);
          only = λ u g n c. record {
            at = λ x i l. elim (cases_eq x (s.variables + 1)) [
              | inl j ↦ rw j (e ∙ sym (head _ _ (sym (ap (λ z. z ∷ []) (is_lit_true-literal u (s.variables + 1))) ∙ c)))
              | inr j ↦ sym (a.at x i (omega arith)) ∙ g.at x i (omega arith)
            ];
          };
        }

-- the literals of so many variables after a number
abbrev pub fresh : ℕ → ℕ → List Lit
fresh n zero = []
fresh n (suc k) = literal (n + 1) ∷ fresh (n + 1) k

-- inputs in a row are free
pub with_inputs : (s : PlainFormula) (k : ℕ) → IsCircuit s → ExtendsWith s (formula (s.variables + k) s.clauses) (fresh s.variables k)
with_inputs s zero c = subst (λ n. ExtendsWith s (formula n s.clauses) []) (sym (add-zero s.variables)) (extends_refl s)
with_inputs s (suc k) c =
    let next : PlainFormula = formula (s.variables + 1) s.clauses in
    subst (λ n. ExtendsWith s (formula n s.clauses) (literal (s.variables + 1) ∷ fresh (s.variables + 1) k)) (omega arith)
    (with_append s next (formula (s.variables + 1 + k) s.clauses) (literal (s.variables + 1) ∷ []) (fresh (s.variables + 1) k) (with_input s c) (with_inputs next k (circuit_more s c)))

pub input_free : (s old : PlainFormula) (n : ℕ) (r : Lit) → s ≡ old → IsCircuit s → n ≡ s.variables + 1 → r ≡ literal n → ExtendsWith old (formula n s.clauses) (r ∷ [])
input_free s old n r e k f g = rw (← e, g, f) (with_input s k)

-- ---- the start
-- the clause of variable 1 leaves exactly one assignment of it
pub start_extends : Extends (formula 0 []) (formula 1 ((literal 1 ∷ []) ∷ []))
start_extends = record {
  grows = omega arith;
  adds = record { more = (literal 1 ∷ []) ∷ []; is = refl };
  inside = tt;
  goes_on = λ v m bits h. record {
    values = λ x. true;
    agree = record { at = λ x i l. absurd (omega arith) };
    model = record { holds = rw (is_lit_true-literal (λ x. true) 1) refl };
    reads = none bits h;
    only = λ w a n d. record {
      at = λ x i l. let e : x ≡ 1 = omega arith in rw e (sym (sym (is_lit_true-literal w 1) ∙ only_true (is_lit_true w (literal 1)) n.holds));
    };
  };
}
  where
    none : (bits : List Bool) → length bits ≡ 0 → [] ≡ bits
    none [] h = refl
    none (b ∷ bs) h = absurd (omega arith)

-- ---- what a required literal does to the assignments
pub require_models : (s : PlainFormula) (a : Lit) (v : Values) → IsModel v (with_clauses s ((a ∷ []) ∷ [])) → IsModel v s × (is_lit_true v a ≡ true)
require_models s a v m =
    let h = and_parts (are_true v s.clauses) (are_true v ((a ∷ []) ∷ [])) (sym (are_true-append v s.clauses ((a ∷ []) ∷ [])) ∙ m.holds) in
    (record { holds = h.0 }, only_true (is_lit_true v a) h.1)

pub require_from : (s : PlainFormula) (a : Lit) (v : Values) → IsModel v s → is_lit_true v a ≡ true → IsModel v (with_clauses s ((a ∷ []) ∷ []))
require_from s a v m e = record { holds = are_true-append v s.clauses ((a ∷ []) ∷ []) ∙ and_from _ _ m.holds (rw e refl) }
