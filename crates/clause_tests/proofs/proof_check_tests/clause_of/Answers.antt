use Rattle.std.proofs.Common.{◌≡◌, ◌<◌, ◌≤◌, ◌++◌, ◌∷◌, [], ℕ, true, List, sym, ap, ◌∙◌, subst, arith}
use Rattle.clause_form.specs.declared.lit.Lit.{Lit}
use Rattle.clause_form.specs.Literals.{is_within, last_variable, variable}
use Rattle.clause_form.proofs.Rising.{is_within-push, last_variable-push}
use Rattle.clause_tests.proofs.proof_check_tests.clause_of.Goals as goal
use Rattle.clause_tests.proofs.proof_check_tests.clause_of.Goals.{then-last-variable+then-variable-variables+in_ok-push, else-last-variable}

record IsBegun (n last : ℕ) (clause : List Lit) : Type 0 where
  last_one : last ≡ last_variable 0 clause
  within : is_within n clause ≡ true

more : (n a b d : ℕ) (clause new : List Lit) (l : Lit) → is_within n clause ≡ true → a ≡ variable l → b ≡ variable l → d ≡ variable l → 0 < a → b ≤ n → new ≡ clause ++ l ∷ [] → IsBegun n d new
more n a b d clause new l h e f g p q r =
    record {
      last_one = g ∙ sym (last_variable-push 0 clause l) ∙ ap (last_variable 0) (sym r);
      within = subst (λ x. is_within n x ≡ true) (sym r) (is_within-push n clause l h (omega arith) (omega arith));
    }

pub loop-code-preserved : goal.loop-code-preserved
loop-code-preserved c =
    elim c.if-last-variable.branch [
      | then-last-variable+then-variable-variables+in_ok-push w ↦
          let t = w.if-last-variable.true in
          let b = more c.args.variables c.variable.result w.variable-then-last-variable.result w.variable-last.result c.loop-code.clause _ _ c.loop-code.invariant.within c.variable.ensures w.variable-then-last-variable.ensures w.variable-last.ensures (omega (arith, t)) w.if-variable-variables.true w.in_ok-push.ensures.ok in
          record {
            last = w.last-is ∙ b.last_one ∙ ap (last_variable 0) (sym w.clause-is);
            within = subst (λ x. is_within c.args.variables x ≡ true) (sym w.clause-is) b.within;
          }
      | else-last-variable w ↦ record {
        last = w.last-is ∙ c.loop-code.invariant.last ∙ ap (last_variable 0) (sym w.clause-is);
        within = subst (λ x. is_within c.args.variables x ≡ true) (sym w.clause-is) c.loop-code.invariant.within;
      }
    ]
