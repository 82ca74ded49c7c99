use Rattle.std.proofs.Common.{◌≡◌, true, sym, ap, ◌∙◌, subst, arith}
use Rattle.clause_form.specs.Literals.{is_within, last_variable}
use Rattle.clause_form.proofs.Rising.{is_within-push, last_variable-push}
use Rattle.clause_tests.proofs.clause_solver_tests.add.Goals as goal
use Rattle.clause_tests.proofs.clause_solver_tests.add.Goals.{then-variable-last+then-variable-formula+in_ok-push, else-variable-last}

pub loop-code-preserved : goal.loop-code-preserved
loop-code-preserved c =
    elim c.if-variable-last.branch [
      | then-variable-last+then-variable-formula+in_ok-push w ↦
          let v = c.variable-variable.ensures in
          let low = w.if-variable-last.true in
          let high = w.if-variable-formula.true in
          record {
            last = w.last-is ∙ v ∙ sym (last_variable-push 0 c.loop-code.clause _) ∙ ap (last_variable 0) (sym (w.clause-is ∙ w.in_ok-push.ensures.ok));
            within = subst (λ x. is_within c.args.formula.now.variables x ≡ true) (sym (w.clause-is ∙ w.in_ok-push.ensures.ok))
                (is_within-push c.args.formula.now.variables c.loop-code.clause _ c.loop-code.invariant.within (omega (arith, v, low)) (omega (arith, v, high)));
          }
      | else-variable-last w ↦ record {
        last = w.last-is ∙ c.loop-code.invariant.last ∙ ap (last_variable 0) (sym w.clause-is);
        within = subst (λ x. is_within c.args.formula.now.variables x ≡ true) (sym w.clause-is) c.loop-code.invariant.within;
      }
    ]
