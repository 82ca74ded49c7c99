use Rattle.std.proofs.Common.{◌≡◌, true, sym, ap₂, ◌∙◌, subst}
use Rattle.application.specs.declared.app.App.{App}
use Rattle.application.specs.InOrder.{IsInOrder}
use Rattle.one_stack.proofs.Sample.{fits, form, in_order}
use Rattle.one_stack.specs.Sample.{two_tasks}
use Rattle.one_stack.specs.TaskForm.{is_task_form}
use Rattle.step_ir.specs.declared.code.Code.{Code}
use Rattle.step_ir.specs.Fits.{Fits}
use Rattle.machine_tests.proofs.one_stack_tests.built.Goals as goal

pub build-requires-clause-order : goal.build-requires-clause-order
build-requires-clause-order c = subst IsInOrder (sym c.in_ok-app.ensures) in_order

pub build-requires-clause-fits : goal.build-requires-clause-fits
build-requires-clause-fits c =
    subst (λ (a : App). Fits a c.in_ok-code.code) (sym c.in_ok-app.ensures) (subst (λ (k : Code). Fits two_tasks k) (sym c.in_ok-code.ensures) fits)

pub build-requires-clause-form : goal.build-requires-clause-form
build-requires-clause-form c = ap₂ is_task_form c.in_ok-app.ensures c.in_ok-code.ensures ∙ form
