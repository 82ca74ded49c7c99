use Rattle.std.proofs.Common.{◌∙◌, length, arith, ap}
use Rattle.one_stack.specs.Tables.{seen}
use Rattle.one_stack.proofs.Beginning.{begun, few_without}
use Rattle.one_stack.proofs.start.start_of.Goals as goal

pub returns-clause-start : goal.returns-clause-start
returns-clause-start c =
    λ code.
    begun (seen c.args.layout.now) code _ _ _ (c.as_slice-tasks.ensures.value ∙ c.in_ok-started.ensures.tasks) c.first_task-top.ensures c.in_ok-fresh.ensures

pub returns-clause-few : goal.returns-clause-few
returns-clause-few c =
    omega (arith, ap length c.in_ok-fresh.ensures, few_without c.first_task-top.result c.as_slice-tasks.result.now, ap length c.as_slice-tasks.ensures.value, c.in_ok-started.ensures.few)
