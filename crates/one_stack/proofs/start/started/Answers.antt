use Rattle.std.proofs.Common.{◌∙◌, ◌++◌, length, arith, ap, ap₂}
use Rattle.one_stack.specs.Tables.{seen}
use Rattle.one_stack.proofs.Beginning.{few_started}
use Rattle.step_ir.specs.Setting.{started_from}
use Rattle.one_stack.proofs.start.started.Goals as goal

pub returns-clause-tasks : goal.returns-clause-tasks
unfolding seen
returns-clause-tasks c = c.in_ok-put_started.ensures ∙ ap₂ (λ a b. a ++ started_from 0 b) c.new-list.ensures.items c.tasks.ensures

pub returns-clause-few : goal.returns-clause-few
returns-clause-few c =
    omega (arith, ap length (c.in_ok-put_started.ensures ∙ ap₂ (λ a b. a ++ started_from 0 b) c.new-list.ensures.items c.tasks.ensures), few_started 0 c.args.layout.now.app.tasks, c.requires)
