use Rattle.std.proofs.Common.{◌∙◌, sym, ap, max, take}
use Rattle.application.specs.declared.app.Task.{Task}
use Rattle.application.specs.Levels.{greatest, levels_of}
use Rattle.application.proofs.Greatest.{greatest_more}
use Rattle.application.proofs.levels.highest_level.Goals as goal

pub loop-task-preserved : goal.loop-task-preserved
loop-task-preserved c =
    let tasks = c.args.tasks.now in
    let i = c.loop-task.task-index in
    c.max-highest.ensures
    ∙ (ap (λ n. max c.task-item.result.level n) c.loop-task.invariant
    ∙ (ap (λ (t : Task). max t.level (greatest (levels_of (take i tasks)))) c.task-item.is
    ∙ sym (greatest_more (λ (t : Task). t.level) tasks i c.task-item.result c.loop-task-test.true)))
