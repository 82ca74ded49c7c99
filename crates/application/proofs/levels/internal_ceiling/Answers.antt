use Rattle.std.proofs.Common.{◌≡◌, ◌∙◌, sym, ap, max, take, cond, filter, get_or}
use Rattle.application.specs.declared.app.Task.{Task}
use Rattle.application.specs.Levels.{greatest, levels_of, is_number}
use Rattle.application.proofs.Greatest.{greatest_counted}
use Rattle.application.proofs.levels.internal_ceiling.Goals as goal

pub loop-task-preserved : goal.loop-task-preserved
loop-task-preserved c =
    let xs = c.args.tasks.now in
    let i = c.loop-task.task-index in
    let d = c.task-item.result in
    let p = λ (x : Task). is_number x.internal c.args.resource in
    let counted : c.level_where.result ≡ cond (p (get_or xs i d)) (get_or xs i d).level 0 =
    c.level_where.ensures
    ∙ (ap (λ b. cond b d.level 0) c.is_number.ensures
    ∙ ap (λ (x : Task). cond (p x) x.level 0) c.task-item.is) in
    c.max-highest.ensures
    ∙ (ap (λ n. max n c.loop-task.highest) counted
    ∙ (ap (λ n. max (cond (p (get_or xs i d)) (get_or xs i d).level 0) n) c.loop-task.invariant
    ∙ sym (greatest_counted (λ (x : Task). x.level) p xs i d c.loop-task-test.true)))
