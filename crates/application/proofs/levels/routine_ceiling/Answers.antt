use Rattle.std.proofs.Common.{◌≡◌, ◌∙◌, sym, ap, max, take, cond, filter, get_or}
use Rattle.application.specs.declared.app.Routine.{Routine}
use Rattle.application.specs.Levels.{greatest, routine_levels_of, routine_declares}
use Rattle.application.proofs.Greatest.{greatest_counted}
use Rattle.application.proofs.levels.routine_ceiling.Goals as goal

pub loop-routine-preserved : goal.loop-routine-preserved
loop-routine-preserved c =
    let xs = c.args.routines.now in
    let i = c.loop-routine.routine-index in
    let d = c.routine-item.result in
    let p = λ (x : Routine). routine_declares c.args.resource x in
    let counted : c.level_where.result ≡ cond (p (get_or xs i d)) (get_or xs i d).level 0 =
    c.level_where.ensures
    ∙ (ap (λ b. cond b d.level 0) c.routine_declares.ensures
    ∙ ap (λ (x : Routine). cond (p x) x.level 0) c.routine-item.is) in
    c.max-highest.ensures
    ∙ (ap (λ n. max n c.loop-routine.highest) counted
    ∙ (ap (λ n. max (cond (p (get_or xs i d)) (get_or xs i d).level 0) n) c.loop-routine.invariant
    ∙ sym (greatest_counted (λ (x : Routine). x.level) p xs i d c.loop-routine-test.true)))
