use Rattle.std.proofs.Common.{◌≡◌, ◌∙◌, ◌+◌, ◌==◌, if◌then◌else◌, [], arith, ap}
use Rattle.one_stack.specs.Built.{sum_below, table}
use Rattle.one_stack.proofs.Stepping.{item_put}
use Rattle.step_ir.specs.Setting.{setting_of, highest_level}
use Rattle.one_stack.proofs.laying.rooms_of.Goals as goal

pub loop-l-preserved : goal.loop-l-preserved
loop-l-preserved c =
    item_put (λ k. sum_below c.args.entities (λ t. if (setting_of c.args.app.now).level t == k then (setting_of c.args.app.now).limit t else 0)) c.loop-l.l _ _ [] _ c.in_ok-push.ensures.items c.room_at.ensures.count c.loop-l.invariant

pub returns : goal.returns
returns c =
    let same : c.loop-l.l ≡ highest_level + 1 = omega (arith, c.level_count-l-end.ensures.count) in
    c.loop-l.invariant
    ∙ ap (λ n. table n (λ k. sum_below c.args.entities (λ t. if (setting_of c.args.app.now).level t == k then (setting_of c.args.app.now).limit t else 0))) same
