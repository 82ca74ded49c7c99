use Rattle.std.proofs.Common.{◌∙◌, ◌∷◌, [], ◌++◌, refl, ap}
use Rattle.turn_unroll.proofs.Advancing.{unrolled_more}
use Rattle.turn_unroll.proofs.unroll.advanced.Goals as goal

pub returns : goal.returns
returns c =
    unrolled_more c.args.draft.now c.args.count c.args.turns c.args.unrolled _ c.in_ok-turned.turned c.requires.shaped c.requires.unrolled c.in_ok-turned.ensures refl
    (c.in_ok-push.ensures.ok ∙ ap (λ x. c.args.unrolled.failures ++ x ∷ []) c.failure_with.ensures) c.last_with.ensures
    (c.in_ok-push-2.ensures.ok ∙ ap (λ x. c.args.unrolled.depths ++ x ∷ []) c.in_ok-copy_row.ensures) c.in_ok-push-3.ensures.ok c.in_ok-push-4.ensures.ok
