use Rattle.std.proofs.Common.{◌∙◌, ◌∷◌, [], ◌++◌, refl, ap}
use Rattle.turn_unroll.proofs.Advancing.{unrolled_none}
use Rattle.turn_unroll.proofs.unroll.begun.Goals as goal

pub returns : goal.returns
returns c =
    unrolled_none c.args.draft.now c.args.count _ c.in_ok-state.ensures c.in_ok-circuit.ensures.clause c.new-2.ensures refl
    (c.in_ok-push.ensures.ok ∙ ap (λ xs. xs ++ c.in_ok-copy_row.field-0 ∷ []) c.new-depths.ensures ∙ ap (λ x. x ∷ []) c.in_ok-copy_row.ensures)
    c.new-3.ensures c.new-4.ensures
