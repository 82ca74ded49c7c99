use Rattle.std.proofs.Common.{◌≡◌, ◌+◌, ◌-◌, ◌∙◌, refl, subst, ap, arith, get_or, length}
use Rattle.turn_unroll.specs.Starts.{AreConstants, AreRowsAt, IsRowAt}
use Rattle.turn_unroll.proofs.Starting.{first_some, start_made}
use Rattle.turn_unroll.proofs.start.start.Goals as goal

pub returns : goal.returns
returns c =
    let d = c.args.draft.now in
    let n = ap length c.items-first.ensures in
    let some = first_some c.args.draft.now c.requires in
    let top : length c.items-first.result.now - 1 + 1 ≡ length c.args.draft.now.first = omega (arith, n, some) in
    start_made d _ c.len-points.result (length c.items-first.result.now - 1) d.depth c.requires c.len-points.ensures refl top
    (subst (λ q. IsRowAt c.len-points.result q c.in_ok-row_at.field-0) (c.point_at.ensures ∙ ap (λ xs. get_or xs (length c.items-first.result.now - 1) c.len-points.result) c.items-first.ensures) c.in_ok-row_at.ensures)
    c.in_ok-row_at-2.ensures
    (subst (λ xs. AreRowsAt xs c.len-points.result d.depth c.in_ok-start_slots.field-0) c.items-first.ensures c.in_ok-start_slots.ensures)
    (subst (λ xs. AreConstants xs c.in_ok-start_cells.field-0) c.items.ensures c.in_ok-start_cells.ensures)
