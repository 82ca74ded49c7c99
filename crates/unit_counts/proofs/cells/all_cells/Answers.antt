use Rattle.std.proofs.Common.{◌+◌, ap, arith, length}
use Rattle.typed_unit.specs.Views.{unit_of}
use Rattle.unit_counts.proofs.CellParts.{cells_few, cells_here}
use Rattle.unit_counts.proofs.cells.all_cells.Goals as goal

pub entity_cells-requires-clause-few : goal.entity_cells-requires-clause-few
entity_cells-requires-clause-few c =
    cells_few (unit_of c.args.unit.now) (c.loop-number.number + 1) c.args.entities 8192 c.requires.few (omega (arith, c.loop-number-test.true))

pub overflow_cast-at : goal.overflow_cast-at
overflow_cast-at c =
    let l = c.len.ensures in
    let o = ap (λ x. length x.names) c.in_ok-one.ensures in
    let h = cells_here (unit_of c.args.unit.now) c.loop-number.number c.args.entities 8192 c.requires.few c.loop-number-test.true in
    omega (arith, l, o, h)

pub overflow_add-at : goal.overflow_add-at
overflow_add-at c =
    let l = c.len.ensures in
    let o = ap (λ x. length x.names) c.in_ok-one.ensures in
    let h = cells_here (unit_of c.args.unit.now) c.loop-number.number c.args.entities 8192 c.requires.few c.loop-number-test.true in
    let i = c.loop-number.invariant.1 in
    omega (arith, l, o, h, i)
