use Rattle.std.proofs.Common.{ap, arith, length}
use Rattle.typed_unit.specs.Views.{unit_of}
use Rattle.lower_law.specs.Layout.{global_names}
use Rattle.lower_law.specs.Translated.{cell_count}
use Rattle.unit_counts.proofs.CellParts.{cells_few, globals_few}
use Rattle.unit_counts.proofs.cells.cells_of.Goals as goal

pub first_cells-requires : goal.first_cells-requires
first_cells-requires c =
    let s = ap cell_count c.as_slice-3.ensures in
    let g = globals_few c.args.unit.now.globals in
    let h = cells_few (unit_of c.args.unit.now) 0 c.args.entities 8192 c.requires.few (omega arith) in
    omega (arith, s, g, h)

pub overflow_cast-first : goal.overflow_cast-first
overflow_cast-first c =
    let l = c.len-first.ensures in
    let o = ap length c.in_ok-globals.ensures in
    let s = ap (λ gs. length (global_names gs)) c.as_slice-2.ensures in
    let h = cells_few (unit_of c.args.unit.now) 0 c.args.entities 8192 c.requires.few (omega arith) in
    omega (arith, l, o, s, h)
