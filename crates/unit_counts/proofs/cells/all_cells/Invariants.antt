use Rattle.std.proofs.Common.{◌≡◌}
use Rattle.typed_unit.specs.Views.{unit_of}
use Rattle.lower_law.specs.Layout.{cells_before}
use Rattle.unit_counts.specs.Cells.{entity_cells}
use Rattle.unit_counts.proofs.cells.all_cells.Given as goal

abbrev pub invariant-loop-number : goal.invariant-loop-number
invariant-loop-number l = (l.cells ≡ entity_cells (unit_of l.unit) l.number) × (l.at ≡ cells_before (unit_of l.unit) l.number)
