use Rattle.std.proofs.Common.{◌≡◌}
use Rattle.lower_law.specs.Translated.{global_cell}
use Rattle.unit_counts.specs.Cells.{global_cells}
use Rattle.unit_counts.proofs.cells.first_cells.Given as goal

abbrev pub invariant-loop-i : goal.invariant-loop-i
invariant-loop-i l = (l.cells ≡ global_cells l.globals l.i) × (l.at ≡ global_cell l.globals l.i)
