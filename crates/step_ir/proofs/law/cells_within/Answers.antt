use Rattle.step_ir.proofs.law.cells_within.Goals as goal
use Rattle.step_ir.proofs.Within.{few_cells, few_sets, first_cell_within, globals_within, reads_within}
use Rattle.step_ir.specs.Points.{cells_of}

pub returns : goal.returns
returns c =
    record {
      reads = reads_within;
      own = first_cell_within;
      globals = globals_within;
      few_cells = λ code. few_cells (cells_of code);
      few_sets = few_sets;
    }
