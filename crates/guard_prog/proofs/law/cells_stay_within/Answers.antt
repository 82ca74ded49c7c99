use Rattle.guard_prog.proofs.CellLimits.{cells}
use Rattle.guard_prog.proofs.law.cells_stay_within.Goals as goal

pub returns : goal.returns
returns c = cells
