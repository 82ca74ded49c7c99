use Rattle.trace_law.proofs.law.same_traces_over_cells.Goals as goal
use Rattle.trace_law.proofs.Whole.{depth_in_order, same_traces_in_order}

pub returns : goal.returns
returns g c = record { in_order = same_traces_in_order; depth = depth_in_order }
