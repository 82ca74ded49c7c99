use Rattle.trace_law.proofs.law.same_traces.Goals as goal
use Rattle.trace_law.proofs.Whole.{depth_in_order, same_traces_in_order, same_traces_of_sound}

pub returns : goal.returns
returns g c = record { sound = same_traces_of_sound; in_order = same_traces_in_order; depth = depth_in_order }
