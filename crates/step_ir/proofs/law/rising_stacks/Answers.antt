use Rattle.step_ir.proofs.law.rising_stacks.Goals as goal
use Rattle.step_ir.proofs.Stacks.{rises_below, times_below}

pub returns : goal.returns
returns g c = record { below = rises_below; absent = times_below }
