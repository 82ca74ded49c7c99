use Rattle.step_ir.proofs.InOrder.{sound}
use Rattle.step_ir.proofs.law.sound_levels.Goals as goal
use Rattle.step_ir.proofs.Stacks.{current_above, current_in_range}

pub returns : goal.returns
returns c = record { sound = sound; above = current_above; below = current_in_range }
