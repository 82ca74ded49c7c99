use Rattle.std.proofs.Common.{refl}
use Rattle.one_stack.proofs.levels.level_count.Goals as goal
use Rattle.step_ir.specs.Setting.{highest_level}

pub returns-clause-count : goal.returns-clause-count
unfolding highest_level
returns-clause-count c = refl
