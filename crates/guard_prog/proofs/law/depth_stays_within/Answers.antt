use Rattle.guard_prog.proofs.Runs.{depths}
use Rattle.guard_prog.proofs.law.depth_stays_within.Goals as goal

pub returns : goal.returns
returns c = depths
