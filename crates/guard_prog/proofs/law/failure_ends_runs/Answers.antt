use Rattle.guard_prog.proofs.Runs.{failures}
use Rattle.guard_prog.proofs.law.failure_ends_runs.Goals as goal

pub returns : goal.returns
returns c = failures
