use Rattle.guard_prog.proofs.Runs.{prefixes}
use Rattle.guard_prog.proofs.law.prefixes_are_runs.Goals as goal

pub returns : goal.returns
returns c = prefixes
