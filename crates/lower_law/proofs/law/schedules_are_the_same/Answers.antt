-- The law is one lemma.
use Rattle.lower_law.proofs.Schedules.{same_schedules}
use Rattle.lower_law.proofs.law.schedules_are_the_same.Goals as goal

pub returns : goal.returns
returns c = same_schedules
