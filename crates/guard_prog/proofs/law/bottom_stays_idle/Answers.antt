use Rattle.guard_prog.proofs.Bottoms.{bottoms}
use Rattle.guard_prog.proofs.law.bottom_stays_idle.Goals as goal

pub returns : goal.returns
returns c = bottoms
