use Rattle.turn_law.proofs.Describing.{describes}
use Rattle.turn_law.proofs.law.unrolled_turns_describe.Goals as goal

pub returns : goal.returns
returns c = describes
