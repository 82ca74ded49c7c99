use Rattle.turn_law.proofs.Built.{built}
use Rattle.turn_law.proofs.law.built_turns_are_made.Goals as goal

pub returns : goal.returns
returns c = built
