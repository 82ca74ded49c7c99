use Rattle.turn_law.proofs.Induction.{unrolls-append}
use Rattle.turn_law.proofs.law.one_more_turn_is_unrolled.Goals as goal

pub returns : goal.returns
returns c = unrolls-append
