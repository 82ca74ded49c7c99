use Rattle.turn_law.proofs.Induction.{unrolls_start}
use Rattle.turn_law.proofs.law.no_turn_is_unrolled.Goals as goal

pub returns : goal.returns
returns c = unrolls_start
