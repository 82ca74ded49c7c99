-- The law is two lemmas.
use Rattle.lower_law.proofs.Lowering.{exact}
use Rattle.lower_law.proofs.Numbers.{exact_lowered}
use Rattle.lower_law.proofs.law.lowering_is_exact.Goals as goal

pub returns : goal.returns
returns c = record { units = exact_lowered; numbers = exact }
