-- The law is two lemmas.
use Rattle.scope_law.proofs.Chains.{bodies}
use Rattle.scope_law.proofs.Sizes.{few}
use Rattle.scope_law.proofs.law.bodies_are_right.Goals as goal

pub returns : goal.returns
returns c = record { sizes = few; bodies = bodies }
