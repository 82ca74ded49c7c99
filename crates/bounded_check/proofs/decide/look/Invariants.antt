use Rattle.bounded_check.proofs.Looking.{AreLeft}
use Rattle.bounded_check.proofs.decide.look.Given as goal

abbrev pub invariant-loop-at : goal.invariant-loop-at
invariant-loop-at l = AreLeft l.checker l.log l.at
