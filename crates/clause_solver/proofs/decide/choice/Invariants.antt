use Rattle.clause_solver.specs.Decision.{AreAllSet}
use Rattle.clause_solver.proofs.decide.choice.Given as goal

abbrev pub invariant-loop-at : goal.invariant-loop-at
invariant-loop-at l = AreAllSet l.at l.trail
