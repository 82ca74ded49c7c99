use Rattle.std.proofs.Common.{◌≡◌, drop, reverse}
use Rattle.clause_solver.proofs.line.hints_of.Given as goal

abbrev pub invariant-loop-at : goal.invariant-loop-at
invariant-loop-at l = l.hints ≡ reverse (drop l.at l.numbers)
