use Rattle.std.proofs.Common.{◌≡◌, length}
use Rattle.clause_solver.specs.Trail.{lits_of}
use Rattle.clause_solver.specs.Decision.{HasValues}
use Rattle.clause_solver.proofs.decide.values.Given as goal

abbrev pub invariant-loop-at : goal.invariant-loop-at
invariant-loop-at l = record { count : length l.values ≡ l.at; same : HasValues l.at (lits_of l.trail) l.values }
