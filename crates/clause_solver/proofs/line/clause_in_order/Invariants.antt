use Rattle.clause_solver.proofs.Sorting.{IsBegun}
use Rattle.clause_solver.proofs.line.clause_in_order.Given as goal

abbrev pub invariant-loop-lit : goal.invariant-loop-lit
invariant-loop-lit l = IsBegun l.lits l.clause l.lit-index
