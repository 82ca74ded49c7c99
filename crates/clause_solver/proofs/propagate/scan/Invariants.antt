use Rattle.clause_solver.proofs.Scanning.{IsScanned}
use Rattle.clause_solver.specs.Numbering.{clauses_of}
use Rattle.clause_solver.proofs.propagate.scan.Given as goal

abbrev pub invariant-loop-at : goal.invariant-loop-at
invariant-loop-at g l = IsScanned (clauses_of (g.C.ClauseStore.stored l.store) l.numbering) l.fn.trail l.trail l.at l.changed
