use Rattle.std.proofs.Common.{◌≤◌}
use Rattle.clause_solver.specs.Numbering.{clauses_of}
use Rattle.clause_solver.specs.Trail.{IsTrail, unset}
use Rattle.clause_solver.proofs.propagate.propagate.Given as goal

abbrev pub invariant-loop-number : goal.invariant-loop-number
invariant-loop-number g l = record {
  trail : IsTrail l.variables (clauses_of (g.C.ClauseStore.stored l.store) l.numbering) l.trail;
  no_more : unset l.variables l.trail ≤ unset l.variables l.fn.trail;
}

abbrev pub decreases-loop-number : goal.decreases-loop-number
decreases-loop-number g l = unset l.variables l.trail
