use Rattle.std.proofs.Common.{length}
use Rattle.clause_solver.specs.Analysis.{IsAnalysis}
use Rattle.clause_solver.specs.Numbering.{clauses_of}
use Rattle.clause_solver.specs.Trail.{below, lits_of}
use Rattle.clause_solver.proofs.analyze.to_point.Given as goal

abbrev pub invariant-loop-entry : goal.invariant-loop-entry
invariant-loop-entry g l =
    IsAnalysis (clauses_of (g.C.ClauseStore.stored l.store) l.numbering) (lits_of l.fn.trail) (below l.fn.trail) l.trail l.resolvent.seen l.resolvent.lower.items l.resolvent.count l.hints.items

abbrev pub decreases-loop-entry : goal.decreases-loop-entry
decreases-loop-entry g l = length l.trail
