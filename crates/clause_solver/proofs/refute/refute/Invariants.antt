use Rattle.std.proofs.Common.{◌≡◌, ℕ, List, length}
use Rattle.clause_form.specs.declared.lit.Lit.{Lit}
use Rattle.clause_solver.specs.Propagation.{IsConflict}
use Rattle.clause_solver.proofs.Refuting.{IsRefuting}
use Rattle.clause_solver.specs.Trail.{decisions, lits_of, IsTrail}
use Rattle.clause_solver.proofs.refute.refute.Given as goal

abbrev pub invariant-loop-entry : goal.invariant-loop-entry
invariant-loop-entry l = record {
  flat : decisions l.trail ≡ 0;
  refuting : (n : ℕ) (clauses : List (List Lit)) → IsTrail n clauses l.fn.trail → IsConflict clauses l.fn.trail l.conflict → IsRefuting clauses (lits_of l.fn.trail) l.trail l.hints.items;
}

abbrev pub decreases-loop-entry : goal.decreases-loop-entry
decreases-loop-entry l = length l.trail
