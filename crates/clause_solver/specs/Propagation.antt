-- Unit propagation.
use Rattle.std.specs.Prelude.{◌≡◌, ℕ, ◌<◌, ◌≤◌, true, Some, List, []}
use Rattle.clause_form.specs.declared.lit.Lit.{Lit}
use Rattle.clause_form.specs.Literals.{are_within}
use Rattle.clause_form.specs.DerivedLine.{option_unfalse, clause_at}
use Rattle.clause_form.specs.LearnedLine.{is_closed}
use Rattle.clause_solver.specs.declared.trail.Entry.{Entry}
use Rattle.clause_solver.specs.declared.propagate.Pass.{Pass}
use Rattle.clause_solver.specs.declared.propagate.Pass.TheVariants.{Conflict, Changed, Settled}
use Rattle.clause_solver.specs.Trail.{lits_of, IsTrail, unset}

-- a trail stays one, and no more variables are unset
pub record Grows (clauses : List (List Lit)) (old new : List Entry) : Type 0 where
  pub trail : (n : ℕ) → are_within n clauses ≡ true → IsTrail n clauses old → IsTrail n clauses new
  pub no_more : (n : ℕ) → are_within n clauses ≡ true → IsTrail n clauses old → unset n new ≤ unset n old

-- a trail stays one, and fewer variables are unset
pub record Advances (clauses : List (List Lit)) (old new : List Entry) : Type 0 where
  pub trail : (n : ℕ) → are_within n clauses ≡ true → IsTrail n clauses old → IsTrail n clauses new
  pub fewer : (n : ℕ) → are_within n clauses ≡ true → IsTrail n clauses old → unset n new < unset n old

-- all literals of the clause with this number are false
abbrev pub IsConflict : List (List Lit) → List Entry → ℕ → Type 0
IsConflict clauses trail number = option_unfalse (lits_of trail) (clause_at clauses number) ≡ Some []

-- a scan met a conflict, or set something, or nothing is forced
abbrev pub IsPass : List (List Lit) → List Entry → List Entry → Pass → Type 0
IsPass clauses old new (Conflict number) = Grows clauses old new × IsConflict clauses new number
IsPass clauses old new Changed = Advances clauses old new
IsPass clauses old new Settled = (new ≡ old) × (is_closed (lits_of new) clauses ≡ true)
