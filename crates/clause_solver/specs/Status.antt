-- What the set literals make of a clause.
use Rattle.std.specs.Prelude.{◌≡◌, true, false, List, [], ◌∷◌}
use Rattle.clause_form.specs.declared.lit.Lit.{Lit}
use Rattle.clause_form.specs.Literals.{has}
use Rattle.clause_form.specs.DerivedLine.{unfalse}
use Rattle.clause_form.specs.LearnedLine.{is_settled}
use Rattle.clause_solver.specs.declared.status.Status.{Status}
use Rattle.clause_solver.specs.declared.status.Status.TheVariants.{Conflict, Forced, Settled}

-- nothing of the clause is left in a conflict; one open literal is, where it is forced; and else it is settled
abbrev pub IsStatus : List Lit → List Lit → Status → Type 0
IsStatus set clause Conflict = unfalse set clause ≡ []
IsStatus set clause (Forced l) = (unfalse set clause ≡ l ∷ []) × (has set l ≡ false)
IsStatus set clause Settled = is_settled set clause ≡ true
