-- The clauses that a store holds under numbered references.
use Rattle.std.specs.Prelude.{Option, None, Some, List, [], ◌∷◌}
use Rattle.clause_form.specs.declared.lit.Lit.{Lit}
use Rattle.clause_form.specs.declared.store.ClauseRef.{ClauseRef}
use Rattle.clause_form.specs.ClauseStore.{Stored, lits_at, HasAt}

-- the literals, where there are some
abbrev pub lits_or_none : Option (List Lit) → List Lit
lits_or_none None = []
lits_or_none (Some c) = c

-- the clauses with these references, in order of their numbers
abbrev pub clauses_of : List Stored → List ClauseRef → List (List Lit)
clauses_of stored [] = []
clauses_of stored (r ∷ rs) = lits_or_none (lits_at stored r.0) ∷ clauses_of stored rs

-- the store has a clause under each reference
abbrev pub HasEach : List Stored → List ClauseRef → Type 0
HasEach stored [] = Unit {0}
HasEach stored (r ∷ rs) = HasAt stored r.0 × HasEach stored rs
