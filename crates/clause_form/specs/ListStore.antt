-- A list of clauses with gaps, as a store.
use Rattle.std.specs.Prelude.{ℕ, suc, Option, None, Some, List, [], ◌∷◌}
use Rattle.clause_form.specs.declared.lit.Lit.{Lit}
use Rattle.clause_form.specs.declared.store.ClauseRef.{ClauseRef}
use Rattle.clause_form.specs.ClauseStore.{Stored}

-- the clauses of a list with gaps; their references are their places, the first of which has this number
abbrev pub present : ℕ → List (Option (List Lit)) → List Stored
present k [] = []
present k (None ∷ es) = present (suc k) es
present k (Some c ∷ es) = record { at = record { 0 = k }; lits = c } ∷ present (suc k) es

-- the places that have a clause, from the first number on, with the numbers of these clauses, from the second on
abbrev pub moves_from : ℕ → ℕ → List (Option (List Lit)) → List (ClauseRef × ClauseRef)
moves_from k n [] = []
moves_from k n (None ∷ es) = moves_from (suc k) n es
moves_from k n (Some c ∷ es) = (record { 0 = k }, record { 0 = n }) ∷ moves_from (suc k) (suc n) es

-- the list without its gaps
abbrev pub packed : List (Option (List Lit)) → List (Option (List Lit))
packed [] = []
packed (None ∷ es) = packed es
packed (Some c ∷ es) = Some c ∷ packed es

-- what stands at a place, where there is such a place
abbrev pub joined : {A : Type 0} → Option (Option A) → Option A
joined None = None
joined (Some e) = e
