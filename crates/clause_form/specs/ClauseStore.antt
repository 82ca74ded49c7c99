-- What a store of clauses holds.
use Rattle.std.specs.Prelude.{◌≡◌, ℕ, suc, ◌<◌, ◌≤◌, true, Option, None, Some, List, [], ◌∷◌, ◌==◌, if◌then◌else◌, map, is_some, swap}
use Rattle.clause_form.specs.declared.lit.Lit.{Lit}
use Rattle.clause_form.specs.declared.store.ClauseRef.{ClauseRef}

-- a clause with its reference; a store's meaning is the list of these, in order of the references
pub record Stored : Type 0 where
  pub at : ClauseRef
  pub lits : List Lit

-- the literals of the clause with this reference
abbrev pub lits_at : List Stored → ℕ → Option (List Lit)
lits_at [] r = None
lits_at (s ∷ ss) r = if s.at.0 == r then Some s.lits else lits_at ss r

-- a clause has this reference
abbrev pub HasAt : List Stored → ℕ → Type 0
HasAt ss r = is_some (lits_at ss r) ≡ true

-- each reference is below this one
abbrev pub AreBefore : List Stored → ℕ → Type 0
AreBefore [] r = Unit {0}
AreBefore (s ∷ ss) r = (s.at.0 < r) × AreBefore ss r

-- the references rise strictly, and none is below this number
abbrev pub RiseFrom : ℕ → List Stored → Type 0
RiseFrom k [] = Unit {0}
RiseFrom k (s ∷ ss) = (k ≤ s.at.0) × RiseFrom (suc s.at.0) ss

-- the list with two literals of one clause exchanged
abbrev pub swapped : List Stored → ℕ → ℕ → ℕ → List Stored
swapped [] r i j = []
swapped (s ∷ ss) r i j =
    if s.at.0 == r then record { at = s.at; lits = swap s.lits i j } ∷ ss else s ∷ swapped ss r i j

-- the list without the clause that has this reference
abbrev pub without : List Stored → ℕ → List Stored
without [] r = []
without (s ∷ ss) r = if s.at.0 == r then ss else s ∷ without ss r

-- the same lists of literals in the same order, under references that rise, and the moves are the old references with the new ones
pub record IsCompacted (old new : List Stored) (moves : List (ClauseRef × ClauseRef)) : Type 0 where
  pub lits : map (λ s. s.lits) new ≡ map (λ s. s.lits) old
  pub order : RiseFrom 0 new
  pub from : map (λ m. m.0) moves ≡ map (λ s. s.at) old
  pub to : map (λ m. m.1) moves ≡ map (λ s. s.at) new
