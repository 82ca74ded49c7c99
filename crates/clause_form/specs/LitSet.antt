-- A table of literals by their codes.
use Rattle.std.specs.Prelude.{◌≡◌, ℕ, ◌<◌, Bool, false, List, ◌==◌, ◌||◌, if◌then◌else◌, slice_index_or, length}
use Rattle.clause_form.specs.declared.lit.Lit.{Lit}
use Rattle.clause_form.specs.Literals.{has}

-- a place is true where the list has its literal
abbrev pub IsTable : List Bool → List Lit → Type 0
IsTable table lits = (l : Lit) → slice_index_or table l.0 false ≡ has lits l

-- the table with a literal's place set
abbrev pub IsMarked : List Bool → Lit → List Bool → Type 0
IsMarked old lit new = (l : Lit) → slice_index_or new l.0 false ≡ ((lit.0 == l.0) || slice_index_or old l.0 false)

-- the table with a literal's place cleared
abbrev pub IsUnmarked : List Bool → Lit → List Bool → Type 0
IsUnmarked old lit new = (l : Lit) → slice_index_or new l.0 false ≡ (if lit.0 == l.0 then false else slice_index_or old l.0 false)

-- the same table with a place of this number
pub record IsGrown (old : List Bool) (at : ℕ) (new : List Bool) : Type 0 where
  pub within : at < length new
  pub same : (k : ℕ) → slice_index_or new k false ≡ slice_index_or old k false
