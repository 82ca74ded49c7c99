-- The levels of literals by their codes.
use Rattle.std.specs.Prelude.{◌≡◌, ℕ, ◌<◌, Option, None, List, ◌==◌, if◌then◌else◌, slice_index_or, length}
use Rattle.clause_form.specs.declared.lit.Lit.{Lit}
use Rattle.clause_solver.specs.declared.trail.Entry.{Entry}
use Rattle.clause_solver.specs.Trail.{level_of, AreFresh, decisions}

-- the table has the level of each literal by its code, and the count is the current level
pub record IsIndexed (trail : List Entry) (table : List (Option ℕ)) (count : ℕ) : Type 0 where
  pub levels : (l : Lit) → slice_index_or table l.0 None ≡ level_of trail l
  pub fresh : AreFresh trail
  pub level : count ≡ decisions trail

-- the table with another level, or none, for one literal
abbrev pub IsPut : List (Option ℕ) → Lit → Option ℕ → List (Option ℕ) → Type 0
IsPut old lit level new = (l : Lit) → slice_index_or new l.0 None ≡ (if lit.0 == l.0 then level else slice_index_or old l.0 None)

-- the same table with a place of this number
pub record IsWidened (old : List (Option ℕ)) (at : ℕ) (new : List (Option ℕ)) : Type 0 where
  pub within : at < length new
  pub same : (k : ℕ) → slice_index_or new k None ≡ slice_index_or old k None
