-- A table of literals whose marks are being cleared.
use Rattle.std.specs.Prelude.{◌≡◌, Bool, false, List, slice_index_or}
use Rattle.clause_form.specs.declared.lit.Lit.{Lit}
use Rattle.clause_form.specs.Literals.{has}

-- what isn't in the list has no true place
abbrev pub HasNoMore : List Bool → List Lit → Type 0
HasNoMore table lits = (l : Lit) → has lits l ≡ false → slice_index_or table l.0 false ≡ false
