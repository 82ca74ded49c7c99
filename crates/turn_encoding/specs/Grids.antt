-- Grids of literals.
use Rattle.std.specs.Prelude.{◌≡◌, ℕ, ◌<◌, ◌^◌, List, [], ◌∷◌, length, Option, Some, None, slice_get}
use Rattle.clause_form.specs.declared.lit.Lit.{Lit}

abbrev pub of_row : Option (List Lit) → ℕ → Option Lit
of_row None column = None
of_row (Some row) column = slice_get row column

-- the literal of a row and a column, if they are there
abbrev pub lit_at : List (List Lit) → ℕ → ℕ → Option Lit
lit_at rows row column = of_row (slice_get rows row) column

-- each row has so many columns
abbrev pub AreWide : ℕ → List (List Lit) → Type 0
AreWide n [] = Unit {0}
AreWide n (row ∷ rows) = (length row ≡ n) × AreWide n rows

-- every row has so many columns, or fewer than so many
abbrev pub HasColumns : ℕ → List (List Lit) → Type 0
HasColumns n rows = (t : ℕ) (row : List Lit) → slice_get rows t ≡ Some row → length row ≡ n

abbrev pub HasFewer : ℕ → List (List Lit) → Type 0
HasFewer n rows = (t : ℕ) (row : List Lit) → slice_get rows t ≡ Some row → length row < n
