-- The lengths of arrays.
use Rattle.std.specs.Prelude.{◌≡◌, ℕ, Option, Some, None}
use Rattle.typed_unit.specs.declared.typed.GlobalVar.{GlobalVar}

-- the array with this number has this length
abbrev pub IsLength : Option GlobalVar → ℕ → Type 0
IsLength None len = ⊥
IsLength (Some g) len = g.len ≡ Some len
