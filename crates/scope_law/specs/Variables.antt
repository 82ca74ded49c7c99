-- The lengths and the start values of file-level variables.
use Rattle.std.specs.Prelude.{◌≡◌, ℕ, ◌<◌, ◌≤◌, All, List, Option, Some, None, slice_get}
use Rattle.chk_base.specs.Widths.{limit_of}
use Rattle.typed_unit.specs.declared.typed.GlobalVar.{GlobalVar}

-- an array has 1 to 64 elements
abbrev pub IsLengthFit : Option ℕ → Type 0
IsLengthFit None = Unit {0}
IsLengthFit (Some len) = (1 ≤ len) × (len ≤ 64)

-- each element begins with a word of the width
pub record IsVariableFit (g : GlobalVar) : Type 0 where
  pub len : IsLengthFit g.len
  pub start : All (λ n. n < limit_of g.ctype.width) g.start

abbrev pub AreVariablesFit : List GlobalVar → Type 0
AreVariablesFit gs = (i : ℕ) (g : GlobalVar) → slice_get gs i ≡ Some g → IsVariableFit g
