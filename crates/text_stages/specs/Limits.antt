-- What a run takes: texts that take no input, and codes that aren't too large for its turns.
use Rattle.std.specs.Prelude.{◌≡◌, ℕ, ◌*◌, ◌<◌, ◌≤◌, Option, Some}
use Rattle.chk_base.specs.declared.place.Place.{Place}
use Rattle.lower_law.specs.Counts.{saturated}
use Rattle.answers.specs.declared.refusal.Refusal.{Refusal}
use Rattle.answers.specs.declared.refusal.Refusal.TheVariants as why
use Rattle.step_ir.specs.declared.code.Code.{Code}

-- the place at which an input is first taken, where one is
abbrev pub IsFormRefusal : Option Place → Refusal → Type 0
IsFormRefusal input (why.FormC place) = input ≡ Some place
IsFormRefusal input _ = ⊥

-- turns times the weight, and turns times the cells, are within their limits
pub record IsWithinLimits (turns : ℕ) (code : Code) : Type 0 where
  pub size : turns * code.weight ≤ 65536
  pub state : turns * code.cells ≤ 1048576

-- turns times the weight are past their limit, or else turns times the cells are past theirs; each number is as far as it goes below 2^64
abbrev pub IsLimitRefusal : ℕ → Code → Refusal → Type 0
IsLimitRefusal turns code (why.Size number) = (65536 < turns * code.weight) × (number ≡ saturated (turns * code.weight))
IsLimitRefusal turns code (why.State number) =
    (turns * code.weight ≤ 65536) × (1048576 < turns * code.cells) × (number ≡ saturated (turns * code.cells))
IsLimitRefusal turns code _ = ⊥
