-- Codes as plain data: cells with their widths and start values, and the points of each entity.
use Rattle.std.specs.Prelude.{ℕ, List, length, slice_get}
use Rattle.chk_base.specs.declared.word.Width.{Width}
use Rattle.step_ir.specs.declared.code.Code.{Code}
use Rattle.step_ir.specs.EntityStep.{Behaviour}
use Rattle.step_ir.specs.PointStep.{Bits, of_points}
use Rattle.step_ir.specs.Points.{PlainPoint, cells_of, points_in, start_bits, width_in}

-- how many cells there are, the width and the start value of each, and the points of each entity
pub record PlainCode : Type 0 where
  pub cells : ℕ
  pub width : ℕ → Width
  pub start : Bits
  pub points : ℕ → List PlainPoint

-- a code as plain data
abbrev pub plain_code : Code → PlainCode
plain_code code =
    record { cells = length (cells_of code); width = width_in code; start = start_bits code; points = points_in code }

-- what the entities of a plain code do; over `plain_code` it is `behaviour_of`
abbrev pub steps_of : PlainCode → Behaviour ℕ Bits
steps_of code = of_points (record { width = code.width; point = λ e at. slice_get (code.points e) at })
