-- The values of expressions over cells that hold 0.
use Rattle.std.specs.Prelude.{ℕ}
use Rattle.chk_base.specs.declared.word.Width.TheVariants.{W32}
use Rattle.chk_base.specs.Term.{Term}
use Rattle.step_ir.specs.PointStep.{val}

-- the value of an expression where all cells hold 0, whatever their widths are
abbrev pub at_zero : Term → ℕ
at_zero t = val (λ cell. W32) (λ cell. 0) t
