-- The widths and the bits of cells, by their numbers.
use Rattle.std.specs.Prelude.{◌≡◌, ℕ, ◌≤◌, ◌<◌, ◌%◌, List, length}
use Rattle.chk_base.specs.declared.word.Width.{Width}
use Rattle.chk_base.specs.Widths.{PlainWord, limit_of}
use Rattle.chk_base.specs.WordValue.{word_at}
use Rattle.step_ir.specs.declared.code.CellName.{CellName}
use Rattle.step_ir.specs.declared.code.Code.{Code}
use Rattle.step_ir.specs.Fits.{bit_count}
use Rattle.step_ir.specs.Numbers.{put}
use Rattle.step_ir.specs.Points.{cells_of, start_bits, width_in}
use Rattle.step_ir.specs.PointStep.{Bits}

-- the width of each cell
abbrev pub widths : List PlainWord → ℕ → Width
widths cells i = (word_at cells i).width

-- the bits of each cell
abbrev pub bits : List PlainWord → Bits
bits cells i = (word_at cells i).bits

-- one cell is set to these bits, and all keep their widths
pub record IsStored (old : List PlainWord) (cell : ℕ) (n : ℕ) (new : List PlainWord) : Type 0 where
  pub bits : bits new ≡ put (bits old) cell n
  pub widths : widths new ≡ widths old

-- the word of a cell at the start, cut to its width
abbrev pub cut_word : CellName → PlainWord
cut_word name = record { width = name.width; bits = name.start % limit_of name.width }

-- each cell of a code starts with a word of its width, and the cells are few
pub record HasStarts (code : Code) : Type 0 where
  pub starts : (cell : ℕ) → cell < length (cells_of code) → start_bits code cell < limit_of (width_in code cell)
  pub few_bits : bit_count (cells_of code) ≤ 8192
