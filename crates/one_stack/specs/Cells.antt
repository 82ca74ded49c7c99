-- The widths of cells, as a list.
use Rattle.std.specs.Prelude.{ℕ, List, unwrap_or, slice_get}
use Rattle.chk_base.specs.declared.word.Width.{Width}
use Rattle.chk_base.specs.declared.word.Width.TheVariants.{W32}

-- the width of the cell with this number; a cell that isn't there counts as one of 32 bits
abbrev pub width_at : List Width → ℕ → Width
width_at widths at = unwrap_or (slice_get widths at) W32
