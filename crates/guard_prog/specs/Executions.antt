-- What an execution stands for, and what it needs for a turn.
use Rattle.std.specs.Prelude.{◌≡◌, ℕ, Bool, ◌&&◌, if◌then◌else◌, List, Option, map, length}
use Rattle.chk_base.specs.declared.word.Width.{Width}
use Rattle.chk_base.specs.Widths.{PlainWord}
use Rattle.chk_base.specs.Term.{term_of}
use Rattle.chk_base.specs.WordValue.{word_at}
use Rattle.guard_prog.specs.declared.draft.Alternative.{Alternative}
use Rattle.guard_prog.specs.declared.draft.Draft.{Draft}
use Rattle.guard_prog.specs.declared.execution.Execution.{Execution}
use Rattle.guard_prog.specs.Drafts.{plain_alternatives, plain_sets}
use Rattle.guard_prog.specs.GuardedRun.{PlainAlternative, State, alternative_with, cells_after, enabled_of, is_fail}
use Rattle.guard_prog.specs.WellShaped.{names_cells, sets_fit, input_fits}

-- the width of a cell
abbrev pub width_at : List PlainWord → ℕ → Width
width_at cells q = (word_at cells q).width

-- the value of a cell
abbrev pub bits_at : List PlainWord → ℕ → ℕ
bits_at cells q = (word_at cells q).bits

-- the widths of the cells
abbrev pub widths_of : List PlainWord → List Width
widths_of cells = map (λ w. w.width) cells

-- the state: the value of each cell, the stack and whether a failure has come
abbrev pub state_of : Execution → State
state_of e = record { cells = bits_at e.cells; stack = e.stack; is_failed = e.is_failed }

-- the execution is one of this draft: its cells have the draft's widths
pub record IsExecutionOf (d : Draft) (e : Execution) : Type 0 where
  pub widths : widths_of e.cells ≡ d.widths

-- the alternative names only cells of these widths, and its input has the width of the cell that takes it
abbrev pub is_takeable : List Width → Alternative → Bool
is_takeable widths a =
    (names_cells (length widths) (term_of a.guard) && sets_fit (length widths) a.sets)
    && input_fits widths a.sets a.input

-- the alternative of a point with this label whose guard isn't 0 over these cells
abbrev pub enabled_with : List PlainWord → ℕ → List Alternative → Option PlainAlternative
enabled_with cells label point =
    alternative_with label (enabled_of (width_at cells) (bits_at cells) (plain_alternatives point))

-- the values of the cells after an alternative is taken with this word; a failure keeps them
abbrev pub values_after : List PlainWord → Alternative → ℕ → ℕ → ℕ
values_after cells a word q =
    if is_fail a.control then bits_at cells q
    else cells_after (width_at cells) (bits_at cells) word a.input (plain_sets a.sets) q
