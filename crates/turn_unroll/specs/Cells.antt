-- Cells as buses, and how a turn changes them.
use Rattle.std.specs.Prelude.{◌≡◌, ℕ, ◌+◌, ◌<◌, ◌%◌, Bool, true, false, ◌&&◌, if◌then◌else◌, ◌==◌, List, [], ◌∷◌, length, get_or, Option, Some, None, unwrap_or, slice_get}
use Rattle.clause_form.specs.declared.lit.Lit.{Lit}
use Rattle.clause_form.specs.ClauseTruth.{Values, is_lit_true}
use Rattle.chk_base.specs.declared.sets.Set.{Set}
use Rattle.chk_base.specs.declared.word.Width.{Width}
use Rattle.chk_base.specs.declared.word.Width.TheVariants.{W32}
use Rattle.chk_base.specs.Widths.{limit_of}
use Rattle.chk_base.specs.Operators.{truth}
use Rattle.chk_base.specs.Term.{Term}
use Rattle.chk_base.specs.WordValue.{value, word_at, IsWithin}
use Rattle.guard_prog.specs.GuardedRun.{PlainAlternative, value_in, value_set}
use Rattle.bit_circuit.specs.declared.bus.Bus.{Bus}
use Rattle.bit_circuit.specs.Extension.{PlainFormula, IsModel, Extends}
use Rattle.bit_circuit.specs.Selection.{AreInside, numbers, words_of}
use Rattle.turn_law.specs.Sight.{set_of}
use Rattle.turn_unroll.specs.declared.ways.Way.{Way}
use Rattle.turn_unroll.specs.Ways.{IsBelow, below_of, choice_of, top_of}

-- the width of a cell
abbrev pub width_in : List Width → ℕ → Width
width_in widths q = unwrap_or (slice_get widths q) W32

-- the number of a cell
abbrev pub cell_in : Values → List Bus → ℕ → ℕ
cell_in v cells q = get_or (numbers v cells) q 0

-- the value of an expression over the cells
abbrev pub term_in : Values → List Width → List Bus → Term → ℕ
term_in v widths cells t = value t (word_at (words_of v widths cells))

-- the guard of an alternative isn't 0 over the cells
abbrev pub is_open_in : List Width → List Bus → Values → PlainAlternative → Bool
is_open_in widths cells v a = truth (term_in v widths cells a.guard)

-- cells that became these: as many, of variables of the formula, with these numbers
pub record SetsCells (old new : PlainFormula) (was now : List Bus) (number : Values → ℕ → ℕ) : Type 0 where
  pub extends : Extends old new
  pub count : length now ≡ length was
  pub inside : AreInside new.variables now
  pub equal : (v : Values) → IsModel v new → (q : ℕ) → cell_in v now q ≡ number v q

-- each cell is below the limit of its width
abbrev pub AreBelowLimits : PlainFormula → List Width → List Bus → Type 0
AreBelowLimits s widths cells = (v : Values) → IsModel v s → (q : ℕ) → cell_in v cells q < limit_of (width_in widths q)

-- where the literal is true the cell has this number
abbrev pub put_in : Values → Lit → ℕ → ℕ → List Bus → ℕ → ℕ
put_in v taken cell number cells q = if is_lit_true v taken && (cell == q) then number else cell_in v cells q

-- where the literal is true the cells have the values of these sets over the old cells
abbrev pub sets_in : Values → Lit → Option ℕ → ℕ → ℕ
sets_in v taken o old = if is_lit_true v taken then unwrap_or o old else old

-- the value that an alternative sets a cell to, if it sets it
abbrev pub set_by : Values → List Width → List Bus → ℕ → PlainAlternative → ℕ → Option ℕ
set_by v widths cells word a q = set_of (width_in widths) (cell_in v cells) word a.input a.sets q

-- the number of a cell after each alternative that is taken
abbrev pub cell_after_ways : Values → List Width → List Bus → ℕ → List Way → ℕ → ℕ → ℕ
cell_after_ways v widths cells word [] q old = old
cell_after_ways v widths cells word (w ∷ ws) q old =
    cell_after_ways v widths cells word ws q (sets_in v w.taken (set_by v widths cells word (choice_of w) q) old)

-- the cells that are set are among the first n, and so are those that the expressions name
abbrev pub AreSetsWithin : ℕ → List (ℕ × Term) → Type 0
AreSetsWithin n [] = Unit {0}
AreSetsWithin n (s ∷ others) = (s.0 < n) × IsWithin n s.1 × AreSetsWithin n others

-- an input has the width of the cell that takes it
abbrev pub FitsInput : List Width → Option Width → List (ℕ × Term) → Type 0
FitsInput widths None sets = Unit {0}
FitsInput widths (Some w) [] = Unit {0}
FitsInput widths (Some w) (s ∷ others) = limit_of w ≡ limit_of (width_in widths s.0)

-- an alternative of a draft with so many points and cells of these widths
pub record IsFit (points : ℕ) (widths : List Width) (a : PlainAlternative) : Type 0 where
  pub label : 0 < a.label
  pub guard : IsWithin (length widths) a.guard
  pub sets : AreSetsWithin (length widths) a.sets
  pub input : FitsInput widths a.input a.sets
  pub top : IsBelow (top_of a.control) points
  pub below : IsBelow (below_of a.control) points

abbrev pub AreFit : ℕ → List Width → List PlainAlternative → Type 0
AreFit points widths [] = Unit {0}
AreFit points widths (a ∷ as') = IsFit points widths a × AreFit points widths as'
