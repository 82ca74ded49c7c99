-- What points of a code that fits name is within its cells.
use Rattle.std.proofs.Common.{◌≡◌, ℕ, zero, suc, ◌+◌, ◌≤◌, List, [], ◌∷◌, length, length-append, map, take, refl, arith}
use Rattle.std.proofs.lemmas.Bool.Decides.{nat_tests}
use Rattle.chk_base.specs.declared.word.Width.{Width}
use Rattle.chk_base.specs.declared.word.Width.TheVariants.{W1, W8, W16, W32}
use Rattle.chk_base.specs.Term.{Term, Const, Cell, Pick, Un, Bin, Choose}
use Rattle.chk_base.specs.Widths.{bits_of}
use Rattle.chk_base.specs.WordValue.{IsWithin}
use Rattle.step_ir.proofs.Counting.{length_at_most}
use Rattle.step_ir.specs.declared.code.CellName.{CellName}
use Rattle.step_ir.specs.declared.code.Code.{Code}
use Rattle.step_ir.specs.declared.code.EntityCode.{EntityCode}
use Rattle.step_ir.specs.Fits.{AreSetsFit, Misses, ReadsBetween, bit_count}
use Rattle.step_ir.specs.Numbers.{AreUnder, times}
use Rattle.step_ir.specs.Points.{cells_of, first_cell, own_cells}

-- what reads cells below a bound is within it
pub reads_within : (low high n : ℕ) (t : Term) → ReadsBetween low high t → high ≤ n → IsWithin n t
reads_within low high n (Const k) reads le = tt
reads_within low high n (Cell at s) reads le = let below = reads.1 in omega arith
reads_within low high n (Pick base len s index) reads le =
    let below = reads.2 in
    (omega arith, reads_within low high n index reads.3 le)
reads_within low high n (Un op a) reads le = reads_within low high n a reads le
reads_within low high n (Bin op a b) reads le = (reads_within low high n a reads.0 le, reads_within low high n b reads.1 le)
reads_within low high n (Choose c a b) reads le = (
  reads_within low high n c reads.0 le,
  reads_within low high n a reads.1 le,
  reads_within low high n b reads.2 le,
)

-- the cells of the first entities are among those of all
own_cells-take : (e : ℕ) (entities : List EntityCode) → length (own_cells (take e entities)) ≤ length (own_cells entities)
own_cells-take zero entities = omega arith
own_cells-take (suc e) [] = omega arith
own_cells-take (suc e) (x ∷ xs) =
    let rest = own_cells-take e xs in
    let few = length-append x.names (own_cells (take e xs)) in
    let all = length-append x.names (own_cells xs) in
    omega arith

-- the cells of an entity are within all
pub first_cell_within : (code : Code) (e : ℕ) → first_cell code e ≤ length (cells_of code)
first_cell_within code e =
    let rest = own_cells-take e code.entities in
    let all = length-append code.globals (own_cells code.entities) in
    omega arith

-- the globals are within all
pub globals_within : (code : Code) → length code.globals ≤ length (cells_of code)
globals_within code = let all = length-append code.globals (own_cells code.entities) in omega arith

-- a cell has a bit
bits_positive : (w : Width) → 1 ≤ bits_of w
bits_positive W1 = omega arith
bits_positive W8 = omega arith
bits_positive W16 = omega arith
bits_positive W32 = omega arith

-- there are no more cells than bits
pub few_cells : (cells : List CellName) → length cells ≤ bit_count cells
few_cells [] = omega arith
few_cells (c ∷ cs) = let rest = few_cells cs in let some = bits_positive c.width in omega arith

-- the cells of sets
abbrev cells_set : List (ℕ × Term) → List ℕ
cells_set sets = map (λ s. s.0) sets

-- a cell that no set is of is not among theirs
missed : (cell : ℕ) (sets : List (ℕ × Term)) → Misses cell sets → times cell (cells_set sets) ≡ 0
missed cell [] h = refl
missed cell (s ∷ ss) h =
    let differ = h.0 in
    let rest = missed cell ss h.1 in
    grind (arith, nat_tests)

module _ (code : Code) (e : ℕ) where
  -- the sets of a call are of cells of the code
  sets_under : (sets : List (ℕ × Term)) → AreSetsFit code e sets → AreUnder (length (cells_of code)) (cells_set sets)
  sets_under [] fit = tt
  sets_under (s ∷ ss) fit =
      let below = fit.0.cell.below in
      let all = first_cell_within code (e + 1) in
      (omega arith, sets_under ss fit.2)

  -- each cell is set at most once
  sets_once : (sets : List (ℕ × Term)) (q : ℕ) → AreSetsFit code e sets → times q (cells_set sets) ≤ 1
  sets_once [] q fit = omega arith
  sets_once (s ∷ ss) q fit =
      let rest = sets_once ss q fit.2 in
      let none = missed s.0 ss fit.1 in
      grind (arith, nat_tests)

  -- one cell for each set
  length-cells_set : (sets : List (ℕ × Term)) → length (cells_set sets) ≡ length sets
  length-cells_set [] = refl
  length-cells_set (s ∷ ss) = let rest = length-cells_set ss in omega arith

  -- so there are no more sets than cells
  pub few_sets : (sets : List (ℕ × Term)) → AreSetsFit code e sets → length sets ≤ length (cells_of code)
  few_sets sets fit =
      let bound = length_at_most (length (cells_of code)) 1 (cells_set sets) (sets_under sets fit) (λ q. sets_once sets q fit) in
      let same = length-cells_set sets in
      omega arith
