-- What is known of a unit that is lowered, and of the trees of its functions.
use Rattle.std.specs.Prelude.{◌≡◌, ℕ, ◌<◌, ◌≤◌, ◌^◌, zero, suc, List, [], ◌∷◌, length, map}
use Rattle.step_ir.specs.Points.{PlainPoint}
use Rattle.step_ir.specs.PointStep.{first, or_zero}
use Rattle.typed_unit.specs.declared.typed.GlobalVar.{GlobalVar}
use Rattle.typed_unit.specs.Plain.{PlainFunction, PlainEntity, PlainUnit}
use Rattle.lower_law.specs.Counts.{bit_total, point_total}
use Rattle.lower_law.specs.Exact.{exchanged}
use Rattle.lower_law.specs.Lowered.{outer}
use Rattle.lower_law.specs.Translated.{function, statements}
use Rattle.scope_law.specs.Right.{AreRight, HasBody}
use Rattle.scope_law.specs.Sizes.{AreFew}
use Rattle.lower_pieces.specs.declared.tree.FunctionTree.{FunctionTree}
use Rattle.lower_pieces.specs.Trees.{function_of}
use Rattle.lower_code.specs.declared.tables.Table.{Table}
use Rattle.lower_code.specs.Bodies.{entry_at, BeginsAt}
use Rattle.lower_code.specs.Chains.{AllNumbersBelow}
use Rattle.lower_code.specs.Plans.{FitsAt, points_at}
use Rattle.lower_code.specs.Tables.{tables_to}
use Rattle.unit_counts.specs.declared.cells.EntityCells.{EntityCells}
use Rattle.unit_counts.specs.Cells.{cells_of_entity}
use Rattle.lower.specs.Zeros.{at_zero}

-- the names in a unit are right, each of so many entities has a body, and the counts are within the limits
pub record IsReady (u : PlainUnit) (count : ℕ) : Type 0 where
  pub right : AreRight u
  pub few : AreFew u
  pub bodies : (e : ℕ) → e < count → HasBody u e
  pub points : point_total u count ≤ 2048
  pub cells : bit_total u count ≤ 8192

-- the trees of a unit's functions, and the tables for calls that nest up to 16 deep
pub record AreTrees (u : PlainUnit) (functions : List FunctionTree) (tables : List Table) : Type 0 where
  pub trees : map function_of functions ≡ map (function u.globals) u.functions
  pub levels : tables ≡ tables_to functions 17

-- the numbers of locals and functions in a function are small
pub record IsSmall (globals : List GlobalVar) (f : PlainFunction) : Type 0 where
  pub locals : length f.locals < 2 ^ 16
  pub numbers : AllNumbersBelow (2 ^ 16) (statements globals f.locals f.body)

abbrev pub AreSmall : List GlobalVar → List PlainFunction → Type 0
AreSmall globals [] = Unit {0}
AreSmall globals (f ∷ fs) = IsSmall globals f × AreSmall globals fs

-- the same of the body of an entity
pub record IsSmallEntity (globals : List GlobalVar) (e : PlainEntity) : Type 0 where
  pub locals : length e.locals < 2 ^ 16
  pub numbers : AllNumbersBelow (2 ^ 16) (statements globals e.locals e.body)

-- the position of the first point that runs of a body with these cells
abbrev pub tree_first : ℕ → ℕ → FunctionTree → ℕ
tree_first temp base t = or_zero (first at_zero (entry_at (λ i. i) temp t (outer base) 0))

-- its points by position, where that one and the first change places
abbrev pub tree_points : ℕ → List FunctionTree → ℕ → FunctionTree → List PlainPoint
tree_points temp functions base t = points_at (exchanged (tree_first temp base t)) temp functions 16 t (outer base) 0

-- the body of an entity fits its cells, and the first point that runs is one of its points
pub record IsPlaced (temp : ℕ) (functions : List FunctionTree) (base : ℕ) (t : FunctionTree) : Type 0 where
  pub fits : FitsAt functions temp 16 base 0 t
  pub begins : BeginsAt temp base 0 t
  pub within : tree_first temp base t < length (tree_points temp functions base t)
  pub few : length (tree_points temp functions base t) ≤ 2 ^ 16

-- the cells of the entities from this one on, so many
abbrev pub cells_from : PlainUnit → ℕ → ℕ → List EntityCells
cells_from u e zero = []
cells_from u e (suc n) = cells_of_entity u e ∷ cells_from u (suc e) n
