-- The code that a typed unit is lowered to.
use Rattle.std.specs.Prelude.{◌≡◌, ℕ, ◌<◌, List, [], length, map, Option, Some, None, slice_get}
use Rattle.step_ir.specs.declared.code.CellName.{CellName}
use Rattle.step_ir.specs.declared.code.Code.{Code}
use Rattle.step_ir.specs.declared.code.EntityCode.{EntityCode}
use Rattle.step_ir.specs.Points.{PlainPoint, points_in}
use Rattle.typed_unit.specs.Plain.{PlainUnit}
use Rattle.lower_law.specs.Counts.{call_depth}
use Rattle.lower_law.specs.Exact.{exchanged, first_position}
use Rattle.lower_law.specs.Layout.{cell_width, entity_names, global_names, layout, lowered_points}
use Rattle.lower_law.specs.Translated.{unit_over_cells}

-- the cells of an entity, where there is one
abbrev pub names_of : Option EntityCode → List CellName
names_of None = []
names_of (Some e) = e.names

-- the same points, of which those at 0 and at this position change places
pub record IsExchanged (z : ℕ) (ps qs : List PlainPoint) : Type 0 where
  pub long : length qs ≡ length ps
  pub at : (k : ℕ) → slice_get qs k ≡ slice_get ps (exchanged z k)

-- the position of the first point of an entity that runs, where there are so many entities
abbrev pub first_point : PlainUnit → ℕ → ℕ → ℕ
first_point u entities e = first_position (unit_over_cells u) call_depth (layout u) (cell_width u entities) e

-- a code with the cells and points of so many first entities of a unit, and the names of its functions
pub record IsCodeOf (u : PlainUnit) (count : ℕ) (code : Code) : Type 0 where
  pub entities : length code.entities ≡ count
  pub globals : code.globals ≡ global_names u.globals
  pub names : (e : ℕ) → e < count → names_of (slice_get code.entities e) ≡ entity_names u e
  pub points : (e : ℕ) → e < count → IsExchanged (first_point u count e) (lowered_points u count e) (points_in code e)
  pub functions : code.functions ≡ map (λ f. f.name.text) u.functions
