-- The cells of a unit: those of its variables, and those of each entity with their places.
use Rattle.std.specs.Prelude.{ℕ, zero, suc, List, [], ◌∷◌, ◌++◌, Option, Some, None}
use Rattle.step_ir.specs.declared.code.CellName.{CellName}
use Rattle.typed_unit.specs.declared.typed.GlobalVar.{GlobalVar}
use Rattle.typed_unit.specs.declared.typed.Local.{Local}
use Rattle.typed_unit.specs.declared.typed.TypedFunction.{TypedFunction}
use Rattle.typed_unit.specs.Plain.{PlainUnit}
use Rattle.lower_law.specs.Layout.{called_names, entity_names, layout}
use Rattle.lower_law.specs.Translated.{global_cell}
use Rattle.unit_counts.specs.declared.cells.EntityCells.{EntityCells}
use Rattle.unit_counts.specs.declared.tally.BodySize.{BodySize}
use Rattle.unit_counts.specs.declared.things.ThingSize.{ThingSize}

-- the first cells of the first variables
abbrev pub global_cells : List GlobalVar → ℕ → List ℕ
global_cells gs zero = []
global_cells gs (suc g) = global_cells gs g ++ global_cell gs g ∷ []

-- the cells of the entity with this number
abbrev pub cells_of_entity : PlainUnit → ℕ → EntityCells
cells_of_entity u e = record { names = entity_names u e; first = (layout u).first e; temp = (layout u).temp e }

-- the cells of the first entities
abbrev pub entity_cells : PlainUnit → ℕ → List EntityCells
entity_cells u zero = []
entity_cells u (suc e) = entity_cells u e ++ cells_of_entity u e ∷ []

-- the locals of a function, and none where there is no such function
abbrev pub locals_or_none : Option TypedFunction → List Local
locals_or_none None = []
locals_or_none (Some f) = f.locals

-- the things of a function, and none where there is no such function
abbrev pub things_or_none : Option BodySize → List ThingSize
things_or_none None = []
things_or_none (Some size) = size.things

-- the cells of the calls in things
abbrev pub names_in : (ℕ → List CellName) → List ThingSize → List CellName
names_in names [] = []
names_in names (x ∷ xs) = called_names names x.calls ++ names_in names xs
