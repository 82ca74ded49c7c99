-- The cells of a typed unit, and the code that it is lowered to.
use Rattle.std.specs.Prelude.{ℕ, zero, suc, ◌+◌, false, List, [], ◌∷◌, ◌++◌, length, map, Option, Some, None, slice_get}
use Rattle.chk_base.specs.declared.word.Width.{Width}
use Rattle.chk_base.specs.declared.word.Width.TheVariants.{W32}
use Rattle.chk_base.specs.WordValue.{word_at}
use Rattle.step_ir.specs.declared.code.CellName.{CellName}
use Rattle.step_ir.specs.Points.{PlainPoint, start_word}
use Rattle.typed_unit.specs.declared.typed.GlobalVar.{GlobalVar}
use Rattle.typed_unit.specs.declared.typed.Local.{Local}
use Rattle.typed_unit.specs.Plain.{PlainEntity, PlainUnit}
use Rattle.lower_law.specs.Counts.{Thing, call_depth, things_in, entity_reads}
use Rattle.lower_law.specs.Exact.{Layout, exchanged, first_position}
use Rattle.lower_law.specs.Lowered.{points_of_entity}
use Rattle.lower_law.specs.Statements.{rooms_to, room_all}
use Rattle.lower_law.specs.Translated.{entity_body, unit_over_cells}

-- the value of a start list, and 0 behind its end
abbrev pub or_none : Option ℕ → ℕ
or_none None = 0
or_none (Some n) = n

-- the elements of an array from this one on
abbrev pub element_names : GlobalVar → ℕ → ℕ → List CellName
element_names g at zero = []
element_names g at (suc n) =
    record { text = g.name.text; element = Some at; width = g.ctype.width; signed = g.ctype.signed; start = or_none (slice_get g.start at) } ∷ element_names g (at + 1) n

-- the cells of a variable
abbrev pub variable_names : GlobalVar → Option ℕ → List CellName
variable_names g None =
    record { text = g.name.text; element = None; width = g.ctype.width; signed = g.ctype.signed; start = or_none (slice_get g.start 0) } ∷ []
variable_names g (Some len) = element_names g 0 len

-- the cells of all variables
abbrev pub global_names : List GlobalVar → List CellName
global_names [] = []
global_names (g ∷ gs) = variable_names g g.len ++ global_names gs

-- the cells of the locals of a body
abbrev pub local_names : List Local → List CellName
local_names [] = []
local_names (l ∷ ls) =
    record { text = l.name.text; element = None; width = l.ctype.width; signed = l.ctype.signed; start = 0 } ∷ local_names ls

-- the cells of a call, if there is one
abbrev pub called_names : (ℕ → List CellName) → Option ℕ → List CellName
called_names names None = []
called_names names (Some f) = names f

-- the cells of the calls in things
abbrev pub call_names : (ℕ → List CellName) → List Thing → List CellName
call_names names [] = []
call_names names (x ∷ xs) = called_names names x.calls ++ call_names names xs

-- the cells for values read, which have no name
abbrev pub value_names : ℕ → List CellName
value_names zero = []
value_names (suc n) = record { text = []; element = None; width = W32; signed = false; start = 0 } ∷ value_names n

abbrev pub if_some : {A B : Type 0} → (A → List B) → Option A → List B
if_some f None = []
if_some f (Some x) = f x

module _ (u : PlainUnit) where
  -- the cells of a call of a function in which calls nest less than so deep
  abbrev pub function_names : ℕ → ℕ → List CellName
  function_names zero f = []
  function_names (suc d) f =
      if_some (λ x. local_names x.locals ++ call_names (function_names d) (things_in x.body)) (slice_get u.functions f)

  -- the cells of a body
  abbrev pub body_names : PlainEntity → List CellName
  body_names e = local_names e.locals ++ (call_names (function_names call_depth) (things_in e.body) ++ value_names (entity_reads u e))

  -- the cells of the entity with this number
  abbrev pub entity_names : ℕ → List CellName
  entity_names e = if_some body_names (entity_body e u.entities)

  -- how many cells the entities before this one have
  abbrev pub cells_before : ℕ → ℕ
  cells_before zero = length (global_names u.globals)
  cells_before (suc e) = cells_before e + length (entity_names e)

  -- the cells of the first entities
  abbrev pub names_before : ℕ → List CellName
  names_before zero = global_names u.globals
  names_before (suc e) = names_before e ++ entity_names e

  -- where each entity's cells stand: its locals and those of its calls, and then those for values read
  abbrev pub layout : Layout
  layout =
      record {
        globals = length (global_names u.globals);
        first = cells_before;
        temp = λ e. cells_before e + (((unit_over_cells u).entity e).locals + room_all (rooms_to (unit_over_cells u) call_depth) ((unit_over_cells u).entity e).body);
        top = λ e. cells_before (suc e);
      }

  -- the width of a cell, where there are so many entities
  abbrev pub cell_width : ℕ → ℕ → Width
  cell_width entities cell = (word_at (map start_word (names_before entities)) cell).width

  -- the points of an entity, of which the first that runs and point 0 change places
  abbrev pub lowered_points : ℕ → ℕ → List PlainPoint
  lowered_points entities e =
      let c = unit_over_cells u in
      points_of_entity (exchanged (first_position c call_depth layout (cell_width entities) e)) (layout.temp e) c call_depth (layout.first e) (c.entity e)
