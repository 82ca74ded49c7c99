-- Codes as plain data, without where their parts lie in memory: points, and cells by their numbers.
use Rattle.std.specs.Prelude.{ℕ, ◌+◌, List, [], ◌∷◌, ◌++◌, length, map, take, Option, Some, None, slice_get, option_map}
use Rattle.chk_base.specs.declared.expr.Expr.{Expr}
use Rattle.chk_base.specs.declared.place.Place.{Place}
use Rattle.chk_base.specs.declared.sets.Set.{Set}
use Rattle.chk_base.specs.declared.word.Width.{Width}
use Rattle.chk_base.specs.Term.{Term, term_of}
use Rattle.chk_base.specs.Widths.{PlainWord}
use Rattle.chk_base.specs.WordValue.{word_at}
use Rattle.step_ir.specs.declared.code.Action.{Action}
use Rattle.step_ir.specs.declared.code.Action.TheVariants as of
use Rattle.step_ir.specs.declared.code.CellName.{CellName}
use Rattle.step_ir.specs.declared.code.Code.{Code}
use Rattle.step_ir.specs.declared.code.EntityCode.{EntityCode}
use Rattle.step_ir.specs.declared.code.Point.{Point}
use Rattle.step_ir.specs.declared.code.Target.{Target}
use Rattle.step_ir.specs.declared.event.Service.{Service}

-- of `len` cells from `base` on, the one at the index, or the only one
pub record PlainTarget : Type 0 where
  pub base : ℕ
  pub len : ℕ
  pub index : Option Term

-- what is done in the step of a point; a set is a cell with the expression whose value it is given
pub data PlainAction : Type 0 where
  Read : (target : PlainTarget) (into : ℕ) → PlainAction
  Write : (target : PlainTarget) (term : Term) → PlainAction
  Local : (cell : ℕ) (term : Term) → PlainAction
  Branch : (term : Term) → PlainAction
  Input : (cell : ℕ) → PlainAction
  Call : (function : ℕ) (sets : List (ℕ × Term)) → PlainAction
  Return : (set : Option (ℕ × Term)) → PlainAction
  Invoke : (service : Service) → PlainAction
  Assert : (term : Term) → PlainAction
  End : PlainAction

-- a point: a trap is an expression with the number of a failure, and a next is one with a point
pub record PlainPoint : Type 0 where
  pub place : Place
  pub action : PlainAction
  pub traps : List (Term × ℕ)
  pub nexts : List (Term × ℕ)

-- a target as plain data
abbrev pub target_of : Target → PlainTarget
target_of t = record { base = t.base; len = t.len; index = option_map term_of t.index }

-- a set as plain data
abbrev pub set_of : Set → ℕ × Term
set_of s = (s.cell, term_of s.value)

-- the set of a return as plain data
abbrev pub return_of : ℕ × Expr → ℕ × Term
return_of s = (s.0, term_of s.1)

-- an action as plain data
abbrev pub plain_action : Action → PlainAction
plain_action (of.Read target into) = Read (target_of target) into
plain_action (of.Write target value) = Write (target_of target) (term_of value)
plain_action (of.Local cell value) = Local cell (term_of value)
plain_action (of.Branch value) = Branch (term_of value)
plain_action (of.Input cell) = Input cell
plain_action (of.Call function sets) = Call function (map set_of sets)
plain_action (of.Return set) = Return (option_map return_of set)
plain_action (of.Service service) = Invoke service
plain_action (of.Assert value) = Assert (term_of value)
plain_action of.End = End

-- an item of a list of traps or nexts as plain data
abbrev pub item_of : Expr × ℕ → Term × ℕ
item_of x = (term_of x.0, x.1)

-- a point as plain data
abbrev pub plain_of : Point → PlainPoint
plain_of p =
    record { place = p.place; action = plain_action p.action; traps = map item_of p.traps; nexts = map item_of p.next }

-- the points of an entity, where there is one
abbrev pub points_of : Option EntityCode → List Point
points_of None = []
points_of (Some e) = e.points

-- the points of the entity with this number, as plain data
abbrev pub points_in : Code → ℕ → List PlainPoint
points_in code e = map plain_of (points_of (slice_get code.entities e))

-- the cells that are entities' own, in the order of the entities
abbrev pub own_cells : List EntityCode → List CellName
own_cells [] = []
own_cells (e ∷ es) = e.names ++ own_cells es

-- all cells in the order of their numbers: the globals, and then those of each entity
abbrev pub cells_of : Code → List CellName
cells_of code = code.globals ++ own_cells code.entities

-- the number of the first cell of the entity with this number
abbrev pub first_cell : Code → ℕ → ℕ
first_cell code e = length code.globals + length (own_cells (take e code.entities))

-- the word of a cell at the start
abbrev pub start_word : CellName → PlainWord
start_word name = record { width = name.width; bits = name.start }

-- the words of all cells at the start
abbrev pub start_words : Code → List PlainWord
start_words code = map start_word (cells_of code)

-- the width of the cell with this number
abbrev pub width_in : Code → ℕ → Width
width_in code cell = (word_at (start_words code) cell).width

-- the bits of the cell with this number at the start
abbrev pub start_bits : Code → ℕ → ℕ
start_bits code cell = (word_at (start_words code) cell).bits
