-- The points of trees, with each call expanded.
use Rattle.std.specs.Prelude.{ℕ, zero, suc, ◌+◌, ◌<◌, ◌^◌, List, [], ◌∷◌, Option, Some, None, option_map, slice_get}
use Rattle.step_ir.specs.Points.{PlainPoint}
use Rattle.lower_law.specs.Lowered.{Context, Plan, plan_of, close_entry}
use Rattle.lower_law.specs.Statements.{CellStatement, If, Loop, Call, Block, CellBlock, Nil, Cons, CellFunction, CellUnit, no_body, room, room_all, rooms_to}
use Rattle.lower_law.specs.Translated.{or_body, no_function}
use Rattle.lower_pieces.specs.declared.tree.FunctionTree.{FunctionTree}
use Rattle.lower_pieces.specs.Fitting.{AllFit}
use Rattle.lower_pieces.specs.Pieces.{PlainPiece, Stands, Expands, behind, called_entry, pieces_all}
use Rattle.lower_pieces.specs.Sized.{sized, sized_all}
use Rattle.lower_pieces.specs.Trees.{function_of}
use Rattle.lower_code.specs.Tables.{body_of, sizes_at, rooms_at}

-- the unit whose functions these are
abbrev pub function_at : List FunctionTree → ℕ → CellFunction
function_at functions f = or_body no_function (option_map function_of (slice_get functions f))

abbrev pub unit_with : List FunctionTree → (ℕ → CellFunction) → CellUnit
unit_with functions entity = record { fun = function_at functions; entity = entity }

abbrev pub tree_unit : List FunctionTree → CellUnit
tree_unit functions = unit_with functions (λ e. no_body)

module _ (number : ℕ → ℕ) (temp : ℕ) (functions : List FunctionTree) where
  -- the points of a function in which calls nest less than so deep; calls that nest deeper have no point, but begin where their bodies do
  abbrev pub plans_to : ℕ → ℕ → Plan
  plans_to zero f = record { size = 0; entry = λ ctx at. called_entry number temp (slice_get functions f) ctx at; points = λ ctx at. [] }
  plans_to (suc d) f = plan_of number temp (function_at functions) (rooms_to (tree_unit functions) d) (plans_to d) (function_at functions f)

  -- the points of a body
  abbrev pub points_at : ℕ → FunctionTree → Context → ℕ → List PlainPoint
  points_at d f ctx at = (plan_of number temp (function_at functions) (rooms_to (tree_unit functions) d) (plans_to d) (function_of f)).points ctx at

  -- its pieces, where a call of each function has so many points and cells
  abbrev pub pieces_in : (ℕ → ℕ) → (ℕ → ℕ) → FunctionTree → Context → ℕ → List PlainPiece
  pieces_in sizes rooms f ctx at =
      pieces_all number temp functions sizes rooms ctx at (ctx.base + f.locals) (body_of f) (close_entry number f.gives ctx (at + sized_all sizes (body_of f)))

-- this holds of each call, by its function, its first cell and its position
module _ (P : ℕ → ℕ → ℕ → Type 0) where
  abbrev pub PiecesFit : List PlainPiece → Type 0
  PiecesFit [] = Unit {0}
  PiecesFit (Stands p ∷ ps) = PiecesFit ps
  PiecesFit (Expands f ctx at ∷ ps) = P f ctx.base at × PiecesFit ps

  module _ (sizes rooms : ℕ → ℕ) where
    abbrev mutual
      pub CallsFit : ℕ → ℕ → CellStatement → Type 0
      CallsFit at cell (Block b) = AllCallsFit at cell b
      CallsFit at cell (If p c a b) =
          AllCallsFit (behind at (If p c a b)) cell a × AllCallsFit (behind at (If p c a b) + sized_all sizes a) (cell + room_all rooms a) b
      CallsFit at cell (Loop p c x b) =
          AllCallsFit (behind at (Loop p c x b)) cell x × AllCallsFit (behind at (Loop p c x b) + sized_all sizes x) (cell + room_all rooms x) b
      CallsFit at cell (Call p f args into) = P f cell (behind at (Call p f args into))
      CallsFit at cell s = Unit {0}

      pub AllCallsFit : ℕ → ℕ → CellBlock → Type 0
      AllCallsFit at cell Nil = Unit {0}
      AllCallsFit at cell (Cons s b) = CallsFit at cell s × AllCallsFit (at + sized sizes s) (cell + room rooms s) b

-- the numbers of a body at its place are below the bound, and those of the bodies that it calls
pub record BodyFits (functions : List FunctionTree) (sizes rooms : ℕ → ℕ) (temp : ℕ) (P : ℕ → ℕ → ℕ → Type 0) (base at : ℕ) (f : FunctionTree) : Type 0 where
  pub cells : base + f.locals < 2 ^ 16
  pub points : at + sized_all sizes (body_of f) < 2 ^ 16
  pub all : AllFit (2 ^ 16) functions sizes rooms temp base at (base + f.locals) (body_of f)
  pub calls : AllCallsFit P sizes rooms at (base + f.locals) (body_of f)

abbrev pub IfTree : (FunctionTree → Type 0) → Option FunctionTree → Type 0
IfTree P None = Unit {0}
IfTree P (Some f) = P f

-- so it is for a call in which calls nest less than so deep
abbrev pub CallFitsTo : List FunctionTree → ℕ → ℕ → ℕ → ℕ → ℕ → Type 0
CallFitsTo functions temp zero f base at = Unit {0}
CallFitsTo functions temp (suc d) f base at =
    IfTree (BodyFits functions (sizes_at functions d) (rooms_at functions d) temp (CallFitsTo functions temp d) base at) (slice_get functions f)

-- and for a body in which they nest so deep
abbrev pub FitsAt : List FunctionTree → ℕ → ℕ → ℕ → ℕ → FunctionTree → Type 0
FitsAt functions temp d base at f = BodyFits functions (sizes_at functions d) (rooms_at functions d) temp (CallFitsTo functions temp d) base at f
