-- Typed statements as plain trees.
use Rattle.std.specs.Prelude.{ℕ, zero, suc, ◌+◌, Bool, false, List, [], ◌∷◌, Option, Some, None}
use Rattle.chk_base.specs.declared.place.Place.{Place}
use Rattle.step_ir.specs.declared.event.Service.{Service}
use Rattle.step_ir.specs.PointStep.{nowhere}
use Rattle.lower_law.specs.Typed.{CType, CellExpr}

mutual
  -- a statement; a block leaves no thing to do. A `while` is a loop without a third part, and a `for` is one after its first part
  pub data CellStatement : Type 0 where
    -- a local is set
    Set : (place : Place) (at : ℕ) (type : CType) (e : CellExpr) → CellStatement
    -- a global, or an element, is written
    Write : (place : Place) (cell : ℕ) (type : CType) (e : CellExpr) → CellStatement
    WriteAt : (place : Place) (cell len : ℕ) (type : CType) (index e : CellExpr) → CellStatement
    If : (place : Place) (c : CellExpr) (on off : CellBlock) → CellStatement
    Loop : (place : Place) (c : CellExpr) (third body : CellBlock) → CellStatement
    Assert : (place : Place) (e : CellExpr) → CellStatement
    Input : (place : Place) (at : ℕ) (type : CType) → CellStatement
    -- a call, and the local that takes the result
    Call : (place : Place) (function : ℕ) (args : List CellExpr) (into : Option (ℕ × CType)) → CellStatement
    Return : (place : Place) (e : Option CellExpr) → CellStatement
    Serve : (place : Place) (service : Service) → CellStatement
    Block : (body : CellBlock) → CellStatement

  pub data CellBlock : Type 0 where
    Nil : CellBlock
    Cons : (s : CellStatement) (rest : CellBlock) → CellBlock

-- statements in order
abbrev pub block : List CellStatement → CellBlock
block [] = Nil
block (s ∷ ss) = Cons s (block ss)

-- a function, or the body of an entity; the parameters are the first locals, and `gives` says whether there is a result
pub record CellFunction : Type 0 where
  pub params : List CType
  pub locals : ℕ
  pub gives : Bool
  pub body : CellBlock
  -- of the closing brace
  pub close : Place

-- nothing to do
abbrev pub no_body : CellFunction
no_body = record { params = []; locals = 0; gives = false; body = Nil; close = nowhere }

-- the functions and the entities' bodies, by their numbers
pub record CellUnit : Type 0 where
  pub fun : ℕ → CellFunction
  pub entity : ℕ → CellFunction

-- arguments, none of which is an index
abbrev pub asked : List CellExpr → List (Option ℕ × CellExpr)
asked [] = []
asked (e ∷ es) = (None, e) ∷ asked es

abbrev pub asked_if : Option CellExpr → List (Option ℕ × CellExpr)
asked_if None = []
asked_if (Some e) = (None, e) ∷ []

-- the expressions of a thing in the order in which they are asked, the index of a target first, with the length of its array
abbrev pub questions : CellStatement → List (Option ℕ × CellExpr)
questions (Set p at t e) = (None, e) ∷ []
questions (Write p cell t e) = (None, e) ∷ []
questions (WriteAt p cell len t i e) = (Some len, i) ∷ (None, e) ∷ []
questions (If p c on off) = (None, c) ∷ []
questions (Loop p c third body) = (None, c) ∷ []
questions (Assert p e) = (None, e) ∷ []
questions (Input p at t) = []
questions (Call p f args into) = asked args
questions (Return p e) = asked_if e
questions (Serve p s) = []
questions (Block b) = []

-- the place of a thing
abbrev pub place_of : CellStatement → Place
place_of (Set p at t e) = p
place_of (Write p cell t e) = p
place_of (WriteAt p cell len t i e) = p
place_of (If p c on off) = p
place_of (Loop p c third body) = p
place_of (Assert p e) = p
place_of (Input p at t) = p
place_of (Call p f args into) = p
place_of (Return p e) = p
place_of (Serve p s) = p
place_of (Block b) = nowhere

module _ (rooms : ℕ → ℕ) where
  -- the cells of the expanded calls of a statement, where a call of each function takes so many; they are numbered in the order of the text
  abbrev mutual
    pub room : CellStatement → ℕ
    room (Set p at t e) = 0
    room (Write p cell t e) = 0
    room (WriteAt p cell len t i e) = 0
    room (If p c on off) = room_all on + room_all off
    room (Loop p c third body) = room_all third + room_all body
    room (Assert p e) = 0
    room (Input p at t) = 0
    room (Call p f args into) = rooms f
    room (Return p e) = 0
    room (Serve p s) = 0
    room (Block b) = room_all b

    pub room_all : CellBlock → ℕ
    room_all Nil = 0
    room_all (Cons s b) = room s + room_all b

-- the cells of a function's locals and of the calls in it, where calls nest at most so deep
abbrev pub rooms_to : CellUnit → ℕ → ℕ → ℕ
rooms_to unit zero f = 0
rooms_to unit (suc d) f = (unit.fun f).locals + room_all (rooms_to unit d) (unit.fun f).body
