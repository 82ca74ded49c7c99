-- Typed units as plain trees.
use Rattle.std.specs.Prelude.{ℕ, Bool, List, [], ◌∷◌, Option}
use Rattle.chk_base.specs.declared.place.Place.{Place}
use Rattle.chk_base.specs.declared.text.Name.{Name}
use Rattle.application.specs.declared.app.Entity.{Entity}
use Rattle.c_unit.specs.declared.expression.BinaryOperator.{BinaryOperator}
use Rattle.c_unit.specs.declared.expression.UnaryOperator.{UnaryOperator}
use Rattle.c_unit.specs.declared.unit.EntityKind.{EntityKind}
use Rattle.step_ir.specs.declared.event.Service.{Service}
use Rattle.typed_unit.specs.declared.typed.CType.{CType}
use Rattle.typed_unit.specs.declared.typed.GlobalVar.{GlobalVar}
use Rattle.typed_unit.specs.declared.typed.Local.{Local}
use Rattle.typed_unit.specs.declared.typed.Taker.{Taker}

-- an expression with its place and its type
pub data PlainExpr : Type 0 where
  Number : (place : Place) (type : CType) (bits : ℕ) → PlainExpr
  Truth : (place : Place) (type : CType) (value : Bool) → PlainExpr
  Local' : (place : Place) (type : CType) (local : ℕ) → PlainExpr
  Global : (place : Place) (type : CType) (global : ℕ) → PlainExpr
  Element : (place : Place) (type : CType) (global len : ℕ) (index : PlainExpr) → PlainExpr
  Parenthesis : (place : Place) (type : CType) (a : PlainExpr) → PlainExpr
  Unary : (place : Place) (type : CType) (op : UnaryOperator) (a : PlainExpr) → PlainExpr
  Cast : (place : Place) (type : CType) (a : PlainExpr) → PlainExpr
  Binary : (place : Place) (type : CType) (op : BinaryOperator) (a b : PlainExpr) → PlainExpr
  Conditional : (place : Place) (type : CType) (c a b : PlainExpr) → PlainExpr
  Conversion : (place : Place) (type : CType) (a : PlainExpr) → PlainExpr

mutual
  -- a statement; an `else if` is an `if` in the block of the `else`
  pub data PlainStatement : Type 0 where
    Set : (place : Place) (local : ℕ) (value : PlainExpr) → PlainStatement
    Write : (place : Place) (global : ℕ) (value : PlainExpr) → PlainStatement
    WriteElement : (place : Place) (global len : ℕ) (index value : PlainExpr) → PlainStatement
    Input : (place : Place) (taker : Taker) → PlainStatement
    Call : (place name : Place) (function : ℕ) (arguments : List PlainExpr) (taker : Option Taker) → PlainStatement
    Serve : (place : Place) (service : Service) (argument : Option Place) → PlainStatement
    Assert : (place : Place) (condition : PlainExpr) → PlainStatement
    If : (place : Place) (condition : PlainExpr) (yes no : PlainBlock) → PlainStatement
    While : (place : Place) (condition : PlainExpr) (body : PlainBlock) → PlainStatement
    For : (place : Place) (start : PlainBlock) (condition : Option PlainExpr) (step body : PlainBlock) → PlainStatement
    Return : (place : Place) (value : Option PlainExpr) → PlainStatement
    Block : (place : Place) (body : PlainBlock) → PlainStatement

  -- statements in order
  pub data PlainBlock : Type 0 where
    NoStatement : PlainBlock
    StatementThen : (statement : PlainStatement) (others : PlainBlock) → PlainBlock

-- the statements of this list
abbrev pub block : List PlainStatement → PlainBlock
block [] = NoStatement
block (s ∷ ss) = StatementThen s (block ss)

-- statements as a list
abbrev pub listed : PlainBlock → List PlainStatement
listed NoStatement = []
listed (StatementThen s ss) = s ∷ listed ss

-- a function; the parameters are the first locals
pub record PlainFunction : Type 0 where
  pub name : Name
  pub result : Option CType
  pub params : ℕ
  pub locals : List Local
  pub body : PlainBlock
  pub close : Place

-- the body of a task or routine, and the object of its kind that has its name
pub record PlainEntity : Type 0 where
  pub kind : EntityKind
  pub name : Name
  pub entity : Option Entity
  pub locals : List Local
  pub body : PlainBlock
  pub close : Place

-- a whole text
pub record PlainUnit : Type 0 where
  pub globals : List GlobalVar
  pub functions : List PlainFunction
  pub entities : List PlainEntity
  pub end : Place

-- the type of an expression
abbrev pub type_of : PlainExpr → CType
type_of (Number p t n) = t
type_of (Truth p t b) = t
type_of (Local' p t l) = t
type_of (Global p t g) = t
type_of (Element p t g len i) = t
type_of (Parenthesis p t a) = t
type_of (Unary p t op a) = t
type_of (Cast p t a) = t
type_of (Binary p t op a b) = t
type_of (Conditional p t c a b) = t
type_of (Conversion p t a) = t
