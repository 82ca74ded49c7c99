-- Typed expressions whose globals are named by their cells.
use Rattle.std.specs.Prelude.{ℕ, Bool}
pub use Rattle.typed_unit.specs.declared.typed.CType.{CType}
pub use Rattle.c_unit.specs.declared.expression.BinaryOperator.{BinaryOperator}
pub use Rattle.c_unit.specs.declared.expression.BinaryOperator.TheVariants.{Multiply, Divide, Remainder, Add, Subtract, ShiftLeft, ShiftRight, Less, LessEqual, Greater, GreaterEqual, Equal, NotEqual, And, Xor, Or, LogicalAnd, LogicalOr}
pub use Rattle.c_unit.specs.declared.expression.UnaryOperator.{UnaryOperator}
pub use Rattle.c_unit.specs.declared.expression.UnaryOperator.TheVariants.{Minus, Plus, Not, Complement}

-- an expression, with its conversions written out; a local is named by its number and a global by its first cell, and the operands of an operator are signed or not
pub data CellExpr : Type 0 where
  Number : (n : ℕ) → CellExpr
  Local : (at : ℕ) (type : CType) → CellExpr
  Global : (cell : ℕ) (type : CType) → CellExpr
  Element : (cell len : ℕ) (type : CType) (index : CellExpr) → CellExpr
  Binary : (op : BinaryOperator) (signed : Bool) (a b : CellExpr) → CellExpr
  Unary : (op : UnaryOperator) (signed : Bool) (a : CellExpr) → CellExpr
  -- `a && b` and `a || b`
  Conjunction : (a b : CellExpr) → CellExpr
  Disjunction : (a b : CellExpr) → CellExpr
  Conditional : (c a b : CellExpr) → CellExpr
  Converted : (type : CType) (a : CellExpr) → CellExpr
