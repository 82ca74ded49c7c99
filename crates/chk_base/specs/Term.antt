-- Expressions as plain trees, without where their parts lie in memory.
use Rattle.std.specs.Prelude.{ℕ, Bool}
use Rattle.chk_base.specs.declared.expr.UnOp.{UnOp}
use Rattle.chk_base.specs.declared.expr.BinOp.{BinOp}
use Rattle.chk_base.specs.declared.expr.Expr.{Expr}
use Rattle.chk_base.specs.declared.expr.Expr.TheVariants as of

-- a tree of constants, cells and operators
pub data Term : Type 0 where
  Const : (n : ℕ) → Term
  Cell : (at : ℕ) (signed : Bool) → Term
  Pick : (base len : ℕ) (signed : Bool) (index : Term) → Term
  Un : (op : UnOp) (a : Term) → Term
  Bin : (op : BinOp) (a b : Term) → Term
  Choose : (c a b : Term) → Term

-- the tree that an expression is
abbrev pub term_of : Expr → Term
term_of (of.Const n) = Const n
term_of (of.Cell at s) = Cell at s
term_of (of.Pick' base len s p index) = Pick base len s (term_of index)
term_of (of.Un' op p a) = Un op (term_of a)
term_of (of.Bin' op p a q b) = Bin op (term_of a) (term_of b)
term_of (of.Choose' p c q a r b) = Choose (term_of c) (term_of a) (term_of b)
