-- Branches over cells, and bounds on the numbers in statements.
use Rattle.std.specs.Prelude.{ℕ, ◌<◌, List, [], ◌∷◌, Option, Some, None}
use Rattle.chk_base.specs.declared.place.Place.{Place}
use Rattle.typed_unit.specs.declared.typed.GlobalVar.{GlobalVar}
use Rattle.typed_unit.specs.declared.typed.Local.{Local}
use Rattle.typed_unit.specs.Views.{PlainBranch}
use Rattle.lower_law.specs.Statements.{CellStatement, Set, Write, WriteAt, If, Loop, Assert, Input, Call, Return, Serve, Block, CellBlock, Nil, Cons}
use Rattle.lower_law.specs.Translated.{expr, statements}
use Rattle.lower_law.specs.Typed.{CType, CellExpr}
use Rattle.lower_pieces.specs.Within.{LocalsBelow}

abbrev pub IfNumbers : ℕ → Option CellExpr → Type 0
IfNumbers n None = Unit {0}
IfNumbers n (Some e) = LocalsBelow n e

abbrev pub ArgumentsBelow : ℕ → List CellExpr → Type 0
ArgumentsBelow n [] = Unit {0}
ArgumentsBelow n (e ∷ es) = LocalsBelow n e × ArgumentsBelow n es

abbrev pub TakenUnder : ℕ → Option (ℕ × CType) → Type 0
TakenUnder n None = Unit {0}
TakenUnder n (Some a) = a.0 < n

-- the numbers of locals and functions are below this one
abbrev mutual
  pub NumbersBelow : ℕ → CellStatement → Type 0
  NumbersBelow n (Set p at t e) = (at < n) × LocalsBelow n e
  NumbersBelow n (Write p c t e) = LocalsBelow n e
  NumbersBelow n (WriteAt p c len t i e) = LocalsBelow n i × LocalsBelow n e
  NumbersBelow n (If p c a b) = LocalsBelow n c × AllNumbersBelow n a × AllNumbersBelow n b
  NumbersBelow n (Loop p c x b) = LocalsBelow n c × AllNumbersBelow n x × AllNumbersBelow n b
  NumbersBelow n (Assert p e) = LocalsBelow n e
  NumbersBelow n (Input p at t) = at < n
  NumbersBelow n (Call p f args into) = (f < n) × ArgumentsBelow n args × TakenUnder n into
  NumbersBelow n (Return p e) = IfNumbers n e
  NumbersBelow n (Serve p s) = Unit {0}
  NumbersBelow n (Block b) = AllNumbersBelow n b

  pub AllNumbersBelow : ℕ → CellBlock → Type 0
  AllNumbersBelow n Nil = Unit {0}
  AllNumbersBelow n (Cons s b) = NumbersBelow n s × AllNumbersBelow n b

module _ (globals : List GlobalVar) (locals : List Local) where
  -- a branch over cells, and what is done where its condition is 0
  abbrev pub branch_cells : PlainBranch → CellBlock → CellStatement
  branch_cells b off = If b.place (expr globals b.condition) (statements globals locals b.block) off

  -- branches one behind another
  abbrev pub chained_cells : List PlainBranch → CellBlock → CellBlock
  chained_cells [] off = off
  chained_cells (b ∷ bs) off = Cons (branch_cells b (chained_cells bs off)) Nil

  -- an `if` over cells
  abbrev pub branched_cells : Place → List PlainBranch → CellBlock → CellStatement
  branched_cells place [] off = Block off
  branched_cells place (b ∷ bs) off = branch_cells b (chained_cells bs off)

  abbrev pub BranchesBelow : ℕ → List PlainBranch → Type 0
  BranchesBelow n [] = Unit {0}
  BranchesBelow n (b ∷ bs) = (LocalsBelow n (expr globals b.condition) × AllNumbersBelow n (statements globals locals b.block)) × BranchesBelow n bs
