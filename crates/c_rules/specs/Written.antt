-- Statements as they are written, as plain trees.
use Rattle.std.specs.Prelude.{List, [], ◌∷◌, map, Option, Some, None}
use Rattle.chk_base.specs.declared.place.Place.{Place}
use Rattle.c_unit.specs.declared.expression.Expression.{Expression}
use Rattle.c_unit.specs.declared.statement.Local.{Local}
use Rattle.c_unit.specs.declared.statement.Simple.{Simple}
use Rattle.c_unit.specs.declared.statement.Start.{Start}
use Rattle.c_unit.specs.declared.statement.Branch.{Branch, fold-Branch}
use Rattle.c_unit.specs.declared.statement.Statement.{Statement, fold-Statement}
use Rattle.c_unit.specs.declared.statement.Statement.TheOpen.{Statement-F, Branch-F}

mutual
  pub data WrittenStatement : Type 0 where
    Empty : (place : Place) → WrittenStatement
    Block : (place : Place) (body : WrittenBlock) → WrittenStatement
    Declare : (place : Place) (local : Local) → WrittenStatement
    Do : (place : Place) (simple : Simple) → WrittenStatement
    If : (place : Place) (branches : WrittenBranches) (otherwise : WrittenBlock) → WrittenStatement
    While : (place : Place) (condition : Expression) (body : WrittenBlock) → WrittenStatement
    For : (place : Place) (start : Option Start) (condition : Option Expression) (step : Option Simple) (body : WrittenBlock) → WrittenStatement
    Return : (place : Place) (value : Option Expression) → WrittenStatement

  -- statements in order
  pub data WrittenBlock : Type 0 where
    NoStatement : WrittenBlock
    StatementThen : (statement : WrittenStatement) (others : WrittenBlock) → WrittenBlock

  -- the branches of an `if` in order
  pub data WrittenBranches : Type 0 where
    NoBranch : WrittenBranches
    BranchThen : (place : Place) (condition : Expression) (body : WrittenBlock) (others : WrittenBranches) → WrittenBranches

-- a branch of an `if`
pub record WrittenBranch : Type 0 where
  pub place : Place
  pub condition : Expression
  pub body : WrittenBlock

-- the statements of this list
abbrev pub block : List WrittenStatement → WrittenBlock
block [] = NoStatement
block (s ∷ ss) = StatementThen s (block ss)

-- the branches of this list
abbrev pub branches : List WrittenBranch → WrittenBranches
branches [] = NoBranch
branches (b ∷ bs) = BranchThen b.place b.condition b.body (branches bs)

-- the statements of a block, and none where there is no block
abbrev pub block_or_none : Option (List WrittenStatement) → WrittenBlock
block_or_none None = NoStatement
block_or_none (Some ss) = block ss

-- one level of a statement
abbrev pub statement_layer : Statement-F WrittenStatement WrittenBranch → WrittenStatement
statement_layer (Statement-F.Empty place) = Empty place
statement_layer (Statement-F.Block place body) = Block place (block body)
statement_layer (Statement-F.Local place local) = Declare place local
statement_layer (Statement-F.Simple place simple) = Do place simple
statement_layer (Statement-F.If place bs otherwise) = If place (branches bs) (block_or_none otherwise)
statement_layer (Statement-F.While place condition body) = While place condition (block body)
statement_layer (Statement-F.For place start condition step body) = For place start condition step (block body)
statement_layer (Statement-F.Return place value) = Return place value

-- one level of a branch
abbrev pub branch_layer : Branch-F WrittenStatement WrittenBranch → WrittenBranch
branch_layer b = record { place = b.place; condition = b.condition; body = block b.block }

-- a statement without where its parts lie
abbrev pub written : Statement → WrittenStatement
written = fold-Statement WrittenStatement WrittenBranch statement_layer branch_layer

-- statements in order
abbrev pub written_block : List Statement → WrittenBlock
written_block ss = block (map written ss)

-- a branch
abbrev pub written_branch : Branch → WrittenBranch
written_branch = fold-Branch WrittenStatement WrittenBranch statement_layer branch_layer

-- branches in order
abbrev pub written_branches : List Branch → WrittenBranches
written_branches bs = branches (map written_branch bs)
