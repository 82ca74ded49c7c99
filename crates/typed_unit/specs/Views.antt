-- Typed units as plain trees: what they hold, without where it lies.
use Rattle.std.specs.Prelude.{List, [], ◌∷◌, map, Option, Some, None, option_map}
use Rattle.chk_base.specs.declared.place.Place.{Place}
use Rattle.typed_unit.specs.declared.typed.TypedExpr.{TypedExpr, fold-TypedExpr}
use Rattle.typed_unit.specs.declared.typed.TypedExpr.TheOpen.{TypedExpr-F}
use Rattle.typed_unit.specs.declared.typed.TypedBranch.{TypedBranch, fold-TypedBranch}
use Rattle.typed_unit.specs.declared.typed.TypedStatement.{TypedStatement, fold-TypedStatement}
use Rattle.typed_unit.specs.declared.typed.TypedStatement.TheOpen.{TypedStatement-F, TypedBranch-F}
use Rattle.typed_unit.specs.declared.typed.TypedFunction.{TypedFunction}
use Rattle.typed_unit.specs.declared.typed.TypedEntity.{TypedEntity}
use Rattle.typed_unit.specs.declared.typed.TypedUnit.{TypedUnit}
use Rattle.typed_unit.specs.Plain.{PlainExpr, PlainStatement, PlainBlock, NoStatement, StatementThen, PlainFunction, PlainEntity, PlainUnit, block}
use Rattle.typed_unit.specs.Plain as p

-- one level of an expression
abbrev pub expr_layer : TypedExpr-F PlainExpr → PlainExpr
expr_layer (TypedExpr-F.Number place type bits) = p.Number place type bits
expr_layer (TypedExpr-F.Truth place type value) = p.Truth place type value
expr_layer (TypedExpr-F.Local place type local) = p.Local' place type local
expr_layer (TypedExpr-F.Global place type global) = p.Global place type global
expr_layer (TypedExpr-F.Element place type global len index) = p.Element place type global len index
expr_layer (TypedExpr-F.Parenthesis place type a) = p.Parenthesis place type a
expr_layer (TypedExpr-F.Unary place type op a) = p.Unary place type op a
expr_layer (TypedExpr-F.Cast place type a) = p.Cast place type a
expr_layer (TypedExpr-F.Binary place type op a b) = p.Binary place type op a b
expr_layer (TypedExpr-F.Conditional place type c a b) = p.Conditional place type c a b
expr_layer (TypedExpr-F.Conversion place type a) = p.Conversion place type a

-- an expression
abbrev pub expr_of : TypedExpr → PlainExpr
expr_of = fold-TypedExpr PlainExpr expr_layer

-- a branch of an `if`
pub record PlainBranch : Type 0 where
  pub place : Place
  pub condition : PlainExpr
  pub block : PlainBlock

-- branches, and what is done where no condition holds
abbrev pub chained : List PlainBranch → PlainBlock → PlainBlock
chained [] otherwise = otherwise
chained (b ∷ bs) otherwise = StatementThen (p.If b.place b.condition b.block (chained bs otherwise)) NoStatement

-- an `if` at a place
abbrev pub branched : Place → List PlainBranch → PlainBlock → PlainStatement
branched place [] otherwise = p.Block place otherwise
branched place (b ∷ bs) otherwise = p.If b.place b.condition b.block (chained bs otherwise)

-- the statements of a block, and none where there is no block
abbrev pub block_or_none : Option (List PlainStatement) → PlainBlock
block_or_none None = NoStatement
block_or_none (Some ss) = block ss

-- one level of a statement
abbrev pub statement_layer : TypedStatement-F PlainStatement PlainBranch → PlainStatement
statement_layer (TypedStatement-F.Set place local value) = p.Set place local (expr_of value)
statement_layer (TypedStatement-F.Write place global value) = p.Write place global (expr_of value)
statement_layer (TypedStatement-F.WriteElement place global len index value) =
    p.WriteElement place global len (expr_of index) (expr_of value)
statement_layer (TypedStatement-F.Input place taker) = p.Input place taker
statement_layer (TypedStatement-F.Call place name function arguments taker) =
    p.Call place name function (map expr_of arguments) taker
statement_layer (TypedStatement-F.Service place service argument) = p.Serve place service argument
statement_layer (TypedStatement-F.Assert place condition) = p.Assert place (expr_of condition)
statement_layer (TypedStatement-F.If place branches otherwise) = branched place branches (block_or_none otherwise)
statement_layer (TypedStatement-F.While place condition body) = p.While place (expr_of condition) (block body)
statement_layer (TypedStatement-F.For place start condition step body) =
    p.For place (block start) (option_map expr_of condition) (block step) (block body)
statement_layer (TypedStatement-F.Return place value) = p.Return place (option_map expr_of value)
statement_layer (TypedStatement-F.Block place body) = p.Block place (block body)

-- one level of a branch
abbrev pub branch_layer : TypedBranch-F PlainStatement PlainBranch → PlainBranch
branch_layer b = record { place = b.place; condition = expr_of b.condition; block = block b.block }

-- a statement
abbrev pub statement_of : TypedStatement → PlainStatement
statement_of = fold-TypedStatement PlainStatement PlainBranch statement_layer branch_layer

-- a branch
abbrev pub branch_of : TypedBranch → PlainBranch
branch_of = fold-TypedBranch PlainStatement PlainBranch statement_layer branch_layer

-- statements in order
abbrev pub block_of : List TypedStatement → PlainBlock
block_of ss = block (map statement_of ss)

-- a function
abbrev pub function_of : TypedFunction → PlainFunction
function_of f =
    record {
      name = f.name;
      result = f.result;
      params = f.params;
      locals = f.locals;
      body = block_of f.body;
      close = f.close;
    }

-- the body of a task or routine
abbrev pub entity_of : TypedEntity → PlainEntity
entity_of e =
    record {
      kind = e.kind;
      name = e.name;
      entity = e.entity;
      locals = e.locals;
      body = block_of e.body;
      close = e.close;
    }

-- a whole text
abbrev pub unit_of : TypedUnit → PlainUnit
unit_of u =
    record {
      globals = u.globals;
      functions = map function_of u.functions;
      entities = map entity_of u.entities;
      end = u.end;
    }
