-- Trees over cells without where their parts lie in memory.
use Rattle.std.specs.Prelude.{ℕ, map, option_map}
use Rattle.lower_law.specs.Typed.{CType, CellExpr, Number, Local, Global, Element, Binary, Unary, Conjunction, Disjunction, Conditional, Converted}
use Rattle.lower_law.specs.Statements.{CellStatement, Set, Write, WriteAt, If, Loop, Assert, Input, Call, Return, Serve, Block, CellFunction, block}
use Rattle.lower_pieces.specs.declared.tree.ExpressionTree.{ExpressionTree}
use Rattle.lower_pieces.specs.declared.tree.ExpressionTree.TheVariants as of
use Rattle.lower_pieces.specs.declared.tree.Takes.{Takes}
use Rattle.lower_pieces.specs.declared.tree.FunctionTree.{FunctionTree}
use Rattle.lower_pieces.specs.declared.tree.StatementTree.{StatementTree, fold-StatementTree}
use Rattle.lower_pieces.specs.declared.tree.StatementTree.TheOpen.{StatementTree-F}

-- an expression
abbrev pub tree_of : ExpressionTree → CellExpr
tree_of (of.Number n) = Number n
tree_of (of.Local at t) = Local at t
tree_of (of.Global cell t) = Global cell t
tree_of (of.Element' cell len t p i) = Element cell len t (tree_of i)
tree_of (of.Binary' op s p a q b) = Binary op s (tree_of a) (tree_of b)
tree_of (of.Unary' op s p a) = Unary op s (tree_of a)
tree_of (of.Conjunction' p a q b) = Conjunction (tree_of a) (tree_of b)
tree_of (of.Disjunction' p a q b) = Disjunction (tree_of a) (tree_of b)
tree_of (of.Conditional' p c q a r b) = Conditional (tree_of c) (tree_of a) (tree_of b)
tree_of (of.Converted' t p a) = Converted t (tree_of a)

-- the local that takes a result
abbrev pub takes_of : Takes → ℕ × CType
takes_of t = (t.at, t.ctype)

-- one level of a statement
abbrev pub statement_layer : StatementTree-F CellStatement → CellStatement
statement_layer (StatementTree-F.Set place at t e) = Set place at t (tree_of e)
statement_layer (StatementTree-F.Write place cell t e) = Write place cell t (tree_of e)
statement_layer (StatementTree-F.WriteAt place cell len t i e) = WriteAt place cell len t (tree_of i) (tree_of e)
statement_layer (StatementTree-F.If place c a b) = If place (tree_of c) (block a.items) (block b.items)
statement_layer (StatementTree-F.Loop place c x b) = Loop place (tree_of c) (block x.items) (block b.items)
statement_layer (StatementTree-F.Assert place e) = Assert place (tree_of e)
statement_layer (StatementTree-F.Input place at t) = Input place at t
statement_layer (StatementTree-F.Call place f args into) = Call place f (map tree_of args.items) (option_map takes_of into)
statement_layer (StatementTree-F.Return place e) = Return place (option_map tree_of e)
statement_layer (StatementTree-F.Serve place s) = Serve place s
statement_layer (StatementTree-F.Block b) = Block (block b.items)

-- a statement
abbrev pub statement_of : StatementTree → CellStatement
statement_of = fold-StatementTree CellStatement statement_layer

-- a function
abbrev pub function_of : FunctionTree → CellFunction
function_of f =
    record {
      params = f.params.items;
      locals = f.locals;
      gives = f.gives;
      body = block (map statement_of f.body.items);
      close = f.close;
    }
