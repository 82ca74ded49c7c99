-- What a tree of the written grammar means as a statement.
use Rattle.std.specs.Prelude.{false, Option, Some, None, map, List, [], ◌∷◌}
use Rattle.grammar.specs.Grammar.{Tree, Pair, Left, Right, Node, items, leaves}
use Rattle.chk_base.specs.declared.place.Place.{Place}
use Rattle.chk_base.specs.declared.text.Name.{Name}
use Rattle.c_lex.specs.declared.token.Token.{Token}
use Rattle.c_expression.specs.Lexemes.{nowhere, first_place, place_at, name_of, type_of, assigned_of, has_const}
use Rattle.c_expression.specs.Expressions.{no_expression, expression_of, call_of, right_of}
use Rattle.c_unit.specs.declared.expression.Expression.{Expression}
use Rattle.c_unit.specs.declared.expression.RightSide.{RightSide}
use Rattle.c_unit.specs.declared.statement.Simple.{Simple}
use Rattle.c_unit.specs.declared.statement.Simple.TheVariants as simples
use Rattle.c_unit.specs.declared.statement.Declarator.{Declarator}
use Rattle.c_unit.specs.declared.statement.Local.{Local}
use Rattle.c_unit.specs.declared.statement.Start.{Start}
use Rattle.c_unit.specs.declared.statement.Start.TheVariants as starts
use Rattle.c_unit.specs.declared.statement.Statement.{Statement}
use Rattle.c_unit.specs.declared.statement.Statement.TheVariants as s
use Rattle.c_unit.specs.declared.statement.Branch.{Branch}
use Rattle.c_unit.specs.declared.statement.Statement.TheViews.{roll-Branch}

-- ---- locals

-- [ "=" right ]
abbrev pub initial_of : Tree Token → Option RightSide
initial_of (Left (Pair e r)) = Some (right_of r)
initial_of _ = None

-- name [ "=" right ]
abbrev pub declarator_of : Tree Token → Declarator
declarator_of (Pair n i) = record { name = name_of n; initial = initial_of i }
declarator_of x = record { name = name_of x; initial = None }

-- a declarator after a comma
abbrev pub further_declarator : Tree Token → Declarator
further_declarator (Pair c d) = declarator_of d
further_declarator x = declarator_of x

-- local
abbrev pub local_of : Tree Token → Local
local_of (Node (Pair q (Pair t (Pair d m)))) = record { type_name = type_of t; constant = has_const q; declarators = declarator_of d ∷ map further_declarator (items m) }
local_of x = record { type_name = type_of x; constant = false; declarators = [] }

-- ---- simple statements

-- What stands for none.
abbrev pub no_simple : Simple
no_simple = simples.Assert nowhere no_expression

-- "=" right after a name
abbrev pub assign_of : Name → Tree Token → Simple
assign_of n (Pair e r) = simples.Assign n (right_of r)
assign_of n _ = no_simple

-- "[" expr "]" "=" expr after a name
abbrev pub element_of : Name → Tree Token → Simple
element_of n (Pair o (Pair x (Pair c (Pair e y)))) = simples.AssignElement n (expression_of x) (expression_of y)
element_of n _ = no_simple

-- assign expr after a name
abbrev pub update_of : Name → Tree Token → Simple
update_of n (Pair a x) = simples.Update n (assigned_of a) (expression_of x)
update_of n _ = no_simple

-- "++" name and "--" name
abbrev pub increment_of : Tree Token → Simple
increment_of (Pair p n) = simples.PreIncrement (place_at p) (name_of n)
increment_of _ = no_simple

abbrev pub decrement_of : Tree Token → Simple
decrement_of (Pair p n) = simples.PreDecrement (place_at p) (name_of n)
decrement_of _ = no_simple

-- "assert" "(" expr ")"
abbrev pub assertion_of : Tree Token → Simple
assertion_of (Pair a (Pair o (Pair x c))) = simples.Assert (place_at a) (expression_of x)
assertion_of _ = no_simple

-- simple
abbrev pub simple_of : Tree Token → Simple
simple_of (Node (Left (Pair n x))) = assign_of (name_of n) x
simple_of (Node (Right (Left (Pair n x)))) = element_of (name_of n) x
simple_of (Node (Right (Right (Left (Pair n x))))) = update_of (name_of n) x
simple_of (Node (Right (Right (Right (Left (Pair n x)))))) = simples.PostIncrement (name_of n)
simple_of (Node (Right (Right (Right (Right (Left (Pair n x))))))) = simples.PostDecrement (name_of n)
simple_of (Node (Right (Right (Right (Right (Right (Left x))))))) = increment_of x
simple_of (Node (Right (Right (Right (Right (Right (Right (Left x)))))))) = decrement_of x
simple_of (Node (Right (Right (Right (Right (Right (Right (Right (Left (Pair n x)))))))))) = simples.Call (call_of (name_of n) x)
simple_of (Node (Right (Right (Right (Right (Right (Right (Right (Right x))))))))) = assertion_of x
simple_of _ = no_simple

-- What follows the name that a simple statement begins with, by the factored grammar.
abbrev pub change_of : Name → Tree Token → Simple
change_of n (Left x) = assign_of n x
change_of n (Right (Left x)) = element_of n x
change_of n (Right (Right (Left x))) = update_of n x
change_of n (Right (Right (Right (Left x)))) = simples.PostIncrement n
change_of n (Right (Right (Right (Right (Left x))))) = simples.PostDecrement n
change_of n (Right (Right (Right (Right (Right x))))) = simples.Call (call_of n x)
change_of n _ = no_simple

-- ---- parts of statements that may be left out

abbrev pub start_of : Tree Token → Option Start
start_of (Left (Left l)) = Some (starts.Local (local_of l))
start_of (Left (Right x)) = Some (starts.Simple (simple_of x))
start_of _ = None

abbrev pub expression_if : Tree Token → Option Expression
expression_if (Left x) = Some (expression_of x)
expression_if _ = None

abbrev pub simple_if : Tree Token → Option Simple
simple_if (Left x) = Some (simple_of x)
simple_if _ = None

-- "return" [ expr ] ";"
abbrev pub return_of : Tree Token → Statement
return_of (Pair r (Pair x z)) = s.Return (place_at r) (expression_if x)
return_of _ = s.Empty nowhere

-- ---- statements

abbrev mutual
  -- block
  pub block_of : Tree Token → List Statement
  block_of (Node (Pair o (Pair m c))) = statements_of m
  block_of _ = []

  pub statements_of : Tree Token → List Statement
  statements_of (Pair x m) = statement_of x ∷ statements_of m
  statements_of _ = []

  -- statement
  pub statement_of : Tree Token → Statement
  statement_of (Node (Left t)) = s.Empty (place_at t)
  statement_of (Node (Right (Left b))) = s.Block (first_place (leaves b)) (block_of b)
  statement_of (Node (Right (Right (Left (Pair l t))))) = s.Local (first_place (leaves l)) (local_of l)
  statement_of (Node (Right (Right (Right (Left (Pair x t)))))) = s.Simple (first_place (leaves x)) (simple_of x)
  statement_of (Node (Right (Right (Right (Right (Left x)))))) = if_of (first_place (leaves x)) x
  statement_of (Node (Right (Right (Right (Right (Right (Left x))))))) = while_of x
  statement_of (Node (Right (Right (Right (Right (Right (Right (Left x)))))))) = for_of x
  statement_of (Node (Right (Right (Right (Right (Right (Right (Right x)))))))) = return_of x
  statement_of _ = s.Empty nowhere

  -- "if" "(" expr ")" block { "else" "if" "(" expr ")" block } [ "else" block ]
  pub if_of : Place → Tree Token → Statement
  if_of place (Pair b more) = s.If place (branch_of b ∷ branches_of more) (last_of more)
  if_of place _ = s.Empty nowhere

  -- "if" "(" expr ")" block
  pub branch_of : Tree Token → Branch
  branch_of (Pair i (Pair o (Pair e (Pair c b)))) = roll-Branch (record { place = place_at i; condition = expression_of e; block = block_of b })
  branch_of _ = roll-Branch (record { place = nowhere; condition = no_expression; block = [] })

  -- { "else" "if" "(" expr ")" block }
  pub branches_of : Tree Token → List Branch
  branches_of (Pair m f) = elses_of m
  branches_of _ = []

  pub elses_of : Tree Token → List Branch
  elses_of (Pair x m) = else_of x ∷ elses_of m
  elses_of _ = []

  pub else_of : Tree Token → Branch
  else_of (Pair l b) = branch_of b
  else_of _ = roll-Branch (record { place = nowhere; condition = no_expression; block = [] })

  -- [ "else" block ]
  pub last_of : Tree Token → Option (List Statement)
  last_of (Pair m (Left (Pair l b))) = Some (block_of b)
  last_of _ = None

  -- "while" "(" expr ")" block
  pub while_of : Tree Token → Statement
  while_of (Pair w (Pair o (Pair e (Pair c b)))) = s.While (place_at w) (expression_of e) (block_of b)
  while_of _ = s.Empty nowhere

  -- "for" "(" [ local | simple ] ";" [ expr ] ";" [ simple ] ")" block
  pub for_of : Tree Token → Statement
  for_of (Pair f (Pair o (Pair i (Pair a (Pair e (Pair b (Pair t (Pair c y)))))))) = s.For (place_at f) (start_of i) (expression_if e) (simple_if t) (block_of y)
  for_of _ = s.Empty nowhere

-- The place of the brace that closes a block.
abbrev pub close_of : Tree Token → Place
close_of (Node (Pair o (Pair m c))) = place_at c
close_of _ = nowhere
