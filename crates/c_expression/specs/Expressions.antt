-- What a tree of the written grammar means as an expression.
use Rattle.std.specs.Prelude.{ℕ, zero, suc, true, false, map, List, [], ◌∷◌}
use Rattle.grammar.specs.Grammar.{Tree, Pair, Left, Right, Node, items, leaves}
use Rattle.chk_base.specs.declared.place.Place.{Place}
use Rattle.chk_base.specs.declared.text.Name.{Name}
use Rattle.c_lex.specs.declared.token.Token.{Token}
use Rattle.c_expression.specs.Lexemes.{nowhere, first_place, place_at, name_of, number_of, type_of, sign_of, binary_of}
use Rattle.c_unit.specs.declared.expression.Expression.{Expression}
use Rattle.c_unit.specs.declared.expression.Expression.TheVariants as e
use Rattle.c_unit.specs.declared.expression.Argument.{Argument}
use Rattle.c_unit.specs.declared.expression.Call.{Call}
use Rattle.c_unit.specs.declared.expression.RightSide.{RightSide}
use Rattle.c_unit.specs.declared.expression.RightSide.TheVariants as rights

-- What stands for no expression.
abbrev pub no_expression : Expression
no_expression = e.Truth nowhere false

abbrev mutual
  -- expr
  pub expression_of : Tree Token → Expression
  expression_of (Node (Pair l q)) = choice_of (level_of 10 l) q
  expression_of _ = no_expression

  -- [ "?" expr ":" expr ] after the condition
  pub choice_of : Expression → Tree Token → Expression
  choice_of first (Left (Pair q (Pair x (Pair c y)))) = e.Conditional (place_at q) first (expression_of x) (expression_of y)
  choice_of first _ = first

  -- operands that the operators of the levels below this number join
  pub level_of : ℕ → Tree Token → Expression
  level_of zero (Node u) = unary_of u
  level_of (suc level) (Node (Pair l m)) = chain_of level (level_of level l) m
  level_of _ _ = no_expression

  -- the further operands of a level, one after another: they group to the left
  pub chain_of : ℕ → Expression → Tree Token → Expression
  chain_of level left (Pair x m) = chain_of level (linked level left x) m
  chain_of level left _ = left

  -- an operand with one more
  pub linked : ℕ → Expression → Tree Token → Expression
  linked level left (Pair o l) = e.Binary (place_at o) (binary_of o) left (level_of level l)
  linked level left _ = left

  -- unary, and primary after its first two forms
  pub unary_of : Tree Token → Expression
  unary_of (Node (Left (Pair s u))) = e.Unary (place_at s) (sign_of s) (unary_of u)
  unary_of (Node (Right (Left (Pair o x)))) = cast_of (place_at o) x
  unary_of (Node (Right (Right (Left n)))) = e.Number (number_of n)
  unary_of (Node (Right (Right (Right (Left t))))) = e.Truth (place_at t) true
  unary_of (Node (Right (Right (Right (Right (Left t)))))) = e.Truth (place_at t) false
  unary_of (Node (Right (Right (Right (Right (Right (Left (Pair n i)))))))) = indexed_of (name_of n) i
  unary_of (Node (Right (Right (Right (Right (Right (Right (Pair o x)))))))) = inner_of (place_at o) x
  unary_of _ = no_expression

  -- type ")" unary after "("
  pub cast_of : Place → Tree Token → Expression
  cast_of place (Pair t (Pair c u)) = e.Cast place (type_of t) (unary_of u)
  cast_of place _ = no_expression

  -- expr ")" after "("
  pub inner_of : Place → Tree Token → Expression
  inner_of place (Pair x c) = e.Parenthesis place (expression_of x)
  inner_of place _ = no_expression

  -- [ "[" expr "]" ] after a name
  pub indexed_of : Name → Tree Token → Expression
  indexed_of n (Left (Pair o (Pair x c))) = e.Element n (expression_of x)
  indexed_of n _ = e.Variable n

-- an argument, at the place of its first token
abbrev pub argument_of : Tree Token → Argument
argument_of x = record { place = first_place (leaves x); value = expression_of x }

-- an argument after a comma
abbrev pub further_argument : Tree Token → Argument
further_argument (Pair c x) = argument_of x
further_argument x = argument_of x

-- args
abbrev pub arguments_of : Tree Token → List Argument
arguments_of (Left (Pair x m)) = argument_of x ∷ map further_argument (items m)
arguments_of _ = []

-- "(" args ")" after a name
abbrev pub call_of : Name → Tree Token → Call
call_of n (Pair o (Pair a c)) = record { name = n; arguments = arguments_of a }
call_of n _ = record { name = n; arguments = [] }

-- right
abbrev pub right_of : Tree Token → RightSide
right_of (Node (Left x)) = rights.Value (expression_of x)
right_of (Node (Right (Pair n c))) = rights.Call (call_of (name_of n) c)
right_of _ = rights.Value no_expression

-- ---- by the factored grammar

-- What joins a first operand with others, by the operators of the levels below this number.
abbrev pub joined_of : ℕ → Expression → Tree Token → Expression
joined_of zero first x = first
joined_of (suc level) first (Pair x m) = chain_of level (joined_of level first x) m
joined_of (suc level) first x = joined_of level first x

-- What follows the first operand of an expression.
abbrev pub after_of : Expression → Tree Token → Expression
after_of first (Pair j q) = choice_of (joined_of 10 first j) q
after_of first x = no_expression

-- What follows "(": a cast or an expression.
abbrev pub parenthesis_of : Place → Tree Token → Expression
parenthesis_of place (Left x) = cast_of place x
parenthesis_of place (Right x) = inner_of place x
parenthesis_of place x = inner_of place x
