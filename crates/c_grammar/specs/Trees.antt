-- How the trees of the written and the factored grammar go into each other. Only the changed rules are regrouped; in all others the trees are the same
-- but for the name of the rule.
use Rattle.std.specs.Prelude.{ℕ, zero, suc}
use Rattle.grammar.specs.Grammar.{Expression, Many, Rule, optional, ◌▸◌, ◌∣◌, Tree, Nil, Pair, Left, Right, Node}
use Rattle.c_grammar.specs.declared.symbol.Symbol.TheVariants.{Assign, Semicolon, Comma}
use Rattle.c_grammar.specs.Written.{spelled, constant, more_constants, bounds, function, elses, last_else, branch, if_statement, while_statement, for_statement, return_statement, Production, External, Variable, Block, Statement, Local, Simple, RightSide, Expr, Level, Unary, written_rule}
use Rattle.c_grammar.specs.Factored.{change, parenthesis, Part, TheExternal, TheFunction, TheVariables, TheVariable, TheBounds, TheTail, TheBlock, TheStatement, TheIf, TheBranch, TheElse, TheWhile, TheFor, TheReturn, TheLocal, TheSimple, TheChange, TheRight, TheExpression, TheLevel, TheUnary, TheNameless, TheParenthesis, factored_rule}
use Rattle.c_grammar.specs.Regrouping.{regrouped}

-- ---- from the factored grammar to the written one

-- What each rule of the factored grammar stands for in the written one.
abbrev pub written_image : Part → Expression Production
written_image TheExternal = Rule External
written_image TheFunction = function Block
written_image TheVariables = ((spelled Assign ▸ constant) ∣ optional bounds) ▸ Many (spelled Comma ▸ Rule Variable) ▸ spelled Semicolon
written_image TheVariable = Rule Variable
written_image TheBounds = bounds
written_image TheTail = more_constants
written_image TheBlock = Rule Block
written_image TheStatement = Rule Statement
written_image TheIf = if_statement Expr Block
written_image TheBranch = branch Expr Block
written_image TheElse = elses Expr Block ▸ last_else Block
written_image TheWhile = while_statement Expr Block
written_image TheFor = for_statement Local Simple Expr Block
written_image TheReturn = return_statement Expr
written_image TheLocal = Rule Local
written_image TheSimple = Rule Simple
written_image TheChange = change RightSide Expr
written_image TheRight = Rule RightSide
written_image TheExpression = Rule Expr
written_image (TheLevel level) = Rule (Level level)
written_image TheUnary = Rule Unary
written_image TheNameless = Rule Unary
written_image TheParenthesis = parenthesis Unary Expr

-- a list of parameters
abbrev pub written_parameters : {T : Type 0} → Tree T → Tree T
written_parameters (Left x) = Left (Left x)
written_parameters (Right (Left x)) = Right x
written_parameters (Right (Right x)) = Left (Right x)
written_parameters x = x

-- a variable, from its name and what follows it
abbrev pub written_variable : {T : Type 0} → Tree T → Tree T → Tree T
written_variable n (Right (Left x)) = Right (Pair n x)
written_variable n (Right (Right x)) = Left (Pair n (Right x))
written_variable n x = Left (Pair n x)

-- what may follow the first constant, before what follows it
abbrev pub written_tail : {T : Type 0} → Tree T → Tree T → Tree T
written_tail (Left (Pair m f)) z = Pair m (Pair f z)
written_tail x z = Pair Nil (Pair x z)

-- the list of constants of an array
abbrev pub written_constants : {T : Type 0} → Tree T → Tree T
written_constants (Left (Pair e (Pair b (Pair a (Pair m z))))) = Left (Pair e (Pair b (Pair a (written_tail m z))))
written_constants x = x

-- variables, from the name of the first one and what follows it
abbrev pub written_variables : {T : Type 0} → Tree T → Tree T → Tree T
written_variables n (Pair i x) = Pair (Node (written_variable n i)) x
written_variables n x = x

-- what may follow a block of an if
abbrev pub written_else : {T : Type 0} → Tree T → Tree T
written_else (Left x) = x
written_else x = Pair Nil x

-- one more constant, and one more branch, in front
abbrev pub with_front : {T : Type 0} → Tree T → Tree T → Tree T
with_front x (Pair m f) = Pair (Pair x m) f
with_front x y = y

-- a simple statement, from its name and what follows it
abbrev pub written_change : {T : Type 0} → Tree T → Tree T → Tree T
written_change n (Left x) = Left (Pair n x)
written_change n (Right (Left x)) = Right (Left (Pair n x))
written_change n (Right (Right (Left x))) = Right (Right (Left (Pair n x)))
written_change n (Right (Right (Right (Left x)))) = Right (Right (Right (Left (Pair n x))))
written_change n (Right (Right (Right (Right (Left x))))) = Right (Right (Right (Right (Left (Pair n x)))))
written_change n (Right (Right (Right (Right (Right x))))) = Right (Right (Right (Right (Right (Right (Right (Left (Pair n x))))))))
written_change n x = x

-- a unary that is a name, perhaps with an index
abbrev pub written_name : {T : Type 0} → Tree T → Tree T → Tree T
written_name n i = Node (Right (Right (Right (Right (Right (Left (Pair n i)))))))

-- the operands of a level, from the first one and what joins it with the others
abbrev pub written_level : {T : Type 0} → ℕ → Tree T → Tree T → Tree T
written_level zero u x = Node u
written_level (suc level) u (Pair x m) = Node (Pair (written_level level u x) m)
written_level (suc level) u x = Node (Pair (written_level level u x) Nil)

-- an expression, from its first operand and what follows it
abbrev pub written_expression : {T : Type 0} → Tree T → Tree T → Tree T
written_expression u (Pair x q) = Node (Pair (written_level 10 u x) q)
written_expression u x = Nil

-- a cast or an expression in parentheses, from the first of them and what follows it
abbrev pub written_parenthesis : {T : Type 0} → Tree T → Tree T → Tree T
written_parenthesis o (Left x) = Node (Right (Left (Pair o x)))
written_parenthesis o (Right x) = Node (Right (Right (Right (Right (Right (Right (Pair o x)))))))
written_parenthesis o x = Node (Right (Right (Right (Right (Right (Right (Pair o x)))))))

-- The tree of each rule of the factored grammar as one of the written grammar.
abbrev pub as_written : {T : Type 0} → Part → Tree T → Tree T
as_written TheExternal (Right (Right (Pair q (Left (Pair v (Pair n f)))))) = Node (Right (Right (Right (Pair q (Pair (Right v) (Pair n f))))))
as_written TheExternal (Right (Right (Pair q (Right (Pair t (Pair n (Left f))))))) = Node (Right (Right (Right (Pair q (Pair (Left t) (Pair n f))))))
as_written TheExternal (Right (Right (Pair q (Right (Pair t (Pair n (Right v))))))) = Node (Right (Right (Left (Pair q (Pair t (written_variables n v))))))
as_written TheExternal x = Node x
as_written TheFunction (Pair o (Pair ps x)) = Pair o (Pair (written_parameters ps) x)
as_written TheVariable (Pair n i) = Node (written_variable n i)
as_written TheBounds (Pair o (Pair k (Pair c d))) = Pair o (Pair k (Pair c (written_constants d)))
as_written TheTail (Pair c (Left (Pair k m))) = with_front (Pair c k) (written_else m)
as_written TheTail (Pair c (Right x)) = Pair Nil (Left c)
as_written TheBlock x = Node x
as_written TheStatement x = Node x
as_written TheIf (Pair b m) = Pair b (written_else m)
as_written TheElse (Pair l (Left (Pair b m))) = with_front (Pair l b) (written_else m)
as_written TheElse (Pair l (Right b)) = Pair Nil (Left (Pair l b))
as_written TheLocal x = Node x
as_written TheSimple (Left (Pair n c)) = Node (written_change n c)
as_written TheSimple (Right (Left x)) = Node (Right (Right (Right (Right (Right (Left x))))))
as_written TheSimple (Right (Right (Left x))) = Node (Right (Right (Right (Right (Right (Right (Left x)))))))
as_written TheSimple (Right (Right (Right x))) = Node (Right (Right (Right (Right (Right (Right (Right (Right x))))))))
as_written TheRight (Left (Pair n (Left x))) = Node (Right (Pair n x))
as_written TheRight (Left (Pair n (Right (Pair i x)))) = Node (Left (written_expression (written_name n i) x))
as_written TheRight (Right (Pair u x)) = Node (Left (written_expression u x))
as_written TheExpression (Pair u x) = written_expression u x
as_written (TheLevel level) (Pair u j) = written_level level u j
as_written (TheLevel level) u = Node u
as_written TheUnary (Left (Pair n i)) = written_name n i
as_written TheUnary (Right u) = u
as_written TheNameless (Left x) = Node (Left x)
as_written TheNameless (Right (Left (Pair o x))) = written_parenthesis o x
as_written TheNameless (Right (Right (Left x))) = Node (Right (Right (Left x)))
as_written TheNameless (Right (Right (Right (Left x)))) = Node (Right (Right (Right (Left x))))
as_written TheNameless (Right (Right (Right (Right x)))) = Node (Right (Right (Right (Right (Left x)))))
as_written part x = x

-- The tree of an expression of the factored grammar as one of the written grammar.
abbrev pub written_tree : {T : Type 0} → Expression Part → Tree T → Tree T
written_tree e x = regrouped factored_rule as_written e x

-- ---- from the written grammar to the factored one

-- The rule of the factored grammar for each rule of the written one.
abbrev pub factored_image : Production → Expression Part
factored_image External = Rule TheExternal
factored_image Variable = Rule TheVariable
factored_image Block = Rule TheBlock
factored_image Statement = Rule TheStatement
factored_image Local = Rule TheLocal
factored_image Simple = Rule TheSimple
factored_image RightSide = Rule TheRight
factored_image Expr = Rule TheExpression
factored_image (Level level) = Rule (TheLevel level)
factored_image Unary = Rule TheUnary

-- what follows the name of a function
abbrev pub factored_function : {T : Type 0} → Tree T → Tree T
factored_function (Pair o (Pair (Left (Left v)) x)) = Pair o (Pair (Left v) x)
factored_function (Pair o (Pair (Left (Right v)) x)) = Pair o (Pair (Right (Right v)) x)
factored_function (Pair o (Pair (Right ps) x)) = Pair o (Pair (Right (Left ps)) x)
factored_function x = x

-- further constants, and perhaps a comma after them
abbrev pub factored_tail : {T : Type 0} → Tree T → Tree T → Tree T
factored_tail (Pair (Pair c k) m) f = Left (Node (Pair c (Left (Pair k (factored_tail m f)))))
factored_tail m (Left c) = Left (Node (Pair c (Right Nil)))
factored_tail m f = f

-- further branches, and perhaps a last block
abbrev pub factored_else : {T : Type 0} → Tree T → Tree T → Tree T
factored_else (Pair (Pair l b) m) f = Left (Node (Pair l (Left (Pair (Node b) (factored_else m f)))))
factored_else m (Left (Pair l b)) = Left (Node (Pair l (Right b)))
factored_else m f = f

-- The tree of each rule of the written grammar as one of the factored grammar.
abbrev pub as_factored : {T : Type 0} → Production → Tree T → Tree T
as_factored External (Right (Right (Left (Pair q (Pair t (Pair (Node (Pair n i)) (Pair vs s))))))) = Node (Right (Right (Pair q (Right (Pair t (Pair n (Right (Node (Pair i (Pair vs s))))))))))
as_factored External (Right (Right (Right (Pair q (Pair (Left t) (Pair n f)))))) = Node (Right (Right (Pair q (Right (Pair t (Pair n (Left (Node (factored_function f)))))))))
as_factored External (Right (Right (Right (Pair q (Pair (Right v) (Pair n f)))))) = Node (Right (Right (Pair q (Left (Pair v (Pair n (Node (factored_function f))))))))
as_factored External x = Node x
as_factored Variable (Left (Pair n (Left i))) = Node (Pair n (Left i))
as_factored Variable (Left (Pair n (Right x))) = Node (Pair n (Right (Right x)))
as_factored Variable (Right (Pair n (Pair o (Pair k (Pair c (Left (Pair e (Pair b (Pair a (Pair m (Pair f z))))))))))) = Node (Pair n (Right (Left (Node (Pair o (Pair k (Pair c (Left (Pair e (Pair b (Pair a (Pair (factored_tail m f) z))))))))))))
as_factored Variable (Right (Pair n x)) = Node (Pair n (Right (Left (Node x))))
as_factored Statement (Right (Right (Right (Right (Left (Pair b (Pair m f))))))) = Node (Right (Right (Right (Right (Left (Node (Pair (Node b) (factored_else m f))))))))
as_factored Statement (Right (Right (Right (Right (Right (Left x)))))) = Node (Right (Right (Right (Right (Right (Left (Node x)))))))
as_factored Statement (Right (Right (Right (Right (Right (Right (Left x))))))) = Node (Right (Right (Right (Right (Right (Right (Left (Node x))))))))
as_factored Statement (Right (Right (Right (Right (Right (Right (Right x))))))) = Node (Right (Right (Right (Right (Right (Right (Right (Node x))))))))
as_factored Simple (Left (Pair n x)) = Node (Left (Pair n (Node (Left x))))
as_factored Simple (Right (Left (Pair n x))) = Node (Left (Pair n (Node (Right (Left x)))))
as_factored Simple (Right (Right (Left (Pair n x)))) = Node (Left (Pair n (Node (Right (Right (Left x))))))
as_factored Simple (Right (Right (Right (Left (Pair n x))))) = Node (Left (Pair n (Node (Right (Right (Right (Left x)))))))
as_factored Simple (Right (Right (Right (Right (Left (Pair n x)))))) = Node (Left (Pair n (Node (Right (Right (Right (Right (Left x))))))))
as_factored Simple (Right (Right (Right (Right (Right (Left x)))))) = Node (Right (Left x))
as_factored Simple (Right (Right (Right (Right (Right (Right (Left x))))))) = Node (Right (Right (Left x)))
as_factored Simple (Right (Right (Right (Right (Right (Right (Right (Left (Pair n x))))))))) = Node (Left (Pair n (Node (Right (Right (Right (Right (Right x))))))))
as_factored Simple (Right (Right (Right (Right (Right (Right (Right (Right x)))))))) = Node (Right (Right (Right x)))
as_factored RightSide (Left (Node (Pair (Node (Left (Pair n i))) a))) = Node (Left (Pair n (Right (Pair i a))))
as_factored RightSide (Left (Node (Pair (Node (Right u)) a))) = Node (Right (Pair u a))
as_factored RightSide (Right (Pair n x)) = Node (Left (Pair n (Left x)))
as_factored Expr (Pair (Node (Pair u j)) q) = Node (Pair u (Pair j q))
as_factored (Level zero) u = Node (Pair u Nil)
as_factored (Level (suc level)) (Pair (Node (Pair u j)) m) = Node (Pair u (Pair j m))
as_factored Unary (Left x) = Node (Right (Node (Left x)))
as_factored Unary (Right (Left (Pair o x))) = Node (Right (Node (Right (Left (Pair o (Node (Left x)))))))
as_factored Unary (Right (Right (Left x))) = Node (Right (Node (Right (Right (Left x)))))
as_factored Unary (Right (Right (Right (Left x)))) = Node (Right (Node (Right (Right (Right (Left x))))))
as_factored Unary (Right (Right (Right (Right (Left x))))) = Node (Right (Node (Right (Right (Right (Right x))))))
as_factored Unary (Right (Right (Right (Right (Right (Left (Pair n i))))))) = Node (Left (Pair n i))
as_factored Unary (Right (Right (Right (Right (Right (Right (Pair o x))))))) = Node (Right (Node (Right (Left (Pair o (Node (Right x)))))))
as_factored production x = Node x

-- The tree of an expression of the written grammar as one of the factored grammar.
abbrev pub factored_tree : {T : Type 0} → Expression Production → Tree T → Tree T
factored_tree e x = regrouped written_rule as_factored e x
