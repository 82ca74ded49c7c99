-- The same grammar, factored so that the next token decides. Where two alternatives begin alike, what they share stands once, before the choice:
--
--   the name after the type of an external, and a variable's name
--   a name with which a simple statement begins
--   the operand with which an expression begins, since right = name "(" args ")" begins like one
--   "(" before a cast or an expression
--   "else" before "if" or a block
--   "," before a further constant or the brace
--
-- An expression is a unary, and after it what its operators join, level by level.
use Rattle.std.specs.Prelude.{ℕ, zero, suc, cond, nat_le}
use Rattle.grammar.specs.Grammar.{Expression, Grammar, Empty, Many, Rule, optional, ◌▸◌, ◌∣◌}
use Rattle.c_grammar.specs.declared.symbol.Symbol.TheVariants.{True, False, Void, Else, LeftParenthesis, RightParenthesis, LeftBracket, RightBracket, LeftBrace, RightBrace, Semicolon, Comma, Assign, PlusPlus, MinusMinus}
use Rattle.c_grammar.specs.Written.{name, number, spelled, one_of, qualifiers, type, constant, parameter, assignments, signs, operators, declaring, entity, braces, declarator, locals, branch, while_statement, for_statement, return_statement, called, assertion, index, choice}

pub data Part : Type 0 where
  TheExternal : Part
  TheFunction : Part
  TheVariables : Part
  TheVariable : Part
  TheBounds : Part
  TheTail : Part
  TheBlock : Part
  TheStatement : Part
  TheIf : Part
  TheBranch : Part
  TheElse : Part
  TheWhile : Part
  TheFor : Part
  TheReturn : Part
  TheLocal : Part
  TheSimple : Part
  TheChange : Part
  TheRight : Part
  TheExpression : Part
  TheLevel : ℕ → Part
  TheUnary : Part
  TheNameless : Part
  TheParenthesis : Part

-- ---- what is shared

abbrev pub factored_parameters : Expression Part
factored_parameters = spelled Void ∣ optional (parameter ▸ Many (spelled Comma ▸ parameter))

-- a function without a result, after its qualifiers
abbrev pub void_rest : Expression Part
void_rest = spelled Void ▸ name ▸ Rule TheFunction

-- variables or a function with a result, after their qualifiers
abbrev pub typed_rest : Expression Part
typed_rest = type ▸ name ▸ (Rule TheFunction ∣ Rule TheVariables)

abbrev pub defined_rest : Expression Part
defined_rest = qualifiers ▸ (void_rest ∣ typed_rest)

-- the constants of an array
abbrev pub factored_constants : Expression Part
factored_constants = spelled Assign ▸ spelled LeftBrace ▸ constant ▸ optional (Rule TheTail) ▸ spelled RightBrace

-- what follows the name of a variable
abbrev pub initial : Expression Part
initial = (spelled Assign ▸ constant) ∣ optional (Rule TheBounds)

-- what follows the name that a simple statement begins with
abbrev pub change : {N : Type 0} → N → N → Expression N
change right expr =
    (spelled Assign ▸ Rule right)
    ∣ ((spelled LeftBracket ▸ Rule expr ▸ spelled RightBracket ▸ spelled Assign ▸ Rule expr)
    ∣ ((one_of assignments ▸ Rule expr)
    ∣ (spelled PlusPlus
    ∣ (spelled MinusMinus
    ∣ called expr))))

-- what follows "(": a cast or an expression
abbrev pub parenthesis : {N : Type 0} → N → N → Expression N
parenthesis unary expr = (type ▸ spelled RightParenthesis ▸ Rule unary) ∣ (Rule expr ▸ spelled RightParenthesis)

-- what joins a first operand with others, by the operators of the levels below this number
abbrev pub joined : ℕ → Expression Part
joined zero = Empty
joined (suc level) = joined level ▸ Many (one_of (operators level) ▸ Rule (TheLevel level))

-- the same by the operators of all levels
unfoldable pub all_joined : Expression Part
all_joined = joined 10

-- what follows the first operand of an expression
abbrev pub after : Expression Part
after = all_joined ▸ choice TheExpression

-- ---- the rules

abbrev pub factored_rule : Part → Expression Part
factored_rule TheExternal =
    declaring
    ∣ (entity TheBlock
    ∣ defined_rest)
factored_rule TheFunction = spelled LeftParenthesis ▸ factored_parameters ▸ spelled RightParenthesis ▸ (Rule TheBlock ∣ spelled Semicolon)
factored_rule TheVariables = initial ▸ Many (spelled Comma ▸ Rule TheVariable) ▸ spelled Semicolon
factored_rule TheVariable = name ▸ initial
factored_rule TheBounds = spelled LeftBracket ▸ number ▸ spelled RightBracket ▸ optional factored_constants
factored_rule TheTail = spelled Comma ▸ optional (constant ▸ optional (Rule TheTail))
factored_rule TheBlock = braces TheStatement
factored_rule TheStatement =
    spelled Semicolon
    ∣ (Rule TheBlock
    ∣ ((Rule TheLocal ▸ spelled Semicolon)
    ∣ ((Rule TheSimple ▸ spelled Semicolon)
    ∣ (Rule TheIf
    ∣ (Rule TheWhile
    ∣ (Rule TheFor
    ∣ Rule TheReturn))))))
factored_rule TheIf = Rule TheBranch ▸ optional (Rule TheElse)
factored_rule TheBranch = branch TheExpression TheBlock
factored_rule TheElse = spelled Else ▸ ((Rule TheBranch ▸ optional (Rule TheElse)) ∣ Rule TheBlock)
factored_rule TheWhile = while_statement TheExpression TheBlock
factored_rule TheFor = for_statement TheLocal TheSimple TheExpression TheBlock
factored_rule TheReturn = return_statement TheExpression
factored_rule TheLocal = locals (declarator TheRight)
factored_rule TheSimple =
    (name ▸ Rule TheChange)
    ∣ ((spelled PlusPlus ▸ name)
    ∣ ((spelled MinusMinus ▸ name)
    ∣ assertion TheExpression))
factored_rule TheChange = change TheRight TheExpression
factored_rule TheRight = (name ▸ (called TheExpression ∣ (optional (index TheExpression) ▸ after))) ∣ (Rule TheNameless ▸ after)
factored_rule TheExpression = Rule TheUnary ▸ after
factored_rule (TheLevel level) = cond (nat_le level 10) (Rule TheUnary ▸ joined level) (Rule TheUnary)
factored_rule TheUnary = (name ▸ optional (index TheExpression)) ∣ Rule TheNameless
factored_rule TheNameless =
    (one_of signs ▸ Rule TheUnary)
    ∣ ((spelled LeftParenthesis ▸ Rule TheParenthesis)
    ∣ (number
    ∣ (spelled True
    ∣ spelled False)))
factored_rule TheParenthesis = parenthesis TheUnary TheExpression

-- The factored grammar over tokens of these classes.
abbrev pub factored : {T : Type 0} → (T → ℕ) → Grammar Part T
factored class = record { class = class; rule = factored_rule }

abbrev pub factored_unit : Expression Part
factored_unit = Many (Rule TheExternal)
