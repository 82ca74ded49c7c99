-- The grammar of the C profile, production by production, as it is written:
--
--   unit      = { external }
--   external  = ( "DeclareTask" | "DeclareResource" ) "(" name ")" ";"
--             | ( "TASK" | "ISR" ) "(" name ")" block
--             | { qual } type variable { "," variable } ";"
--             | { qual } ( type | "void" ) name "(" params ")" ( block | ";" )
--   qual      = "static" | "const" | "volatile"
--   type      = "int8_t" | "int16_t" | "int32_t" | "uint8_t" | "uint16_t" | "uint32_t"
--             | "bool" | "_Bool" | "int" | "unsigned" [ "int" ]
--   variable  = name [ "=" const ]
--             | name "[" number "]" [ "=" "{" const { "," const } [ "," ] "}" ]
--   const     = [ "-" ] number | "true" | "false"
--   params    = [ "void" ] | param { "," param }
--   param     = { "const" | "volatile" } type name
--   block     = "{" { statement } "}"
--   statement = ";" | block | local ";" | simple ";"
--             | "if" "(" expr ")" block { "else" "if" "(" expr ")" block } [ "else" block ]
--             | "while" "(" expr ")" block
--             | "for" "(" [ local | simple ] ";" [ expr ] ";" [ simple ] ")" block
--             | "return" [ expr ] ";"
--   local     = { "const" | "volatile" } type name [ "=" right ] { "," name [ "=" right ] }
--   simple    = name "=" right | name "[" expr "]" "=" expr | name assign expr
--             | name "++" | name "--" | "++" name | "--" name
--             | name "(" args ")" | "assert" "(" expr ")"
--   right     = expr | name "(" args ")"
--   args      = [ expr { "," expr } ]
--   assign    = "+=" | "-=" | "*=" | "/=" | "%=" | "&=" | "|=" | "^=" | "<<=" | ">>="
--   expr      = lor [ "?" expr ":" expr ]
--   lor       = left-associative levels, loosest first: ||  &&  |  ^  &  (== !=)
--               (< <= > >=)  (<< >>)  (+ -)  (* / %)  over unary
--   unary     = ( "-" | "+" | "!" | "~" ) unary | "(" type ")" unary | primary
--   primary   = number | "true" | "false" | name [ "[" expr "]" ] | "(" expr ")"
--
-- A production that leads back to itself is a rule; the others are abbreviations. What stands in both this grammar and the factored one takes
-- the names of the rules as arguments.
use Rattle.std.specs.Prelude.{ℕ, zero, suc, cond, nat_le, List, [], ◌∷◌, map}
use Rattle.grammar.specs.Grammar.{Expression, Grammar, One, Many, Rule, the, optional, ◌▸◌, ◌∣◌}
use Rattle.c_grammar.specs.declared.symbol.Symbol.{Symbol}
use Rattle.c_grammar.specs.declared.symbol.Symbol.TheVariants.{True, False, Static, Const, Volatile, Int8, Int16, Int32, Uint8, Uint16, Uint32, Bool, UnderscoreBool, Int, Unsigned, Void, Task, Isr, DeclareTask, DeclareResource, If, Else, While, For, Return, Assert, LeftParenthesis, RightParenthesis, LeftBracket, RightBracket, LeftBrace, RightBrace, Semicolon, Comma, Question, Colon, Assign, PlusAssign, MinusAssign, StarAssign, SlashAssign, PercentAssign, AmpersandAssign, BarAssign, CaretAssign, LeftShiftAssign, RightShiftAssign, PlusPlus, MinusMinus, BarBar, AmpersandAmpersand, Bar, Caret, Ampersand, Equal, NotEqual, Less, LessEqual, Greater, GreaterEqual, LeftShift, RightShift, Plus, Minus, Star, Slash, Percent, Exclamation, Tilde}
use Rattle.c_grammar.specs.Symbols.{name_class, number_class, class_of_symbol}

-- ---- tokens

abbrev pub name : {N : Type 0} → Expression N
name = the name_class

abbrev pub number : {N : Type 0} → Expression N
number = the number_class

-- this word or mark
abbrev pub spelled : {N : Type 0} → Symbol → Expression N
spelled x = the (class_of_symbol x)

-- one of these words or marks
abbrev pub one_of : {N : Type 0} → List Symbol → Expression N
one_of xs = One (map class_of_symbol xs)

-- ---- productions without rules

-- qual
abbrev pub qualifier_words : List Symbol
qualifier_words = Static ∷ Const ∷ Volatile ∷ []

abbrev pub qualifiers : {N : Type 0} → Expression N
qualifiers = Many (one_of qualifier_words)

-- { "const" | "volatile" }
abbrev pub local_words : List Symbol
local_words = Const ∷ Volatile ∷ []

abbrev pub local_qualifiers : {N : Type 0} → Expression N
local_qualifiers = Many (one_of local_words)

-- the types of one word
abbrev pub type_words : List Symbol
type_words = Int8 ∷ Int16 ∷ Int32 ∷ Uint8 ∷ Uint16 ∷ Uint32 ∷ Bool ∷ UnderscoreBool ∷ Int ∷ []

abbrev pub type : {N : Type 0} → Expression N
type = one_of type_words ∣ (spelled Unsigned ▸ optional (spelled Int))

-- const
abbrev pub constant : {N : Type 0} → Expression N
constant = (optional (spelled Minus) ▸ number) ∣ (spelled True ∣ spelled False)

-- what follows the first constant of an array: { "," const } [ "," ] "}"
abbrev pub more_constants : {N : Type 0} → Expression N
more_constants = Many (spelled Comma ▸ constant) ▸ optional (spelled Comma)

abbrev pub constants : {N : Type 0} → Expression N
constants = spelled Assign ▸ spelled LeftBrace ▸ constant ▸ Many (spelled Comma ▸ constant) ▸ optional (spelled Comma) ▸ spelled RightBrace

-- what follows the name of an array
abbrev pub bounds : {N : Type 0} → Expression N
bounds = spelled LeftBracket ▸ number ▸ spelled RightBracket ▸ optional constants

-- param
abbrev pub parameter : {N : Type 0} → Expression N
parameter = local_qualifiers ▸ type ▸ name

-- params
abbrev pub parameters : {N : Type 0} → Expression N
parameters = optional (spelled Void) ∣ (parameter ▸ Many (spelled Comma ▸ parameter))

-- assign
abbrev pub assignments : List Symbol
assignments = PlusAssign ∷ MinusAssign ∷ StarAssign ∷ SlashAssign ∷ PercentAssign ∷ AmpersandAssign ∷ BarAssign ∷ CaretAssign ∷ LeftShiftAssign ∷ RightShiftAssign ∷ []

-- the signs before a unary
abbrev pub signs : List Symbol
signs = Minus ∷ Plus ∷ Exclamation ∷ Tilde ∷ []

-- the operators that join the operands of a level, from the tightest level 0 to the loosest level 9
abbrev pub operators : ℕ → List Symbol
operators zero = Star ∷ Slash ∷ Percent ∷ []
operators (suc zero) = Plus ∷ Minus ∷ []
operators (suc (suc zero)) = LeftShift ∷ RightShift ∷ []
operators (suc (suc (suc zero))) = Less ∷ LessEqual ∷ Greater ∷ GreaterEqual ∷ []
operators (suc (suc (suc (suc zero)))) = Equal ∷ NotEqual ∷ []
operators (suc (suc (suc (suc (suc zero))))) = Ampersand ∷ []
operators (suc (suc (suc (suc (suc (suc zero)))))) = Caret ∷ []
operators (suc (suc (suc (suc (suc (suc (suc zero))))))) = Bar ∷ []
operators (suc (suc (suc (suc (suc (suc (suc (suc zero)))))))) = AmpersandAmpersand ∷ []
operators (suc (suc (suc (suc (suc (suc (suc (suc (suc level))))))))) = BarBar ∷ []

-- ---- parts that name rules

-- ( "DeclareTask" | "DeclareResource" ) "(" name ")" ";"
abbrev pub declaring : {N : Type 0} → Expression N
declaring = one_of (DeclareTask ∷ DeclareResource ∷ []) ▸ spelled LeftParenthesis ▸ name ▸ spelled RightParenthesis ▸ spelled Semicolon

-- ( "TASK" | "ISR" ) "(" name ")" block
abbrev pub entity : {N : Type 0} → N → Expression N
entity block = one_of (Task ∷ Isr ∷ []) ▸ spelled LeftParenthesis ▸ name ▸ spelled RightParenthesis ▸ Rule block

-- what follows the name of a function
abbrev pub function : {N : Type 0} → N → Expression N
function block = spelled LeftParenthesis ▸ parameters ▸ spelled RightParenthesis ▸ (Rule block ∣ spelled Semicolon)

abbrev pub braces : {N : Type 0} → N → Expression N
braces statement = spelled LeftBrace ▸ Many (Rule statement) ▸ spelled RightBrace

-- [ "=" right ] after the name of a local
abbrev pub declarator : {N : Type 0} → N → Expression N
declarator right = name ▸ optional (spelled Assign ▸ Rule right)

abbrev pub locals : {N : Type 0} → Expression N → Expression N
locals one = local_qualifiers ▸ type ▸ one ▸ Many (spelled Comma ▸ one)

-- "if" "(" expr ")" block
abbrev pub branch : {N : Type 0} → N → N → Expression N
branch expr block = spelled If ▸ spelled LeftParenthesis ▸ Rule expr ▸ spelled RightParenthesis ▸ Rule block

-- { "else" "if" "(" expr ")" block }
abbrev pub elses : {N : Type 0} → N → N → Expression N
elses expr block = Many (spelled Else ▸ branch expr block)

-- [ "else" block ]
abbrev pub last_else : {N : Type 0} → N → Expression N
last_else block = optional (spelled Else ▸ Rule block)

abbrev pub if_statement : {N : Type 0} → N → N → Expression N
if_statement expr block = branch expr block ▸ elses expr block ▸ last_else block

abbrev pub while_statement : {N : Type 0} → N → N → Expression N
while_statement expr block = spelled While ▸ spelled LeftParenthesis ▸ Rule expr ▸ spelled RightParenthesis ▸ Rule block

abbrev pub for_statement : {N : Type 0} → N → N → N → N → Expression N
for_statement local simple expr block = spelled For ▸ spelled LeftParenthesis ▸ optional (Rule local ∣ Rule simple) ▸ spelled Semicolon ▸ optional (Rule expr) ▸ spelled Semicolon ▸ optional (Rule simple) ▸ spelled RightParenthesis ▸ Rule block

abbrev pub return_statement : {N : Type 0} → N → Expression N
return_statement expr = spelled Return ▸ optional (Rule expr) ▸ spelled Semicolon

-- args
abbrev pub arguments : {N : Type 0} → N → Expression N
arguments expr = optional (Rule expr ▸ Many (spelled Comma ▸ Rule expr))

-- what follows the name of a called function
abbrev pub called : {N : Type 0} → N → Expression N
called expr = spelled LeftParenthesis ▸ arguments expr ▸ spelled RightParenthesis

abbrev pub assertion : {N : Type 0} → N → Expression N
assertion expr = spelled Assert ▸ spelled LeftParenthesis ▸ Rule expr ▸ spelled RightParenthesis

-- name "[" expr "]" after the name
abbrev pub index : {N : Type 0} → N → Expression N
index expr = spelled LeftBracket ▸ Rule expr ▸ spelled RightBracket

-- [ "?" expr ":" expr ]
abbrev pub choice : {N : Type 0} → N → Expression N
choice expr = optional (spelled Question ▸ Rule expr ▸ spelled Colon ▸ Rule expr)

-- ---- the rules

pub data Production : Type 0 where
  External : Production
  Variable : Production
  Block : Production
  Statement : Production
  Local : Production
  Simple : Production
  RightSide : Production
  Expr : Production
  -- operands that the operators of the levels below this number join; 10 is lor
  Level : ℕ → Production
  Unary : Production

abbrev pub primary : Expression Production
primary = number ∣ (spelled True ∣ (spelled False ∣ ((name ▸ optional (index Expr)) ∣ (spelled LeftParenthesis ▸ Rule Expr ▸ spelled RightParenthesis))))

abbrev pub written_rule : Production → Expression Production
written_rule External =
    declaring
    ∣ (entity Block
    ∣ ((qualifiers ▸ type ▸ Rule Variable ▸ Many (spelled Comma ▸ Rule Variable) ▸ spelled Semicolon)
    ∣ (qualifiers ▸ (type ∣ spelled Void) ▸ name ▸ function Block)))
written_rule Variable = (name ▸ optional (spelled Assign ▸ constant)) ∣ (name ▸ bounds)
written_rule Block = braces Statement
written_rule Statement =
    spelled Semicolon
    ∣ (Rule Block
    ∣ ((Rule Local ▸ spelled Semicolon)
    ∣ ((Rule Simple ▸ spelled Semicolon)
    ∣ (if_statement Expr Block
    ∣ (while_statement Expr Block
    ∣ (for_statement Local Simple Expr Block
    ∣ return_statement Expr))))))
written_rule Local = locals (declarator RightSide)
written_rule Simple =
    (name ▸ spelled Assign ▸ Rule RightSide)
    ∣ ((name ▸ spelled LeftBracket ▸ Rule Expr ▸ spelled RightBracket ▸ spelled Assign ▸ Rule Expr)
    ∣ ((name ▸ one_of assignments ▸ Rule Expr)
    ∣ ((name ▸ spelled PlusPlus)
    ∣ ((name ▸ spelled MinusMinus)
    ∣ ((spelled PlusPlus ▸ name)
    ∣ ((spelled MinusMinus ▸ name)
    ∣ ((name ▸ called Expr)
    ∣ assertion Expr)))))))
written_rule RightSide = Rule Expr ∣ (name ▸ called Expr)
written_rule Expr = Rule (Level 10) ▸ choice Expr
written_rule (Level zero) = Rule Unary
written_rule (Level (suc level)) = cond (nat_le level 9) (Rule (Level level) ▸ Many (one_of (operators level) ▸ Rule (Level level))) (Rule Unary)
written_rule Unary =
    (one_of signs ▸ Rule Unary)
    ∣ ((spelled LeftParenthesis ▸ type ▸ spelled RightParenthesis ▸ Rule Unary)
    ∣ primary)

-- The grammar of the C profile over tokens of these classes.
abbrev pub written : {T : Type 0} → (T → ℕ) → Grammar Production T
written class = record { class = class; rule = written_rule }

-- unit: its sentences are the texts of the profile
abbrev pub unit : Expression Production
unit = Many (Rule External)
