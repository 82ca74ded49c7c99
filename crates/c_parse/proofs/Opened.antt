-- What reading a rule gives, by what the rule is.
use Rattle.std.proofs.Common.{◌≡◌, List}
use Rattle.grammar.specs.Grammar.{Rule, Node}
use Rattle.grammar.specs.Reading.{map_got, reading}
use Rattle.c_lex.specs.declared.token.Token.{Token}
use Rattle.c_grammar.specs.Next.{lookahead}
use Rattle.c_grammar.specs.Factored.{factored_rule, TheExternal, TheFunction, TheVariables, TheVariable, TheBounds, TheTail, TheBlock, TheStatement, TheIf, TheBranch, TheElse, TheWhile, TheFor, TheReturn, TheLocal, TheSimple, TheChange}
use Rattle.c_expression.specs.Reads.{reads}
use Rattle.c_expression.proofs.Opened.{opened}

pub external_opened : (ts : List Token) → reading lookahead (Rule TheExternal) ts ≡ map_got Node (reads (factored_rule TheExternal) ts)
external_opened ts = opened TheExternal ts

pub function_opened : (ts : List Token) → reading lookahead (Rule TheFunction) ts ≡ map_got Node (reads (factored_rule TheFunction) ts)
function_opened ts = opened TheFunction ts

pub variables_opened : (ts : List Token) → reading lookahead (Rule TheVariables) ts ≡ map_got Node (reads (factored_rule TheVariables) ts)
variables_opened ts = opened TheVariables ts

pub variable_opened : (ts : List Token) → reading lookahead (Rule TheVariable) ts ≡ map_got Node (reads (factored_rule TheVariable) ts)
variable_opened ts = opened TheVariable ts

pub bounds_opened : (ts : List Token) → reading lookahead (Rule TheBounds) ts ≡ map_got Node (reads (factored_rule TheBounds) ts)
bounds_opened ts = opened TheBounds ts

pub tail_opened : (ts : List Token) → reading lookahead (Rule TheTail) ts ≡ map_got Node (reads (factored_rule TheTail) ts)
tail_opened ts = opened TheTail ts

pub block_opened : (ts : List Token) → reading lookahead (Rule TheBlock) ts ≡ map_got Node (reads (factored_rule TheBlock) ts)
block_opened ts = opened TheBlock ts

pub statement_opened : (ts : List Token) → reading lookahead (Rule TheStatement) ts ≡ map_got Node (reads (factored_rule TheStatement) ts)
statement_opened ts = opened TheStatement ts

pub if_opened : (ts : List Token) → reading lookahead (Rule TheIf) ts ≡ map_got Node (reads (factored_rule TheIf) ts)
if_opened ts = opened TheIf ts

pub else_opened : (ts : List Token) → reading lookahead (Rule TheElse) ts ≡ map_got Node (reads (factored_rule TheElse) ts)
else_opened ts = opened TheElse ts

pub while_opened : (ts : List Token) → reading lookahead (Rule TheWhile) ts ≡ map_got Node (reads (factored_rule TheWhile) ts)
while_opened ts = opened TheWhile ts

pub for_opened : (ts : List Token) → reading lookahead (Rule TheFor) ts ≡ map_got Node (reads (factored_rule TheFor) ts)
for_opened ts = opened TheFor ts

pub return_opened : (ts : List Token) → reading lookahead (Rule TheReturn) ts ≡ map_got Node (reads (factored_rule TheReturn) ts)
return_opened ts = opened TheReturn ts

pub local_opened : (ts : List Token) → reading lookahead (Rule TheLocal) ts ≡ map_got Node (reads (factored_rule TheLocal) ts)
local_opened ts = opened TheLocal ts

pub simple_opened : (ts : List Token) → reading lookahead (Rule TheSimple) ts ≡ map_got Node (reads (factored_rule TheSimple) ts)
simple_opened ts = opened TheSimple ts

pub change_opened : (ts : List Token) → reading lookahead (Rule TheChange) ts ≡ map_got Node (reads (factored_rule TheChange) ts)
change_opened ts = opened TheChange ts

pub branch_opened : (ts : List Token) → reading lookahead (Rule TheBranch) ts ≡ map_got Node (reads (factored_rule TheBranch) ts)
branch_opened ts = opened TheBranch ts
