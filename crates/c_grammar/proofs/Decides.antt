-- The next token decides in each rule of the factored grammar.
use Rattle.std.proofs.Common.{◌≡◌, ℕ, zero, suc, false, refl, true, arith}
use Rattle.std.specs.Prelude.{nat_le}
use Rattle.grammar.specs.Lookahead.{RuleDecides, NextDecides, NextDecidesIn, next_decides}
use Rattle.grammar.specs.Grammar.{IsUnambiguous}
use Rattle.grammar.proofs.Laws
use Rattle.c_grammar.specs.Symbols.{class_of}
use Rattle.c_grammar.specs.Factored.{all_joined, factored, factored_unit, TheLevel, TheExternal, TheFunction, TheVariables, TheVariable, TheBounds, TheTail, TheBlock, TheStatement, TheIf, TheBranch, TheElse, TheWhile, TheFor, TheReturn, TheLocal, TheSimple, TheChange, TheRight, TheExpression, TheUnary, TheNameless, TheParenthesis}
use Rattle.c_grammar.specs.Next.{lookahead}

above : (k : ℕ) → nat_le (suc (suc (suc (suc (suc (suc (suc (suc (suc (suc (suc k))))))))))) 10 ≡ false
above k = grind arith

level : (k : ℕ) → RuleDecides lookahead (TheLevel k)
unfolding lookahead all_joined
level zero = record { decides = refl; full = refl; begins_so = refl; goes_on_so = refl; falls = refl; sampled = refl }
level (suc zero) = record { decides = refl; full = refl; begins_so = refl; goes_on_so = refl; falls = refl; sampled = refl }
level (suc (suc zero)) = record { decides = refl; full = refl; begins_so = refl; goes_on_so = refl; falls = refl; sampled = refl }
level (suc (suc (suc zero))) = record { decides = refl; full = refl; begins_so = refl; goes_on_so = refl; falls = refl; sampled = refl }
level (suc (suc (suc (suc zero)))) = record { decides = refl; full = refl; begins_so = refl; goes_on_so = refl; falls = refl; sampled = refl }
level (suc (suc (suc (suc (suc zero))))) = record { decides = refl; full = refl; begins_so = refl; goes_on_so = refl; falls = refl; sampled = refl }
level (suc (suc (suc (suc (suc (suc zero)))))) = record { decides = refl; full = refl; begins_so = refl; goes_on_so = refl; falls = refl; sampled = refl }
level (suc (suc (suc (suc (suc (suc (suc zero))))))) = record { decides = refl; full = refl; begins_so = refl; goes_on_so = refl; falls = refl; sampled = refl }
level (suc (suc (suc (suc (suc (suc (suc (suc zero)))))))) = record { decides = refl; full = refl; begins_so = refl; goes_on_so = refl; falls = refl; sampled = refl }
level (suc (suc (suc (suc (suc (suc (suc (suc (suc zero))))))))) = record { decides = refl; full = refl; begins_so = refl; goes_on_so = refl; falls = refl; sampled = refl }
level (suc (suc (suc (suc (suc (suc (suc (suc (suc (suc zero)))))))))) = record { decides = refl; full = refl; begins_so = refl; goes_on_so = refl; falls = refl; sampled = refl }
level (suc (suc (suc (suc (suc (suc (suc (suc (suc (suc (suc k))))))))))) = let e = above k in record { decides = rw e refl; full = rw e refl; begins_so = rw e refl; goes_on_so = rw e refl; falls = rw e refl; sampled = rw e refl }

external_decides : RuleDecides lookahead TheExternal
unfolding lookahead all_joined
external_decides = record { decides = refl; full = refl; begins_so = refl; goes_on_so = refl; falls = refl; sampled = refl }

function_decides : RuleDecides lookahead TheFunction
unfolding lookahead all_joined
function_decides = record { decides = refl; full = refl; begins_so = refl; goes_on_so = refl; falls = refl; sampled = refl }

variables_decides : RuleDecides lookahead TheVariables
unfolding lookahead all_joined
variables_decides = record { decides = refl; full = refl; begins_so = refl; goes_on_so = refl; falls = refl; sampled = refl }

variable_decides : RuleDecides lookahead TheVariable
unfolding lookahead all_joined
variable_decides = record { decides = refl; full = refl; begins_so = refl; goes_on_so = refl; falls = refl; sampled = refl }

bounds_decides : RuleDecides lookahead TheBounds
unfolding lookahead all_joined
bounds_decides = record { decides = refl; full = refl; begins_so = refl; goes_on_so = refl; falls = refl; sampled = refl }

tail_decides : RuleDecides lookahead TheTail
unfolding lookahead all_joined
tail_decides = record { decides = refl; full = refl; begins_so = refl; goes_on_so = refl; falls = refl; sampled = refl }

block_decides : RuleDecides lookahead TheBlock
unfolding lookahead all_joined
block_decides = record { decides = refl; full = refl; begins_so = refl; goes_on_so = refl; falls = refl; sampled = refl }

statement_decides : RuleDecides lookahead TheStatement
unfolding lookahead all_joined
statement_decides = record { decides = refl; full = refl; begins_so = refl; goes_on_so = refl; falls = refl; sampled = refl }

if_decides : RuleDecides lookahead TheIf
unfolding lookahead all_joined
if_decides = record { decides = refl; full = refl; begins_so = refl; goes_on_so = refl; falls = refl; sampled = refl }

branch_decides : RuleDecides lookahead TheBranch
unfolding lookahead all_joined
branch_decides = record { decides = refl; full = refl; begins_so = refl; goes_on_so = refl; falls = refl; sampled = refl }

else_decides : RuleDecides lookahead TheElse
unfolding lookahead all_joined
else_decides = record { decides = refl; full = refl; begins_so = refl; goes_on_so = refl; falls = refl; sampled = refl }

while_decides : RuleDecides lookahead TheWhile
unfolding lookahead all_joined
while_decides = record { decides = refl; full = refl; begins_so = refl; goes_on_so = refl; falls = refl; sampled = refl }

for_decides : RuleDecides lookahead TheFor
unfolding lookahead all_joined
for_decides = record { decides = refl; full = refl; begins_so = refl; goes_on_so = refl; falls = refl; sampled = refl }

return_decides : RuleDecides lookahead TheReturn
unfolding lookahead all_joined
return_decides = record { decides = refl; full = refl; begins_so = refl; goes_on_so = refl; falls = refl; sampled = refl }

local_decides : RuleDecides lookahead TheLocal
unfolding lookahead all_joined
local_decides = record { decides = refl; full = refl; begins_so = refl; goes_on_so = refl; falls = refl; sampled = refl }

simple_decides : RuleDecides lookahead TheSimple
unfolding lookahead all_joined
simple_decides = record { decides = refl; full = refl; begins_so = refl; goes_on_so = refl; falls = refl; sampled = refl }

change_decides : RuleDecides lookahead TheChange
unfolding lookahead all_joined
change_decides = record { decides = refl; full = refl; begins_so = refl; goes_on_so = refl; falls = refl; sampled = refl }

right_decides : RuleDecides lookahead TheRight
unfolding lookahead all_joined
right_decides = record { decides = refl; full = refl; begins_so = refl; goes_on_so = refl; falls = refl; sampled = refl }

expression_decides : RuleDecides lookahead TheExpression
unfolding lookahead all_joined
expression_decides = record { decides = refl; full = refl; begins_so = refl; goes_on_so = refl; falls = refl; sampled = refl }

unary_decides : RuleDecides lookahead TheUnary
unfolding lookahead all_joined
unary_decides = record { decides = refl; full = refl; begins_so = refl; goes_on_so = refl; falls = refl; sampled = refl }

nameless_decides : RuleDecides lookahead TheNameless
unfolding lookahead all_joined
nameless_decides = record { decides = refl; full = refl; begins_so = refl; goes_on_so = refl; falls = refl; sampled = refl }

parenthesis_decides : RuleDecides lookahead TheParenthesis
unfolding lookahead all_joined
parenthesis_decides = record { decides = refl; full = refl; begins_so = refl; goes_on_so = refl; falls = refl; sampled = refl }

pub decides : NextDecides lookahead
decides TheExternal = external_decides
decides TheFunction = function_decides
decides TheVariables = variables_decides
decides TheVariable = variable_decides
decides TheBounds = bounds_decides
decides TheTail = tail_decides
decides TheBlock = block_decides
decides TheStatement = statement_decides
decides TheIf = if_decides
decides TheBranch = branch_decides
decides TheElse = else_decides
decides TheWhile = while_decides
decides TheFor = for_decides
decides TheReturn = return_decides
decides TheLocal = local_decides
decides TheSimple = simple_decides
decides TheChange = change_decides
decides TheRight = right_decides
decides TheExpression = expression_decides
decides TheUnary = unary_decides
decides TheNameless = nameless_decides
decides TheParenthesis = parenthesis_decides
decides (TheLevel k) = level k

unit_low : next_decides lookahead factored_unit ≡ true
unfolding lookahead all_joined
unit_low = refl

pub unit_decides : NextDecidesIn lookahead factored_unit
unit_decides = record { rules = decides; here = unit_low }

pub one_tree : IsUnambiguous (factored class_of) factored_unit
unfolding lookahead
one_tree = Laws.one_tree lookahead decides factored_unit unit_low
