-- Each call has fewer tokens, or as many and a part that stands lower. A loop over a level has read some operands.
use Rattle.std.proofs.Common.{ℕ, ◌+◌, ◌*◌, ◌≤◌, List, length}
use Rattle.c_lex.specs.declared.token.Token.{Token}
use Rattle.c_unit.specs.declared.expression.Expression.{Expression}
use Rattle.c_expression.proofs.Chains.{SoFar}
use Rattle.c_expression.proofs.expressions.+expressions.Given as goal

abbrev pub decreases-expression : goal.decreases-expression
decreases-expression l = 40 * length l.tokens.now + 3

abbrev pub decreases-after : goal.decreases-after
decreases-after l = 40 * length l.tokens.now + 30

abbrev pub decreases-choice : goal.decreases-choice
decreases-choice l = 40 * length l.tokens.now + 4

abbrev pub decreases-all_joined : goal.decreases-all_joined
decreases-all_joined l = 40 * length l.tokens.now + 29

abbrev pub decreases-joined : goal.decreases-joined
decreases-joined l = 40 * length l.tokens.now + 5 + 2 * l.level

abbrev pub decreases-chain : goal.decreases-chain
decreases-chain l = 40 * length l.tokens.now + 4 + 2 * l.level

abbrev pub decreases-operand : goal.decreases-operand
decreases-operand l = 40 * length l.tokens.now + 3

abbrev pub decreases-unary : goal.decreases-unary
decreases-unary l = 40 * length l.tokens.now + 2

abbrev pub decreases-indexed : goal.decreases-indexed
decreases-indexed l = 40 * length l.tokens.now

abbrev pub decreases-nameless : goal.decreases-nameless
decreases-nameless l = 40 * length l.tokens.now + 1

abbrev pub decreases-parenthesis : goal.decreases-parenthesis
decreases-parenthesis l = 40 * length l.tokens.now + 4

pub record Holds (level : ℕ) (first : Expression) (tokens : List Token) (so_far : Expression) (rest : List Token) : Type 0 where
  pub read : SoFar level first tokens so_far rest
  pub not_longer : length rest ≤ length tokens

abbrev pub invariant-chain-items : goal.invariant-chain-items
invariant-chain-items l = Holds l.level l.fn.first l.tokens l.so_far l.rest

abbrev pub decreases-chain-items : goal.decreases-chain-items
decreases-chain-items l = length l.rest
