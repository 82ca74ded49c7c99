-- Some items have been read, and what they mean was put after what there was.
use Rattle.std.proofs.Common.{◌≤◌, List, length}
use Rattle.grammar.specs.Grammar.{Rule, ◌▸◌}
use Rattle.c_grammar.specs.declared.symbol.Symbol.TheVariants.{Comma}
use Rattle.c_grammar.specs.Written.{spelled}
use Rattle.c_grammar.specs.Factored.{TheExpression}
use Rattle.c_expression.specs.Expressions.{further_argument}
use Rattle.c_unit.specs.declared.expression.Argument.{Argument}
use Rattle.c_lex.specs.declared.token.Token.{Token}
use Rattle.c_expression.proofs.ListLoops
use Rattle.c_expression.proofs.Lows.{arguments_low}
use Rattle.c_expression.proofs.calls.further_arguments.Given as goal

pub record Holds (before : List Argument) (tokens : List Token) (values : List Argument) (rest : List Token) : Type 0 where
  pub read : ListLoops.SoFar (spelled Comma ▸ Rule TheExpression) arguments_low further_argument before tokens values rest
  pub not_longer : length rest ≤ length tokens

abbrev pub invariant-items : goal.invariant-items
invariant-items l = Holds l.fn.arguments l.tokens l.arguments l.rest

abbrev pub decreases-items : goal.decreases-items
decreases-items l = length l.rest
