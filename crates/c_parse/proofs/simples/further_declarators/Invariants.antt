-- Some items have been read, and what they mean was put after what there was.
use Rattle.std.proofs.Common.{◌≤◌, List, length}
use Rattle.grammar.specs.Grammar.{◌▸◌}
use Rattle.c_grammar.specs.declared.symbol.Symbol.TheVariants.{Comma}
use Rattle.c_grammar.specs.Written.{spelled, declarator}
use Rattle.c_grammar.specs.Factored.{TheRight}
use Rattle.c_parse.specs.Statements.{further_declarator}
use Rattle.c_unit.specs.declared.statement.Declarator.{Declarator}
use Rattle.c_lex.specs.declared.token.Token.{Token}
use Rattle.c_expression.proofs.ListLoops
use Rattle.c_parse.proofs.Lows.{declarators_low}
use Rattle.c_parse.proofs.simples.further_declarators.Given as goal

pub record Holds (before : List Declarator) (tokens : List Token) (values : List Declarator) (rest : List Token) : Type 0 where
  pub read : ListLoops.SoFar (spelled Comma ▸ declarator TheRight) declarators_low (further_declarator) before tokens values rest
  pub not_longer : length rest ≤ length tokens

abbrev pub invariant-items : goal.invariant-items
invariant-items l = Holds l.fn.declarators l.tokens l.declarators l.rest

abbrev pub decreases-items : goal.decreases-items
decreases-items l = length l.rest
