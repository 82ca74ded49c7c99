-- Some items have been read, and what they mean was put after what there was.
use Rattle.std.proofs.Common.{◌≤◌, List, length}
use Rattle.grammar.specs.Grammar.{◌▸◌}
use Rattle.c_grammar.specs.declared.symbol.Symbol.TheVariants.{Comma}
use Rattle.c_grammar.specs.Written.{spelled, parameter}
use Rattle.c_parse.specs.Units.{further_parameter}
use Rattle.c_unit.specs.declared.unit.Parameter.{Parameter}
use Rattle.c_lex.specs.declared.token.Token.{Token}
use Rattle.c_expression.proofs.ListLoops
use Rattle.c_parse.proofs.Lows.{parameters_low}
use Rattle.c_parse.proofs.externals.further_parameters.Given as goal

pub record Holds (before : List Parameter) (tokens : List Token) (values : List Parameter) (rest : List Token) : Type 0 where
  pub read : ListLoops.SoFar (spelled Comma ▸ parameter) parameters_low (further_parameter) before tokens values rest
  pub not_longer : length rest ≤ length tokens

abbrev pub invariant-items : goal.invariant-items
invariant-items l = Holds l.fn.parameters l.tokens l.parameters l.rest

abbrev pub decreases-items : goal.decreases-items
decreases-items l = length l.rest
