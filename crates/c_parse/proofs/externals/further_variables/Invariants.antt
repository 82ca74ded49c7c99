-- Some items have been read, and what they mean was put after what there was.
use Rattle.std.proofs.Common.{◌≤◌, List, length}
use Rattle.grammar.specs.Grammar.{Rule, ◌▸◌}
use Rattle.c_grammar.specs.declared.symbol.Symbol.TheVariants.{Comma}
use Rattle.c_grammar.specs.Written.{spelled}
use Rattle.c_grammar.specs.Factored.{TheVariable}
use Rattle.c_parse.specs.Units.{further_variable}
use Rattle.std.specs.Prelude.{Bool}
use Rattle.c_unit.specs.declared.expression.TypeName.{TypeName}
use Rattle.c_unit.specs.declared.unit.Declaration.{Declaration}
use Rattle.c_lex.specs.declared.token.Token.{Token}
use Rattle.c_expression.proofs.ListLoops
use Rattle.c_parse.proofs.Lows.{variables_low}
use Rattle.c_parse.proofs.externals.further_variables.Given as goal

pub record Holds (constant : Bool) (type_name : TypeName) (before : List Declaration) (tokens : List Token) (values : List Declaration) (rest : List Token) : Type 0 where
  pub read : ListLoops.SoFar (spelled Comma ▸ Rule TheVariable) variables_low (further_variable constant type_name) before tokens values rest
  pub not_longer : length rest ≤ length tokens

abbrev pub invariant-items : goal.invariant-items
invariant-items l = Holds l.constant l.type_name l.fn.declarations l.tokens l.declarations l.rest

abbrev pub decreases-items : goal.decreases-items
decreases-items l = length l.rest
