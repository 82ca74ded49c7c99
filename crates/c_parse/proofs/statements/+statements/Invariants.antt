-- Each call has fewer tokens, or as many and a part that stands lower. A loop has read some statements or branches.
use Rattle.std.proofs.Common.{◌+◌, ◌*◌, ◌≤◌, List, [], length}
use Rattle.grammar.specs.Grammar.{Rule}
use Rattle.c_lex.specs.declared.token.Token.{Token}
use Rattle.c_grammar.specs.Factored.{TheStatement}
use Rattle.c_unit.specs.declared.statement.Statement.{Statement}
use Rattle.c_unit.specs.declared.statement.Branch.{Branch}
use Rattle.c_parse.specs.Statements.{statement_of}
use Rattle.c_expression.proofs.ListLoops
use Rattle.c_parse.proofs.Elses
use Rattle.c_parse.proofs.Lows.{statements_low}
use Rattle.c_parse.proofs.statements.+statements.Given as goal

abbrev pub decreases-block : goal.decreases-block
decreases-block l = 10 * length l.tokens.now + 1

abbrev pub decreases-statements : goal.decreases-statements
decreases-statements l = 10 * length l.tokens.now + 5

abbrev pub decreases-statement : goal.decreases-statement
decreases-statement l = 10 * length l.tokens.now + 4

abbrev pub decreases-if_statement : goal.decreases-if_statement
decreases-if_statement l = 10 * length l.tokens.now + 3

abbrev pub decreases-otherwise : goal.decreases-otherwise
decreases-otherwise l = 10 * length l.tokens.now

abbrev pub decreases-branch : goal.decreases-branch
decreases-branch l = 10 * length l.tokens.now + 2

abbrev pub decreases-while_statement : goal.decreases-while_statement
decreases-while_statement l = 10 * length l.tokens.now + 2

abbrev pub decreases-for_statement : goal.decreases-for_statement
decreases-for_statement l = 10 * length l.tokens.now + 2

pub record HasRead (tokens : List Token) (statements : List Statement) (rest : List Token) : Type 0 where
  pub read : ListLoops.SoFar (Rule TheStatement) statements_low statement_of [] tokens statements rest
  pub not_longer : length rest ≤ length tokens

abbrev pub invariant-statements-items : goal.invariant-statements-items
invariant-statements-items l = HasRead l.tokens l.statements l.rest

abbrev pub decreases-statements-items : goal.decreases-statements-items
decreases-statements-items l = length l.rest

pub record HasBranches (before : List Branch) (tokens : List Token) (branches : List Branch) (rest : List Token) : Type 0 where
  pub read : Elses.SoFar before tokens branches rest
  pub not_longer : length rest ≤ length tokens

abbrev pub invariant-otherwise-items : goal.invariant-otherwise-items
invariant-otherwise-items l = HasBranches l.fn.branches l.tokens l.branches l.rest

abbrev pub decreases-otherwise-items : goal.decreases-otherwise-items
decreases-otherwise-items l = length l.rest
