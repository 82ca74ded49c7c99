-- Some constants have been read.
use Rattle.std.proofs.Common.{◌≤◌, List, length}
use Rattle.c_lex.specs.declared.token.Token.{Token}
use Rattle.c_unit.specs.declared.unit.Constant.{Constant}
use Rattle.c_parse.proofs.Tails
use Rattle.c_parse.proofs.externals.tail.Given as goal

pub record Holds (before : List Constant) (tokens : List Token) (constants : List Constant) (rest : List Token) : Type 0 where
  pub read : Tails.SoFar before tokens constants rest
  pub not_longer : length rest ≤ length tokens

abbrev pub invariant-items : goal.invariant-items
invariant-items l = Holds l.fn.constants l.tokens l.constants l.rest

abbrev pub decreases-items : goal.decreases-items
decreases-items l = length l.rest
