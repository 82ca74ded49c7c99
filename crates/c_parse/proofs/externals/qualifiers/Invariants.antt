-- Some qualifiers have been read, with const among them or not.
use Rattle.std.proofs.Common.{Bool, ◌≤◌, List, length}
use Rattle.c_lex.specs.declared.token.Token.{Token}
use Rattle.c_grammar.specs.Written.{one_of, qualifier_words}
use Rattle.c_expression.proofs.Flags
use Rattle.c_parse.proofs.Lows.{qualifiers_low}
use Rattle.c_parse.proofs.externals.qualifiers.Given as goal

pub record Holds (tokens : List Token) (constant : Bool) (rest : List Token) : Type 0 where
  pub read : Flags.SoFar (one_of qualifier_words) qualifiers_low tokens constant rest
  pub not_longer : length rest ≤ length tokens

abbrev pub invariant-items : goal.invariant-items
invariant-items l = Holds l.tokens l.constant l.rest

abbrev pub decreases-items : goal.decreases-items
decreases-items l = length l.rest
