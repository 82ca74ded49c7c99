-- Some externals have been read.
use Rattle.std.proofs.Common.{[], length}
use Rattle.grammar.specs.Grammar.{Rule}
use Rattle.c_grammar.specs.Factored.{TheExternal}
use Rattle.c_parse.specs.Units.{external_of}
use Rattle.c_expression.proofs.ListLoops
use Rattle.c_parse.proofs.Lows.{externals_low}
use Rattle.c_parse.proofs.externals.externals.Given as goal

abbrev pub invariant-items : goal.invariant-items
invariant-items l = ListLoops.SoFar (Rule TheExternal) externals_low external_of [] l.tokens l.externals l.rest

abbrev pub decreases-items : goal.decreases-items
decreases-items l = length l.rest
