-- The next token decides in the loops.
use Rattle.std.proofs.Common.{◌≡◌, true, refl}
use Rattle.grammar.specs.Grammar.{Many, Rule, ◌▸◌}
use Rattle.grammar.specs.Lookahead.{next_decides}
use Rattle.c_grammar.specs.declared.symbol.Symbol.TheVariants.{Comma}
use Rattle.c_grammar.specs.Written.{spelled}
use Rattle.c_grammar.specs.Factored.{TheExpression}
use Rattle.c_grammar.specs.Next.{lookahead}

pub arguments_low : next_decides lookahead (Many (spelled Comma ▸ Rule TheExpression)) ≡ true
unfolding lookahead
arguments_low = refl
