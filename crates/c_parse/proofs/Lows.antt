-- The next token decides in the loops.
use Rattle.std.proofs.Common.{◌≡◌, true, refl}
use Rattle.grammar.specs.Grammar.{Many, Rule, ◌▸◌}
use Rattle.grammar.specs.Lookahead.{next_decides}
use Rattle.c_grammar.specs.declared.symbol.Symbol.TheVariants.{Comma}
use Rattle.c_grammar.specs.Written.{spelled, declarator, parameter, qualifiers, local_qualifiers}
use Rattle.c_grammar.specs.Factored.{TheRight, TheVariable, TheStatement, TheExternal}
use Rattle.c_grammar.specs.Next.{lookahead}

pub declarators_low : next_decides lookahead (Many (spelled Comma ▸ declarator TheRight)) ≡ true
unfolding lookahead
declarators_low = refl

pub parameters_low : next_decides lookahead (Many (spelled Comma ▸ parameter)) ≡ true
unfolding lookahead
parameters_low = refl

pub variables_low : next_decides lookahead (Many (spelled Comma ▸ Rule TheVariable)) ≡ true
unfolding lookahead
variables_low = refl

pub statements_low : next_decides lookahead (Many (Rule TheStatement)) ≡ true
unfolding lookahead
statements_low = refl

pub externals_low : next_decides lookahead (Many (Rule TheExternal)) ≡ true
unfolding lookahead
externals_low = refl

pub qualifiers_low : next_decides lookahead qualifiers ≡ true
unfolding lookahead
qualifiers_low = refl

pub local_qualifiers_low : next_decides lookahead local_qualifiers ≡ true
unfolding lookahead
local_qualifiers_low = refl
