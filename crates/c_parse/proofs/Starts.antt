-- The written tree of a rule begins where the rule does.
use Rattle.std.proofs.Common.{◌≡◌, true, List, refl}
use Rattle.grammar.specs.Grammar.{Rule, leaves}
use Rattle.grammar.specs.Lookahead.{next_decides}
use Rattle.grammar.specs.Reading.{Got}
use Rattle.c_lex.specs.declared.token.Token.{Token}
use Rattle.c_grammar.specs.Next.{lookahead}
use Rattle.c_grammar.specs.Factored.{TheBlock, TheLocal, TheSimple, TheIf}
use Rattle.c_expression.specs.Lexemes.{first_place}
use Rattle.c_expression.specs.Reads.{reads, tree_at, written_at}
use Rattle.c_expression.proofs.Starts.{starts_at}

block_low : next_decides lookahead (Rule TheBlock) ≡ true
unfolding lookahead
block_low = refl

pub block_starts : (ts r : List Token) → reads (Rule TheBlock) ts ≡ Got (tree_at (Rule TheBlock) ts) r → first_place (leaves (written_at (Rule TheBlock) ts)) ≡ first_place ts
block_starts ts r e = starts_at TheBlock block_low ts (tree_at (Rule TheBlock) ts) r e

local_low : next_decides lookahead (Rule TheLocal) ≡ true
unfolding lookahead
local_low = refl

pub local_starts : (ts r : List Token) → reads (Rule TheLocal) ts ≡ Got (tree_at (Rule TheLocal) ts) r → first_place (leaves (written_at (Rule TheLocal) ts)) ≡ first_place ts
local_starts ts r e = starts_at TheLocal local_low ts (tree_at (Rule TheLocal) ts) r e

simple_low : next_decides lookahead (Rule TheSimple) ≡ true
unfolding lookahead
simple_low = refl

pub simple_starts : (ts r : List Token) → reads (Rule TheSimple) ts ≡ Got (tree_at (Rule TheSimple) ts) r → first_place (leaves (written_at (Rule TheSimple) ts)) ≡ first_place ts
simple_starts ts r e = starts_at TheSimple simple_low ts (tree_at (Rule TheSimple) ts) r e

if_low : next_decides lookahead (Rule TheIf) ≡ true
unfolding lookahead
if_low = refl

pub if_starts : (ts r : List Token) → reads (Rule TheIf) ts ≡ Got (tree_at (Rule TheIf) ts) r → first_place (leaves (written_at (Rule TheIf) ts)) ≡ first_place ts
if_starts ts r e = starts_at TheIf if_low ts (tree_at (Rule TheIf) ts) r e
