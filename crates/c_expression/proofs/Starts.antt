-- The written tree of a rule begins where the rule does.
use Rattle.std.proofs.Common.{◌≡◌, ◌<◌, true, List, [], ◌∷◌, ◌++◌, length, refl, sym, ap, ◌∙◌, arith}
use Rattle.grammar.specs.Grammar.{Rule, Tree, leaves}
use Rattle.grammar.specs.Lookahead.{next_decides}
use Rattle.grammar.specs.Reading.{Got, reading}
use Rattle.grammar.proofs.Loops
use Rattle.grammar.proofs.Sound.{Taken}
use Rattle.grammar.proofs.Turns.{reading_says}
use Rattle.c_lex.specs.declared.token.Token.{Token}
use Rattle.c_grammar.specs.Symbols.{class_of}
use Rattle.c_grammar.specs.Next.{lookahead}
use Rattle.c_grammar.specs.Factored.{Part, TheExpression}
use Rattle.c_grammar.specs.Trees.{written_tree}
use Rattle.c_grammar.proofs.Agree
use Rattle.c_grammar.proofs.Decides.{decides}
use Rattle.c_expression.specs.Lexemes.{first_place}
use Rattle.c_expression.specs.Reads.{reads, tree_at, written_at}

first_kept : (xs r : List Token) → length r < length (xs ++ r) → first_place xs ≡ first_place (xs ++ r)
first_kept [] r h = absurd (omega (arith, h))
first_kept (x ∷ xs) r h = refl

pub starts_at : (n : Part) → next_decides lookahead (Rule n) ≡ true → (ts : List Token) (x : Tree Token) (r : List Token) → reading lookahead (Rule n) ts ≡ Got x r → first_place (leaves (written_tree (Rule n) x)) ≡ first_place ts
unfolding lookahead
starts_at n low ts x r e =
    let says = reading_says lookahead decides (Rule n) low ts in
    let taken : Taken lookahead (Rule n) ts x r = rw e at says in
    let less = Loops.takes lookahead decides n low ts x r e in
    let whole = Agree.writes class_of (Rule n) x (leaves x) (record { follows = taken.fits; spells = refl }) in
    let less' : length r < length (leaves x ++ r) = rw taken.parts at less in
    ap first_place whole.spells ∙ first_kept (leaves x) r less' ∙ ap first_place (sym taken.parts)

expression_low : next_decides lookahead (Rule TheExpression) ≡ true
unfolding lookahead
expression_low = refl

pub expression_starts : (ts r : List Token) → reads (Rule TheExpression) ts ≡ Got (tree_at (Rule TheExpression) ts) r → first_place (leaves (written_at (Rule TheExpression) ts)) ≡ first_place ts
expression_starts ts r e = starts_at TheExpression expression_low ts (tree_at (Rule TheExpression) ts) r e
