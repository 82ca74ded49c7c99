-- What the functions of the reader give, each for a part of the grammar.
use Rattle.std.specs.Prelude.{◌≡◌, ℕ, ◌+◌, ◌-◌, List, Result, Ok, Err}
use Rattle.grammar.specs.Grammar.{Expression, Tree}
use Rattle.grammar.specs.Reading.{Answer, Got, Stuck, the_tree, turn, reading}
use Rattle.oil_text.specs.OilGrammar.{Part, class_of}
use Rattle.oil_text.specs.OilLookahead.{firsts, lookahead}
use Rattle.oil_text.specs.declared.token.Kind.{Kind}
use Rattle.oil_text.specs.declared.token.Kind.TheVariants as kinds
use Rattle.oil_text.specs.declared.token.Mark.TheVariants.{OpeningBrace, ClosingBrace}
use Rattle.oil_text.specs.declared.token.Token.{Token}
use Rattle.oil_text.specs.declared.stop.Stop.{Stop}
use Rattle.oil_text.specs.declared.stop.Stop.TheVariants as stops

-- reading a part of the grammar
abbrev pub reads : Expression Part → List Token → Answer (Tree Token) Token
reads e tokens = turn class_of firsts (reading lookahead) e tokens

-- the tree that is read
unfoldable pub tree_at : Expression Part → List Token → Tree Token
tree_at e tokens = the_tree (reads e tokens)

-- reading stops so, unless memory ran out
abbrev pub Stops : Stop → Answer (Tree Token) Token → Type 0
Stops stops.Memory answer = Unit {0}
Stops (stops.At rest) answer = answer ≡ Stuck rest.now

-- what was returned is what reading gives, with these tokens left
abbrev pub Gives : {X : Type 0} → (X → List Token) → Result X Stop → Expression Part → List Token → Type 0
Gives left (Ok x) e tokens = reads e tokens ≡ Got (tree_at e tokens) (left x)
Gives left (Err stop) e tokens = Stops stop (reads e tokens)

-- how many braces are open after a token
abbrev pub depth_after : Kind → ℕ → ℕ
depth_after (kinds.Mark OpeningBrace) n = n + 1
depth_after (kinds.Mark ClosingBrace) n = n - 1
depth_after _ n = n
