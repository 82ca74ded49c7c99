-- What a reader of a part of the grammar answers.
use Rattle.std.specs.Prelude.{◌≡◌, ℕ, List, Result, Ok, Err}
use Rattle.grammar.specs.Grammar.{Expression, Tree}
use Rattle.grammar.specs.Reading.{Answer, Got, Stuck, the_tree, turn, reading}
use Rattle.c_lex.specs.declared.token.Token.{Token}
use Rattle.c_grammar.specs.Factored.{Part}
use Rattle.c_grammar.specs.Next.{lookahead, part_firsts}
use Rattle.c_grammar.specs.Trees.{written_tree}
use Rattle.c_expression.specs.declared.stop.Stop.{Stop}
use Rattle.c_expression.specs.declared.stop.Stop.TheVariants as stops

-- the class of a token
abbrev pub class_at : Token → ℕ
class_at = lookahead.grammar.class

-- What reading the expression by the next token gives.
abbrev pub reads : Expression Part → List Token → Answer (Tree Token) Token
reads e ts = turn lookahead.grammar.class part_firsts (reading lookahead) e ts

-- The tree that is read.
unfoldable pub tree_at : Expression Part → List Token → Tree Token
tree_at e ts = the_tree (reads e ts)

-- That tree as one of the written grammar.
abbrev pub written_at : Expression Part → List Token → Tree Token
written_at e ts = written_tree e (tree_at e ts)

-- Reading stops where it stopped.
abbrev pub Stops : Stop → Answer (Tree Token) Token → Type 0
Stops stops.Memory answer = Unit {0}
Stops (stops.At rest) answer = answer ≡ Stuck rest.now

-- A reader that leaves these tokens reads the expression, or stops where reading it does.
abbrev pub Gives : {X : Type 0} → (X → List Token) → Result X Stop → Expression Part → List Token → Type 0
Gives left (Ok x) e ts = reads e ts ≡ Got (tree_at e ts) (left x)
Gives left (Err stop) e ts = Stops stop (reads e ts)
