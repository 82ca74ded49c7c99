-- Classes of some tokens, and a text by the written grammar.
use Rattle.std.proofs.Common.{◌≡◌, ℕ, List, true, false, refl}
use Rattle.std.specs.Prelude.{codes}
use Rattle.grammar.specs.Grammar.{Rule, Leaf, Pair, Left, Right, Node, is_tree}
use Rattle.c_lex.specs.declared.token.Token.{Token}
use Rattle.c_lex.specs.declared.token.TokenKind.{TokenKind}
use Rattle.c_lex.specs.declared.token.TokenKind.TheVariants as kinds
use Rattle.c_grammar.specs.declared.symbol.Symbol.TheVariants as s
use Rattle.c_grammar.specs.Symbols.{class_of, class_of_symbol, name_class, number_class, other_class}
use Rattle.c_grammar.specs.Written.{written, Statement}

abbrev token : TokenKind → List ℕ → Token
token kind text = record { kind = kind; place = record { line = 1; column = 1; offset = 0 }; text = text }

-- a word of the grammar, a keyword that the grammar doesn't name, a name, and a name that stands for a number
while_class : class_of (token kinds.Word (codes "while")) ≡ class_of_symbol s.While
while_class = refl

goto_class : class_of (token kinds.Word (codes "goto")) ≡ other_class
goto_class = refl

name_of_class : class_of (token kinds.Name (codes "x")) ≡ name_class
name_of_class = refl

size_class : class_of (token (kinds.Number 4 false) (codes "SIZE")) ≡ number_class
size_class = refl

-- the longest marks are their own
shift_class : class_of (token kinds.Mark (codes "<<=")) ≡ class_of_symbol s.LeftShiftAssign
shift_class = refl

-- x ++ ;
counted : is_tree (written class_of) (Node (Right (Right (Right (Left (Pair (Node (Right (Right (Right (Left (Pair (Leaf (token kinds.Name (codes "x"))) (Leaf (token kinds.Mark (codes "++"))))))))) (Leaf (token kinds.Mark (codes ";"))))))))) (Rule Statement) ≡ true
counted = refl
