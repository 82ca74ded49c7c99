-- A part of the grammar is read as its rule says.
use Rattle.std.proofs.Common.{◌≡◌, ℕ, Bool, true, false, ◌||◌, List, refl, ap}
use Rattle.grammar.specs.Grammar.{Expression, Rule, Many, Node}
use Rattle.grammar.specs.Lookahead.{next_decides}
use Rattle.grammar.specs.Reading.{map_got, reading, the_tree}
use Rattle.grammar.proofs.Turns.{rule_turn, one_turn}
use Rattle.c_lex.specs.declared.token.Token.{Token}
use Rattle.c_grammar.specs.Next.{lookahead}
use Rattle.c_grammar.specs.Factored.{Part, factored_rule, TheRight, TheUnary, TheNameless, TheParenthesis}
use Rattle.c_grammar.proofs.Decides.{decides}
use Rattle.c_grammar.specs.declared.symbol.Symbol.{Symbol}
use Rattle.c_grammar.specs.Symbols.{class_of_symbol}
use Rattle.c_expression.specs.Lexemes.{type_class, sign_class, binary_class, assigned_class}
use Rattle.c_expression.specs.Reads.{reads, tree_at}

pub or_false : (b : Bool) → (b || false) ≡ b
or_false true = refl
or_false false = refl

-- what the class of a symbol means
pub type_class_at : (c : ℕ) (x : Symbol) → c ≡ class_of_symbol x → type_class c ≡ type_class (class_of_symbol x)
type_class_at c x e = ap (λ k. type_class k) e

pub sign_class_at : (c : ℕ) (x : Symbol) → c ≡ class_of_symbol x → sign_class c ≡ sign_class (class_of_symbol x)
sign_class_at c x e = ap (λ k. sign_class k) e

pub binary_class_at : (c : ℕ) (x : Symbol) → c ≡ class_of_symbol x → binary_class c ≡ binary_class (class_of_symbol x)
binary_class_at c x e = ap (λ k. binary_class k) e

pub assigned_class_at : (c : ℕ) (x : Symbol) → c ≡ class_of_symbol x → assigned_class c ≡ assigned_class (class_of_symbol x)
assigned_class_at c x e = ap (λ k. assigned_class k) e

pub tree_at_is : (e : Expression Part) (ts : List Token) → tree_at e ts ≡ the_tree (reads e ts)
unfolding tree_at
tree_at_is e ts = refl

pub opened : (p : Part) (ts : List Token) → reading lookahead (Rule p) ts ≡ map_got Node (reads (factored_rule p) ts)
unfolding lookahead
opened p ts = rule_turn lookahead decides p ts

-- where the next token decides in a loop, reading it is reading one turn of it
pub many_opened : (e : Expression Part) → next_decides lookahead (Many e) ≡ true → (ts : List Token) → reading lookahead (Many e) ts ≡ reads (Many e) ts
unfolding lookahead
many_opened e low ts = one_turn lookahead decides (Many e) low ts

pub right_opened : (ts : List Token) → reading lookahead (Rule TheRight) ts ≡ map_got Node (reads (factored_rule TheRight) ts)
right_opened ts = opened TheRight ts

pub unary_opened : (ts : List Token) → reading lookahead (Rule TheUnary) ts ≡ map_got Node (reads (factored_rule TheUnary) ts)
unary_opened ts = opened TheUnary ts

pub nameless_opened : (ts : List Token) → reading lookahead (Rule TheNameless) ts ≡ map_got Node (reads (factored_rule TheNameless) ts)
nameless_opened ts = opened TheNameless ts

pub parenthesis_opened : (ts : List Token) → reading lookahead (Rule TheParenthesis) ts ≡ map_got Node (reads (factored_rule TheParenthesis) ts)
parenthesis_opened ts = opened TheParenthesis ts
