-- What the regrouped tree of an expression means.
use Rattle.std.proofs.Common.{◌≡◌, ℕ, zero, suc, ◌<◌, true, refl, subst, sym, arith}
use Rattle.std.specs.Prelude.{nat_le}
use Rattle.grammar.specs.Grammar.{Expression, Rule, Tree, Nil, Leaf, Pair, Left, Right, Node, ◌▸◌}
use Rattle.c_lex.specs.declared.token.Token.{Token}
use Rattle.c_grammar.specs.Factored.{Part, TheUnary, TheLevel, joined, factored_rule}
use Rattle.c_grammar.specs.Trees.{written_level, written_expression, written_parenthesis, written_tree, as_written}
use Rattle.c_expression.specs.Lexemes.{place_at}
use Rattle.c_expression.specs.Expressions.{expression_of, level_of, unary_of, joined_of, after_of, parenthesis_of}

pub leveled : (k : ℕ) (u j : Tree Token) → level_of k (written_level k u j) ≡ joined_of k (unary_of u) j
leveled zero u j = refl
leveled (suc k) u (Pair x m) = rw (leveled k u x) refl
leveled (suc k) u Nil = leveled k u Nil
leveled (suc k) u (Leaf t) = leveled k u (Leaf t)
leveled (suc k) u (Left x) = leveled k u (Left x)
leveled (suc k) u (Right x) = leveled k u (Right x)
leveled (suc k) u (Node x) = leveled k u (Node x)

pub expression_meant : (u x : Tree Token) → expression_of (written_expression u x) ≡ after_of (unary_of u) x
expression_meant u (Pair j q) = rw (leveled 10 u j) refl
expression_meant u Nil = refl
expression_meant u (Leaf t) = refl
expression_meant u (Left x) = refl
expression_meant u (Right x) = refl
expression_meant u (Node x) = refl

pub parenthesis_meant : (o x : Tree Token) → unary_of (written_parenthesis o x) ≡ parenthesis_of (place_at o) x
parenthesis_meant o (Left x) = refl
parenthesis_meant o (Right x) = refl
parenthesis_meant o Nil = refl
parenthesis_meant o (Leaf t) = refl
parenthesis_meant o (Pair x y) = refl
parenthesis_meant o (Node x) = refl

pub rule_is : (k : ℕ) → k < 10 → factored_rule (TheLevel k) ≡ (Rule TheUnary ▸ joined k)
rule_is k h = let e : nat_le k 10 ≡ true = grind (arith, h) in rw e refl

pub level_meant : (k : ℕ) → k < 10 → (u j : Tree Token) → level_of k (written_tree (Rule (TheLevel k)) (Node (Pair u j))) ≡ joined_of k (unary_of (written_tree (Rule TheUnary) u)) (written_tree (joined k) j)
level_meant k h u j =
    subst (λ (r : Expression Part). level_of k (as_written (TheLevel k) (written_tree r (Pair u j))) ≡ joined_of k (unary_of (written_tree (Rule TheUnary) u)) (written_tree (joined k) j)) (sym (rule_is k h)) (leveled k (written_tree (Rule TheUnary) u) (written_tree (joined k) j))
