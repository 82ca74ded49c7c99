-- A first operand, and what joins it with others.
use Rattle.std.proofs.Common.{◌≡◌, ℕ, ◌<◌, List, Result, Ok, Err, sym, ap, subst, ◌∙◌}
use Rattle.std.specs.Prelude.{IfOk}
use Rattle.grammar.specs.Grammar.{Expression as Expr, Rule, Node, Pair, ◌▸◌}
use Rattle.grammar.specs.Reading.{Got}
use Rattle.c_lex.specs.declared.token.Token.{Token}
use Rattle.c_grammar.specs.Factored.{Part, TheExpression, TheLevel, TheUnary, after, all_joined, joined, factored_rule}
use Rattle.c_grammar.specs.Written.{choice}
use Rattle.c_grammar.specs.Trees.{written_tree}
use Rattle.c_unit.specs.declared.expression.Expression.{Expression}
use Rattle.c_expression.specs.declared.stop.Stop.{Stop}
use Rattle.c_expression.specs.Expressions.{expression_of, choice_of, level_of, unary_of, joined_of, after_of}
use Rattle.c_expression.specs.Reads.{reads, tree_at, written_at, Stops, Gives}
use Rattle.c_expression.proofs.Meant.{expression_meant, level_meant, rule_is}
use Rattle.c_expression.proofs.Parts.{then_tree, then_gives, first_stops, rule_tree, rule_gives, rule_stops}

-- a stop in the first operand
pub expression_stops : (ts : List Token) (stop : Stop) → Stops stop (reads (Rule TheUnary) ts) → Stops stop (reads (Rule TheExpression) ts)
expression_stops ts stop h = rule_stops TheExpression ts stop (first_stops (Rule TheUnary) after ts stop h)

pub level_stops : (k : ℕ) → k < 10 → (ts : List Token) (stop : Stop) → Stops stop (reads (Rule TheUnary) ts) → Stops stop (reads (Rule (TheLevel k)) ts)
level_stops k lt ts stop h =
    rule_stops (TheLevel k) ts stop (subst (λ (e : Expr Part). Stops stop (reads e ts)) (sym (rule_is k lt)) (first_stops (Rule TheUnary) (joined k) ts stop h))

module _ {X : Type 0} (left : X → List Token) where
  expression_read : (result : Result X Stop) (ts r : List Token) → reads (Rule TheUnary) ts ≡ Got (tree_at (Rule TheUnary) ts) r → Gives left result after r → Gives left result (factored_rule TheExpression) ts
  expression_read result ts r h g = then_gives left (Rule TheUnary) after result ts r h g

  pub expression_gives : (result : Result X Stop) (ts r : List Token) → reads (Rule TheUnary) ts ≡ Got (tree_at (Rule TheUnary) ts) r → Gives left result after r → Gives left result (Rule TheExpression) ts
  expression_gives result ts r h g = rule_gives left TheExpression result ts (expression_read result ts r h g)

  level_read : (k : ℕ) → k < 10 → (result : Result X Stop) (ts r : List Token) → reads (Rule TheUnary) ts ≡ Got (tree_at (Rule TheUnary) ts) r → Gives left result (joined k) r → Gives left result (factored_rule (TheLevel k)) ts
  level_read k lt result ts r h g = subst (λ (e : Expr Part). Gives left result e ts) (sym (rule_is k lt)) (then_gives left (Rule TheUnary) (joined k) result ts r h g)

  pub level_gives : (k : ℕ) → k < 10 → (result : Result X Stop) (ts r : List Token) → reads (Rule TheUnary) ts ≡ Got (tree_at (Rule TheUnary) ts) r → Gives left result (joined k) r → Gives left result (Rule (TheLevel k)) ts
  level_gives k lt result ts r h g = rule_gives left (TheLevel k) result ts (level_read k lt result ts r h g)

  module _ (value : X → Expression) where
    pub expression_means : (result : Result X Stop) (first : Expression) (ts r : List Token) → reads (Rule TheUnary) ts ≡ Got (tree_at (Rule TheUnary) ts) r → unary_of (written_at (Rule TheUnary) ts) ≡ first → Gives left result after r
        → IfOk result (λ x. after_of first (written_at after r) ≡ value x) → IfOk result (λ x. expression_of (written_at (Rule TheExpression) ts) ≡ value x)
    expression_means (Err e) first ts r h m g n = tt
    expression_means (Ok x) first ts r h m g n =
        ap (λ t. expression_of (written_tree (Rule TheExpression) t)) (rule_tree TheExpression ts (left x) (expression_read (Ok x) ts r h g))
        ∙ ap (λ t. expression_of (written_tree (Rule TheExpression) (Node t))) (then_tree (Rule TheUnary) after ts r (left x) h g)
        ∙ expression_meant (written_at (Rule TheUnary) ts) (written_at after r)
        ∙ ap (λ v. after_of v (written_at after r)) m ∙ n

    pub after_means : (result : Result X Stop) (first condition : Expression) (ts r : List Token) → reads all_joined ts ≡ Got (tree_at all_joined ts) r → joined_of 10 first (written_at all_joined ts) ≡ condition → Gives left result (choice TheExpression) r
        → IfOk result (λ x. choice_of condition (written_at (choice TheExpression) r) ≡ value x) → IfOk result (λ x. after_of first (written_at after ts) ≡ value x)
    after_means (Err e) first condition ts r h m g n = tt
    after_means (Ok x) first condition ts r h m g n =
        ap (λ t. after_of first (written_tree after t)) (then_tree all_joined (choice TheExpression) ts r (left x) h g)
        ∙ ap (λ v. choice_of v (written_at (choice TheExpression) r)) m ∙ n

    pub level_means : (k : ℕ) → k < 10 → (result : Result X Stop) (first : Expression) (ts r : List Token) → reads (Rule TheUnary) ts ≡ Got (tree_at (Rule TheUnary) ts) r → unary_of (written_at (Rule TheUnary) ts) ≡ first → Gives left result (joined k) r
        → IfOk result (λ x. joined_of k first (written_at (joined k) r) ≡ value x) → IfOk result (λ x. level_of k (written_at (Rule (TheLevel k)) ts) ≡ value x)
    level_means k lt (Err e) first ts r h m g n = tt
    level_means k lt (Ok x) first ts r h m g n =
        let tree : tree_at (factored_rule (TheLevel k)) ts ≡ Pair (tree_at (Rule TheUnary) ts) (tree_at (joined k) r) =
        subst (λ (e : Expr Part). tree_at e ts ≡ Pair (tree_at (Rule TheUnary) ts) (tree_at (joined k) r)) (sym (rule_is k lt)) (then_tree (Rule TheUnary) (joined k) ts r (left x) h g) in
        ap (λ t. level_of k (written_tree (Rule (TheLevel k)) t)) (rule_tree (TheLevel k) ts (left x) (level_read k lt (Ok x) ts r h g))
        ∙ ap (λ t. level_of k (written_tree (Rule (TheLevel k)) (Node t))) tree
        ∙ level_meant k lt (tree_at (Rule TheUnary) ts) (tree_at (joined k) r)
        ∙ ap (λ v. joined_of k v (written_at (joined k) r)) m ∙ n
