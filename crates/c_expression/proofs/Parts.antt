-- Readers of one part after another, and of a rule.
use Rattle.std.proofs.Common.{◌≡◌, ℕ, ◌<◌, ◌≤◌, List, Result, Ok, Err, sym, ap, ◌∙◌, arith}
use Rattle.grammar.specs.Grammar.{Expression, Rule, Tree, Pair, Node, ◌▸◌}
use Rattle.grammar.specs.Reading.{Got, and_then, map_got}
use Rattle.c_lex.specs.declared.token.Token.{Token}
use Rattle.c_grammar.specs.Factored.{Part, factored_rule}
use Rattle.c_expression.specs.declared.stop.Stop.{Stop}
use Rattle.c_expression.specs.declared.stop.Stop.TheVariants as stops
use Rattle.c_expression.specs.Reads.{reads, tree_at, Stops, Gives}
use Rattle.c_expression.proofs.Lists.{got_at}
use Rattle.c_expression.proofs.Opened.{opened}

then_read : (a b : Expression Part) (ts r s : List Token) (x y : Tree Token) → reads a ts ≡ Got x r → reads b r ≡ Got y s → reads (a ▸ b) ts ≡ Got (Pair x y) s
then_read a b ts r s x y h g = ap (λ q. and_then q (λ u v. and_then (reads b v) (λ z w. Got (Pair u z) w))) h ∙ ap (λ q. and_then q (λ z w. Got (Pair x z) w)) g

then_stuck : (a b : Expression Part) (ts r : List Token) (x : Tree Token) (stop : Stop) → reads a ts ≡ Got x r → Stops stop (reads b r) → Stops stop (reads (a ▸ b) ts)
then_stuck a b ts r x stops.Memory h g = tt
then_stuck a b ts r x (stops.At s) h g = ap (λ q. and_then q (λ u v. and_then (reads b v) (λ z w. Got (Pair u z) w))) h ∙ ap (λ q. and_then q (λ z w. Got (Pair x z) w)) g

-- the tree of one part after another
pub then_tree : (a b : Expression Part) (ts r s : List Token) → reads a ts ≡ Got (tree_at a ts) r → reads b r ≡ Got (tree_at b r) s → tree_at (a ▸ b) ts ≡ Pair (tree_at a ts) (tree_at b r)
then_tree a b ts r s h g = got_at (a ▸ b) ts (Pair (tree_at a ts) (tree_at b r)) s (then_read a b ts r s (tree_at a ts) (tree_at b r) h g)

-- a stop in the first part is one of both
pub first_stops : (a b : Expression Part) (ts : List Token) (stop : Stop) → Stops stop (reads a ts) → Stops stop (reads (a ▸ b) ts)
first_stops a b ts stops.Memory h = tt
first_stops a b ts (stops.At s) h = ap (λ q. and_then q (λ u v. and_then (reads b v) (λ z w. Got (Pair u z) w))) h

-- a stop in the right side is one of the rule
pub rule_stops : (p : Part) (ts : List Token) (stop : Stop) → Stops stop (reads (factored_rule p) ts) → Stops stop (reads (Rule p) ts)
rule_stops p ts stops.Memory h = tt
rule_stops p ts (stops.At s) h = opened p ts ∙ ap (map_got Node) h

-- the tree of a rule
pub rule_tree : (p : Part) (ts r : List Token) → reads (factored_rule p) ts ≡ Got (tree_at (factored_rule p) ts) r → tree_at (Rule p) ts ≡ Node (tree_at (factored_rule p) ts)
rule_tree p ts r h = got_at (Rule p) ts (Node (tree_at (factored_rule p) ts)) r (opened p ts ∙ ap (map_got Node) h)

module _ {X : Type 0} (left : X → List Token) where
  -- a reader of the second part gives both
  pub then_gives : (a b : Expression Part) (result : Result X Stop) (ts r : List Token) → reads a ts ≡ Got (tree_at a ts) r → Gives left result b r → Gives left result (a ▸ b) ts
  then_gives a b (Ok x) ts r h g = then_read a b ts r (left x) (tree_at a ts) (tree_at b r) h g ∙ ap (λ t. Got t (left x)) (sym (then_tree a b ts r (left x) h g))
  then_gives a b (Err stop) ts r h g = then_stuck a b ts r (tree_at a ts) stop h g

  -- a reader of the right side gives the rule
  pub rule_gives : (p : Part) (result : Result X Stop) (ts : List Token) → Gives left result (factored_rule p) ts → Gives left result (Rule p) ts
  rule_gives p (Ok x) ts h = opened p ts ∙ ap (map_got Node) h ∙ ap (λ t. Got t (left x)) (sym (rule_tree p ts (left x) h))
  rule_gives p (Err stop) ts h = rule_stops p ts stop h

  -- a stop that is passed on
  pub stops_give : (e : Expression Part) (result : Result X Stop) (ts : List Token) (passed stop : Stop) → result ≡ Err passed → passed ≡ stop → Stops stop (reads e ts) → Gives left result e ts
  stops_give e result ts passed stop h k s = rw (h, k) s

-- a rest of a rest
pub still_shorter : (whole rest after last : ℕ) → rest ≤ whole → after < rest → last < after → last ≤ whole
still_shorter whole rest after last h k l = omega arith

pub still_short : (whole rest last : ℕ) → rest ≤ whole → last < rest → last ≤ whole
still_short whole rest last h k = omega arith
