-- Trees of rules that are found by trying, as the samples of a Lookahead.
use Rattle.std.specs.Prelude.{ℕ, zero, suc, cond, [], ◌∷◌, Option, Some, None}
use Rattle.grammar.specs.Grammar.{Expression, Empty, One, Then, Or, Many, Rule, Tree, Nil, Leaf, Pair, Left, Right, Node}
use Rattle.grammar.specs.Lookahead.{nullable}

-- the first and the second, where both are found
abbrev pub both : {T : Type 0} → Option (Tree T) → Option (Tree T) → Option (Tree T)
both (Some x) (Some y) = Some (Pair x y)
both _ _ = None

-- the first choice, or else the second
abbrev pub either : {T : Type 0} → Option (Tree T) → Option (Tree T) → Option (Tree T)
either (Some x) _ = Some (Left x)
either None (Some y) = Some (Right y)
either None None = None

abbrev pub node : {T : Type 0} → Option (Tree T) → Option (Tree T)
node (Some x) = Some (Node x)
node None = None

-- A tree of an expression, where deeper finds those of the rules; a part that may be empty is left out.
abbrev pub found_in : {N T : Type 0} → (ℕ → T) → (N → Option (Tree T)) → Expression N → Option (Tree T)
found_in token deeper Empty = Some Nil
found_in token deeper (One []) = None
found_in token deeper (One (c ∷ cs)) = Some (Leaf (token c))
found_in token deeper (Then a b) = both (found_in token deeper a) (found_in token deeper b)
found_in token deeper (Or a b) = either (cond (nullable b) None (found_in token deeper a)) (found_in token deeper b)
found_in token deeper (Many a) = Some Nil
found_in token deeper (Rule n) = node (deeper n)

-- A tree of a rule's right side, with at most so many rules one within another.
abbrev pub found : {N T : Type 0} → (ℕ → T) → (N → Expression N) → ℕ → N → Option (Tree T)
found token rule zero n = None
found token rule (suc depth) n = found_in token (found token rule depth) (rule n)

-- That tree, or none.
abbrev pub sample_of : {N T : Type 0} → (ℕ → T) → (N → Expression N) → ℕ → N → Tree T
sample_of token rule depth n = tree_or (found token rule depth n)
  where
    tree_or : {T : Type 0} → Option (Tree T) → Tree T
    tree_or (Some x) = x
    tree_or None = Nil
