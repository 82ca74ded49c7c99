-- Turning the trees of one grammar into those of another: each rule stands for an expression of the other grammar, and its tree is regrouped
-- after the trees of the rules in it were.
use Rattle.grammar.specs.Grammar.{Expression, Empty, One, Then, Or, Many, Rule, Tree, Pair, Left, Right, Node}

-- The expression with the image of each rule in its place.
abbrev pub renamed : {N M : Type 0} → (N → Expression M) → Expression N → Expression M
renamed image Empty = Empty
renamed image (One classes) = One classes
renamed image (Then a b) = Then (renamed image a) (renamed image b)
renamed image (Or a b) = Or (renamed image a) (renamed image b)
renamed image (Many a) = Many (renamed image a)
renamed image (Rule n) = image n

-- The tree of an expression with the tree of each rule regrouped, the inner ones first.
abbrev pub regrouped : {N T : Type 0} → (N → Expression N) → (N → Tree T → Tree T) → Expression N → Tree T → Tree T
regrouped rule regroup (Then a b) (Pair x y) = Pair (regrouped rule regroup a x) (regrouped rule regroup b y)
regrouped rule regroup (Or a b) (Left x) = Left (regrouped rule regroup a x)
regrouped rule regroup (Or a b) (Right y) = Right (regrouped rule regroup b y)
regrouped rule regroup (Many a) (Pair x y) = Pair (regrouped rule regroup a x) (regrouped rule regroup (Many a) y)
regrouped rule regroup (Rule n) (Node x) = regroup n (regrouped rule regroup (rule n) x)
regrouped rule regroup e x = x
