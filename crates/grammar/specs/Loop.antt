-- Reading many items by a loop that puts their meanings together.
use Rattle.std.specs.Prelude.{◌≡◌, List, [], ◌∷◌, ◌++◌}
use Rattle.std.specs.List.{fold}
use Rattle.grammar.specs.Grammar.{Expression, Many, Tree, Pair, items}
use Rattle.grammar.specs.Lookahead.{Lookahead}
use Rattle.grammar.specs.Reading.{Got, map_got, reading}

-- The trees of some items in front of a tree of many.
abbrev pub in_front : {T : Type 0} → List (Tree T) → Tree T → Tree T
in_front [] y = y
in_front (x ∷ xs) y = Pair x (in_front xs y)

-- The list with the meaning of one more item at its end.
abbrev pub push : {T W : Type 0} → (Tree T → W) → List W → Tree T → List W
push meaning values x = values ++ meaning x ∷ []

-- The loop began at start, has read some items of e, put them together into the value by add, and has the rest to read.
pub record IsReadSoFar {N T V : Type 0} (L : Lookahead N T) (e : Expression N) (add : V → Tree T → V) (empty : V) (start : List T) (value : V) (rest : List T) : Type 0 where
  pub trees : List (Tree T)
  pub means : fold add empty trees ≡ value
  pub answers : reading L (Many e) start ≡ map_got (in_front trees) (reading L (Many e) rest)

-- Reading all items from start gives a tree, leaves the rest, and the value is the items put together by add.
pub record IsReadMany {N T V : Type 0} (L : Lookahead N T) (e : Expression N) (add : V → Tree T → V) (empty : V) (start : List T) (value : V) (rest : List T) : Type 0 where
  pub tree : Tree T
  pub answers : reading L (Many e) start ≡ Got tree rest
  pub means : fold add empty (items tree) ≡ value
