-- Reading from left to right by the next token alone, for every grammar.
use Rattle.std.specs.Prelude.{ℕ, zero, suc, ◌+◌, ◌*◌, Bool, false, cond, List, [], ◌∷◌, length}
use Rattle.grammar.specs.Grammar.{Expression, Empty, One, Then, Or, Many, Rule, Tree, Nil, Leaf, Pair, Left, Right, Node, has}
use Rattle.grammar.specs.Lookahead.{Lookahead, first, lead}

-- What reading gives: a value and the tokens after it, or the tokens from the first that does not fit, none of them where the text ended.
pub data Answer (V T : Type 0) : Type 0 where
  Got : V → List T → Answer V T
  Stuck : List T → Answer V T
  -- the turns did not suffice, which never comes (the law reading_is_exact)
  OutOfTurns : Answer V T

-- One answer after another: what comes next reads the tokens that were left.
abbrev pub and_then : {U V T : Type 0} → Answer U T → (U → List T → Answer V T) → Answer V T
and_then (Got x rest) f = f x rest
and_then (Stuck rest) f = Stuck rest
and_then OutOfTurns f = OutOfTurns

-- The same answer with f of the value.
abbrev pub map_got : {U V T : Type 0} → (U → V) → Answer U T → Answer V T
map_got f (Got x rest) = Got (f x) rest
map_got f (Stuck rest) = Stuck rest
map_got f OutOfTurns = OutOfTurns

-- The tokens that were not read.
abbrev pub unread : {V T : Type 0} → Answer V T → List T
unread (Got x rest) = rest
unread (Stuck rest) = rest
unread OutOfTurns = []

-- The tree that was got.
abbrev pub the_tree : {T : Type 0} → Answer (Tree T) T → Tree T
the_tree (Got x rest) = x
the_tree (Stuck rest) = Nil
the_tree OutOfTurns = Nil

-- Does the next token have one of the classes?
abbrev pub begins : {T : Type 0} → (T → ℕ) → List ℕ → List T → Bool
begins class cs [] = false
begins class cs (t ∷ ts) = has cs (class t)

-- Reading one token of some classes.
abbrev pub one : {T : Type 0} → (T → ℕ) → List ℕ → List T → Answer (Tree T) T
one class cs [] = Stuck []
one class cs (t ∷ ts) = cond (has cs (class t)) (Got (Leaf t) ts) (Stuck (t ∷ ts))

-- One turn of reading: a choice and a loop look at the next token; rules, and the loop after its first item, are left to again.
abbrev pub turn : {N T : Type 0} → (T → ℕ) → (N → List ℕ) → (Expression N → List T → Answer (Tree T) T) → Expression N → List T → Answer (Tree T) T
turn class firsts again Empty ts = Got Nil ts
turn class firsts again (One cs) ts = one class cs ts
turn class firsts again (Then a b) ts = and_then (turn class firsts again a ts) (λ x r. and_then (turn class firsts again b r) (λ y s. Got (Pair x y) s))
turn class firsts again (Or a b) ts = cond (begins class (first firsts a) ts) (map_got Left (turn class firsts again a ts)) (map_got Right (turn class firsts again b ts))
turn class firsts again (Many a) ts = cond (begins class (first firsts a) ts) (and_then (turn class firsts again a ts) (λ x r. and_then (again (Many a) r) (λ y s. Got (Pair x y) s))) (Got Nil ts)
turn class firsts again (Rule n) ts = again (Rule n) ts

-- Reading in at most so many turns one within another. The tree of a rule is a node.
abbrev pub turns : {N T : Type 0} → Lookahead N T → ℕ → Expression N → List T → Answer (Tree T) T
turns L zero e ts = OutOfTurns
turns L (suc f) (Rule n) ts = map_got Node (turn L.grammar.class L.firsts (turns L f) (L.grammar.rule n) ts)
turns L (suc f) e ts = turn L.grammar.class L.firsts (turns L f) e ts

-- How many turns stand one within another before the first token, at most.
abbrev pub height : {N : Type 0} → (N → ℕ) → Expression N → ℕ
height rank (Rule n) = suc (rank n)
height rank e = suc (lead rank e)

-- Reading with turns enough: it is one turn, and then reading again, as the law reading_follows says.
unfoldable pub reading : {N T : Type 0} → Lookahead N T → Expression N → List T → Answer (Tree T) T
reading L e ts = turns L (suc (height L.rank e + length ts * suc L.limit)) e ts
