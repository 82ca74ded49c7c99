-- Grammars in extended Backus-Naur form as plain data, the trees of their sentences, and the texts that the trees spell.
use Rattle.std.specs.Prelude.{◌≡◌, ℕ, Bool, true, false, ◌&&◌, ◌||◌, eqb, List, [], ◌∷◌, ◌++◌}

-- The right side of a rule. N has the names of the rules; a number is a class of tokens.
pub data Expression (N : Type 0) : Type 0 where
  -- the text without tokens
  Empty : Expression N
  -- one token, of one of these classes
  One : List ℕ → Expression N
  -- the first, then the second
  Then : Expression N → Expression N → Expression N
  -- one of the two
  Or : Expression N → Expression N → Expression N
  -- any number of times, one after another, also none
  Many : Expression N → Expression N
  -- what the rule of this name stands for
  Rule : N → Expression N

-- A grammar over tokens T: the class of each token, and the right side of each rule.
pub record Grammar (N T : Type 0) : Type 0 where
  pub class : T → ℕ
  pub rule : N → Expression N

-- ---- how rules are written

-- a, then b
infixr 20 ◌▸◌
abbrev pub ◌▸◌ : {N : Type 0} → Expression N → Expression N → Expression N
a ▸ b = Then a b

-- a, or b
infixr 15 ◌∣◌
abbrev pub ◌∣◌ : {N : Type 0} → Expression N → Expression N → Expression N
a ∣ b = Or a b

-- a token of this class
abbrev pub the : {N : Type 0} → ℕ → Expression N
the c = One (c ∷ [])

-- a, or nothing
abbrev pub optional : {N : Type 0} → Expression N → Expression N
optional a = Or a Empty

-- ---- trees

-- How a text follows an expression, with the text's tokens as leaves.
pub data Tree (T : Type 0) : Type 0 where
  -- no token: the empty text, or the end of many
  Nil : Tree T
  -- one token
  Leaf : T → Tree T
  -- the first and the second; of many, one and the others
  Pair : Tree T → Tree T → Tree T
  -- the first of two choices
  Left : Tree T → Tree T
  -- the second of two choices
  Right : Tree T → Tree T
  -- the right side of a rule
  Node : Tree T → Tree T

-- Is this class among them?
abbrev pub has : List ℕ → ℕ → Bool
has [] c = false
has (d ∷ ds) c = eqb d c || has ds c

-- Does the tree follow the expression?
abbrev pub is_tree : {N T : Type 0} → Grammar N T → Tree T → Expression N → Bool
is_tree G Nil Empty = true
is_tree G (Leaf t) (One cs) = has cs (G.class t)
is_tree G (Pair x y) (Then a b) = is_tree G x a && is_tree G y b
is_tree G (Left x) (Or a b) = is_tree G x a
is_tree G (Right y) (Or a b) = is_tree G y b
is_tree G Nil (Many a) = true
is_tree G (Pair x y) (Many a) = is_tree G x a && is_tree G y (Many a)
is_tree G (Node x) (Rule n) = is_tree G x (G.rule n)
is_tree G _ _ = false

-- The text that a tree spells: its leaves from left to right.
abbrev pub leaves : {T : Type 0} → Tree T → List T
leaves Nil = []
leaves (Leaf t) = t ∷ []
leaves (Pair x y) = leaves x ++ leaves y
leaves (Left x) = leaves x
leaves (Right x) = leaves x
leaves (Node x) = leaves x

-- The trees of many, one after another.
abbrev pub items : {T : Type 0} → Tree T → List (Tree T)
items (Pair x y) = x ∷ items y
items _ = []

-- ---- sentences

-- The expression derives the text, by this tree.
pub record Derives {N T : Type 0} (G : Grammar N T) (e : Expression N) (tree : Tree T) (text : List T) : Type 0 where
  pub follows : is_tree G tree e ≡ true
  pub spells : leaves tree ≡ text

-- The text is a sentence: the expression derives it by some tree.
pub record IsSentence {N T : Type 0} (G : Grammar N T) (e : Expression N) (text : List T) : Type 0 where
  pub tree : Tree T
  pub derives : Derives G e tree text

-- No text has two trees.
abbrev pub IsUnambiguous : {N T : Type 0} → Grammar N T → Expression N → Type 0
IsUnambiguous {N} {T} G e = (text : List T) (x y : Tree T) → Derives G e x text → Derives G e y text → x ≡ y
