-- What of a grammar the next token decides, so that a text is read from left to right and no choice is taken back.
use Rattle.std.specs.Prelude.{◌≡◌, ℕ, suc, max, Bool, true, false, not, ◌&&◌, ◌||◌, cond, nat_le, List, [], ◌∷◌, ◌++◌}
use Rattle.grammar.specs.Grammar.{Grammar, Expression, Empty, One, Then, Or, Many, Rule, Tree, has, is_tree}

-- A grammar with what its author says of each rule, all of which NextDecides tests.
pub record Lookahead (N T : Type 0) : Type 0 where
  pub grammar : Grammar N T
  -- the classes that a text of the rule may begin with (FIRST)
  pub firsts : N → List ℕ
  -- the classes of tokens with which a whole text of the rule may go on as a longer one
  pub lasts : N → List ℕ
  -- the rules that a rule may begin with have lower ranks, so none begins with itself
  pub rank : N → ℕ
  -- above each rank, and above what leads in each loop
  pub limit : ℕ
  -- a token of the class
  pub token : ℕ → T
  -- a tree of the rule's right side
  pub sample : N → Tree T

-- ---- sets of classes

-- Does the expression derive the empty text? (No rule does, as RuleDecides tests.)
abbrev pub nullable : {N : Type 0} → Expression N → Bool
nullable Empty = true
nullable (One cs) = false
nullable (Then a b) = nullable a && nullable b
nullable (Or a b) = nullable a || nullable b
nullable (Many a) = true
nullable (Rule n) = false

-- The classes that a text of the expression may begin with (FIRST), where firsts says it of the rules.
abbrev pub first : {N : Type 0} → (N → List ℕ) → Expression N → List ℕ
first firsts Empty = []
first firsts (One cs) = cs
first firsts (Then a b) = cond (nullable a) (first firsts a ++ first firsts b) (first firsts a)
first firsts (Or a b) = first firsts a ++ first firsts b
first firsts (Many a) = first firsts a
first firsts (Rule n) = firsts n

-- The classes of tokens with which a whole text of the expression may go on as a longer one.
abbrev pub last : {N : Type 0} → (N → List ℕ) → (N → List ℕ) → Expression N → List ℕ
last firsts lasts Empty = []
last firsts lasts (One cs) = []
last firsts lasts (Then a b) = cond (nullable b) (last firsts lasts a ++ (first firsts b ++ last firsts lasts b)) (last firsts lasts b)
last firsts lasts (Or a b) = (last firsts lasts a ++ last firsts lasts b) ++ cond (nullable b) (first firsts a ++ first firsts b) []
last firsts lasts (Many a) = first firsts a ++ last firsts lasts a
last firsts lasts (Rule n) = lasts n

-- No class is in both.
abbrev pub disjoint : List ℕ → List ℕ → Bool
disjoint [] ds = true
disjoint (c ∷ cs) ds = not (has ds c) && disjoint cs ds

-- Each class of the first is in the second.
abbrev pub subset : List ℕ → List ℕ → Bool
subset [] ds = true
subset (c ∷ cs) ds = has ds c && subset cs ds

-- How many rules stand one within another before the first token, at most.
abbrev pub lead : {N : Type 0} → (N → ℕ) → Expression N → ℕ
lead rank Empty = 0
lead rank (One cs) = 0
lead rank (Then a b) = cond (nullable a) (max (lead rank a) (lead rank b)) (lead rank a)
lead rank (Or a b) = max (lead rank a) (lead rank b)
lead rank (Many a) = lead rank a
lead rank (Rule n) = suc (rank n)

-- ---- the test

-- There is a class, and the author's token of the first one has one of the classes.
abbrev pub has_token : {T : Type 0} → (T → ℕ) → (ℕ → T) → List ℕ → Bool
has_token class token [] = false
has_token class token (c ∷ cs) = has (c ∷ cs) (class (token c))

-- The next token decides in the expression: which choice is taken, whether a loop goes on, and where each part ends.
abbrev pub next_decides : {N T : Type 0} → Lookahead N T → Expression N → Bool
next_decides L Empty = true
next_decides L (One cs) = has_token L.grammar.class L.token cs
next_decides L (Then a b) = next_decides L a && (next_decides L b && disjoint (last L.firsts L.lasts a) (first L.firsts b))
next_decides L (Or a b) = next_decides L a && (next_decides L b && (disjoint (first L.firsts a) (first L.firsts b) && not (nullable a)))
next_decides L (Many a) = next_decides L a && (disjoint (last L.firsts L.lasts a) (first L.firsts a) && (not (nullable a) && nat_le (suc (lead L.rank a)) L.limit))
next_decides L (Rule n) = nat_le (suc (L.rank n)) L.limit

-- In the rule the next token decides, and what the author says of the rule is so.
pub record RuleDecides {N T : Type 0} (L : Lookahead N T) (n : N) : Type 0 where
  -- the next token decides in the right side
  pub decides : next_decides L (L.grammar.rule n) ≡ true
  -- the right side never derives the empty text
  pub full : nullable (L.grammar.rule n) ≡ false
  -- its texts begin with the stated classes only
  pub begins_so : subset (first L.firsts (L.grammar.rule n)) (L.firsts n) ≡ true
  -- its whole texts go on with the stated classes only
  pub goes_on_so : subset (last L.firsts L.lasts (L.grammar.rule n)) (L.lasts n) ≡ true
  -- it begins with rules of lower rank only
  pub falls : nat_le (lead L.rank (L.grammar.rule n)) (L.rank n) ≡ true
  -- the sample follows it
  pub sampled : is_tree L.grammar (L.sample n) (L.grammar.rule n) ≡ true

-- The next token decides in every rule (LL(1), with rules that are never empty).
abbrev pub NextDecides : {N T : Type 0} → Lookahead N T → Type 0
NextDecides {N} L = (n : N) → RuleDecides L n

-- The next token decides in every rule, and in this expression.
pub record NextDecidesIn {N T : Type 0} (L : Lookahead N T) (e : Expression N) : Type 0 where
  pub rules : NextDecides L
  pub here : next_decides L e ≡ true
