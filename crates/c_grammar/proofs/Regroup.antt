-- Regrouping trees keeps what they spell, and two regroupings are each other's inverse, where that is so at each rule.
use Rattle.std.proofs.Common.{◌≡◌, ℕ, true, List, ◌++◌, refl, ap, ◌∙◌}
use Rattle.std.proofs.lemmas.Bool.{and_parts, and_from}
use Rattle.grammar.specs.Grammar.{Expression, Grammar, Empty, One, Then, Or, Many, Rule, Tree, Nil, Leaf, Pair, Left, Right, Node, is_tree, leaves, Derives}
use Rattle.c_grammar.specs.Regrouping.{renamed, regrouped}

-- The grammar of these rules over tokens of these classes.
abbrev pub of_rules : {N T : Type 0} → (T → ℕ) → (N → Expression N) → Grammar N T
of_rules class rule = record { class = class; rule = rule }

-- At this rule regrouping gives a tree of the image with the same leaves.
abbrev pub Keeps : {N M T : Type 0} → (T → ℕ) → (N → Expression N) → (M → Expression M) → (N → Expression M) → (N → Tree T → Tree T) → N → Type 0
Keeps {N} {M} {T} class from to image regroup n = (t : Tree T) → is_tree (of_rules class to) t (renamed image (from n)) ≡ true → Derives (of_rules class to) (image n) (regroup n t) (leaves t)

-- At this rule regrouping back what was regrouped regroups the parts.
abbrev pub Joins : {N M T : Type 0} → (T → ℕ) → (N → Expression N) → (M → Expression M) → (N → Expression M) → (N → Tree T → Tree T) → (M → Tree T → Tree T) → N → Type 0
Joins {N} {M} {T} class from to image regroup back n = (t : Tree T) → is_tree (of_rules class to) t (renamed image (from n)) ≡ true → regrouped to back (image n) (regroup n t) ≡ Node (regrouped to back (renamed image (from n)) t)

module _ {N M T : Type 0} (class : T → ℕ) (from : N → Expression N) (to : M → Expression M) (image : N → Expression M) (regroup : N → Tree T → Tree T) (keeps : (n : N) → Keeps class from to image regroup n) where
  both : (x y v w : List T) → x ≡ v → y ≡ w → x ++ y ≡ v ++ w
  both x y v w p q = rw (p, q) refl

  -- the tree goes into one of the renamed expression, with the same leaves
  pub kept : (x : Tree T) (e : Expression N) → is_tree (of_rules class from) x e ≡ true → Derives (of_rules class to) (renamed image e) (regrouped from regroup e x) (leaves x)
  kept Nil Empty h = record { follows = refl; spells = refl }
  kept Nil (Many a) h = record { follows = refl; spells = refl }
  kept (Leaf t) (One cs) h = record { follows = h; spells = refl }
  kept (Pair x y) (Then a b) h =
      let p = and_parts _ _ h in
      let l = kept x a p.0 in
      let r = kept y b p.1 in
      record { follows = and_from _ _ l.follows r.follows; spells = both _ _ _ _ l.spells r.spells }
  kept (Pair x y) (Many a) h =
      let p = and_parts _ _ h in
      let l = kept x a p.0 in
      let r = kept y (Many a) p.1 in
      record { follows = and_from _ _ l.follows r.follows; spells = both _ _ _ _ l.spells r.spells }
  kept (Left x) (Or a b) h = let l = kept x a h in record { follows = l.follows; spells = l.spells }
  kept (Right y) (Or a b) h = let r = kept y b h in record { follows = r.follows; spells = r.spells }
  kept (Node x) (Rule n) h =
      let p = kept x (from n) h in
      let q = keeps n (regrouped from regroup (from n) x) p.follows in
      record { follows = q.follows; spells = q.spells ∙ p.spells }
  kept _ _ h = absurd cc

  module _ (back : M → Tree T → Tree T) (joins : (n : N) → Joins class from to image regroup back n) where
    -- regrouped there and back it is the same tree
    pub returns : (x : Tree T) (e : Expression N) → is_tree (of_rules class from) x e ≡ true → regrouped to back (renamed image e) (regrouped from regroup e x) ≡ x
    returns Nil Empty h = refl
    returns Nil (Many a) h = refl
    returns (Leaf t) (One cs) h = refl
    returns (Pair x y) (Then a b) h = let p = and_parts _ _ h in rw (returns x a p.0, returns y b p.1) refl
    returns (Pair x y) (Many a) h = let p = and_parts _ _ h in rw (returns x a p.0, returns y (Many a) p.1) refl
    returns (Left x) (Or a b) h = ap Left (returns x a h)
    returns (Right y) (Or a b) h = ap Right (returns y b h)
    returns (Node x) (Rule n) h = joins n (regrouped from regroup (from n) x) (kept x (from n) h).follows ∙ ap Node (returns x (from n) h)
    returns _ _ h = absurd cc
