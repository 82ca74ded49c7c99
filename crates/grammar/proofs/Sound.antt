-- What was read follows the expression, and what came before a fault begins a text of it.
use Rattle.std.proofs.Common.{◌≡◌, ℕ, zero, suc, Bool, true, false, cond, List, [], ◌∷◌, ◌++◌, refl, sym, ap, ◌∙◌, append_assoc}
use Rattle.std.proofs.lemmas.Bool.{and_parts, and_from}
use Rattle.grammar.specs.Grammar.{Expression, Empty, One, Then, Or, Many, Rule, Tree, Nil, Leaf, Pair, Left, Right, Node, has, leaves, is_tree}
use Rattle.grammar.specs.Lookahead.{Lookahead, first, next_decides, NextDecides}
use Rattle.grammar.specs.Reading.{Answer, Got, Stuck, OutOfTurns, and_then, map_got, begins, one, turn, turns}

module _ {N T : Type 0} (L : Lookahead N T) where
  -- The tokens before the rest begin a text of the expression.
  pub record Begun (g : Expression N) (ts rest : List T) : Type 0 where
    pub built : Tree T
    pub fits : is_tree L.grammar built g ≡ true
    pub before : List T
    pub more : List T
    pub parts : ts ≡ before ++ rest
    pub text : leaves built ≡ before ++ more

  -- The tree follows the expression and spells the tokens before the rest.
  pub record Taken (g : Expression N) (ts : List T) (x : Tree T) (rest : List T) : Type 0 where
    pub fits : is_tree L.grammar x g ≡ true
    pub parts : ts ≡ leaves x ++ rest

  -- What an answer says of the tokens that were read.
  abbrev pub Says : Expression N → List T → Answer (Tree T) T → Type 0
  Says g ts (Got x rest) = Taken g ts x rest
  Says g ts (Stuck rest) = Begun g ts rest
  Says g ts OutOfTurns = Unit {0}

  -- The expression has a tree.
  abbrev pub Filled : Expression N → Type 0
  Filled g = (x : Tree T) × (is_tree L.grammar x g ≡ true)

  -- ---- what stands after another

  second_says : (a b : Expression N) (ts : List T) (x : Tree T) (r : List T) → Taken a ts x r → (A : Answer (Tree T) T) → Says b r A → Says (Then a b) ts (and_then A (λ y s. Got (Pair x y) s))
  second_says a b ts x r h (Got y s) q = record { fits = and_from _ _ h.fits q.fits; parts = h.parts ∙ ap (λ (w : List T). leaves x ++ w) q.parts ∙ sym (append_assoc (leaves x) (leaves y) s) }
  second_says a b ts x r h (Stuck s) q = record {
    built = Pair x q.built;
    fits = and_from _ _ h.fits q.fits;
    before = leaves x ++ q.before;
    more = q.more;
    parts = h.parts ∙ ap (λ (w : List T). leaves x ++ w) q.parts ∙ sym (append_assoc (leaves x) q.before s);
    text = ap (λ (w : List T). leaves x ++ w) q.text ∙ sym (append_assoc (leaves x) q.before q.more);
  }
  second_says a b ts x r h OutOfTurns q = tt

  then_says : (a b : Expression N) (ts : List T) (A : Answer (Tree T) T) (B : List T → Answer (Tree T) T) → Says a ts A → ((r : List T) → Says b r (B r)) → Filled b → Says (Then a b) ts (and_then A (λ x r. and_then (B r) (λ y s. Got (Pair x y) s)))
  then_says a b ts (Got x r) B h k s = second_says a b ts x r h (B r) (k r)
  then_says a b ts (Stuck r) B h k s = record {
    built = Pair h.built s.0;
    fits = and_from _ _ h.fits s.1;
    before = h.before;
    more = h.more ++ leaves s.0;
    parts = h.parts;
    text = ap (λ (w : List T). w ++ leaves s.0) h.text ∙ append_assoc h.before h.more (leaves s.0);
  }
  then_says a b ts OutOfTurns B h k s = tt

  -- the same at another expression that has these trees
  says_at : (g k : Expression N) (f : Tree T → Tree T) → ((x : Tree T) → is_tree L.grammar x g ≡ true → is_tree L.grammar (f x) k ≡ true) → ((x : Tree T) → leaves (f x) ≡ leaves x) → (ts : List T) (A : Answer (Tree T) T) → Says g ts A → Says k ts (map_got f A)
  says_at g k f fits text ts (Got x r) h = record { fits = fits x h.fits; parts = h.parts ∙ ap (λ (w : List T). w ++ r) (sym (text x)) }
  says_at g k f fits text ts (Stuck r) h = record { built = f h.built; fits = fits h.built h.fits; before = h.before; more = h.more; parts = h.parts; text = text h.built ∙ h.text }
  says_at g k f fits text ts OutOfTurns h = tt

  cond_says : (g : Expression N) (ts : List T) (b : Bool) (A B : Answer (Tree T) T) → Says g ts A → Says g ts B → Says g ts (cond b A B)
  cond_says g ts true A B h k = h
  cond_says g ts false A B h k = k

  many_more : (a : Expression N) (x : Tree T) → is_tree L.grammar x (Then a (Many a)) ≡ true → is_tree L.grammar x (Many a) ≡ true
  many_more a (Pair x y) h = h
  many_more a _ h = absurd cc

  map_same : (A : Answer (Tree T) T) → map_got (λ x. x) A ≡ A
  map_same (Got x r) = refl
  map_same (Stuck r) = refl
  map_same OutOfTurns = refl

  pub filled : NextDecides L → (g : Expression N) → next_decides L g ≡ true → Filled g
  filled checked Empty h = (Nil, refl)
  filled checked (One []) h = absurd cc
  filled checked (One (c ∷ cs)) h = (Leaf (L.token c), h)
  filled checked (Then a b) h =
      let p = and_parts _ _ h in
      let q = and_parts _ _ p.1 in
      let x = filled checked a p.0 in
      let y = filled checked b q.0 in
      (Pair x.0 y.0, and_from _ _ x.1 y.1)
  filled checked (Or a b) h =
      let x = filled checked a (and_parts _ _ h).0 in
      (Left x.0, x.1)
  filled checked (Many a) h = (Nil, refl)
  filled checked (Rule n) h = (Node (L.sample n), (checked n).sampled)

  one_says : (cs : List ℕ) → Filled (One cs) → (ts : List T) → Says (One cs) ts (one L.grammar.class cs ts)
  one_says cs s [] = record { built = s.0; fits = s.1; before = []; more = leaves s.0; parts = refl; text = refl }
  one_says cs s (t ∷ ts) = go (has cs (L.grammar.class t)) refl
    where
      go : (b : Bool) → has cs (L.grammar.class t) ≡ b → Says (One cs) (t ∷ ts) (cond b (Got (Leaf t) ts) (Stuck (t ∷ ts)))
      go true e = record { fits = e; parts = refl }
      go false e = record { built = s.0; fits = s.1; before = []; more = leaves s.0; parts = refl; text = refl }

  pub turn_says : NextDecides L → (again : Expression N → List T → Answer (Tree T) T) → ((g : Expression N) → next_decides L g ≡ true → (ts : List T) → Says g ts (again g ts)) → (g : Expression N) → next_decides L g ≡ true → (ts : List T) → Says g ts (turn L.grammar.class L.firsts again g ts)
  turn_says checked again k Empty h ts = record { fits = refl; parts = refl }
  turn_says checked again k (One cs) h ts = one_says cs (filled checked (One cs) h) ts
  turn_says checked again k (Then a b) h ts =
      let p = and_parts _ _ h in
      let q = and_parts _ _ p.1 in
      then_says a b ts (turn L.grammar.class L.firsts again a ts) (turn L.grammar.class L.firsts again b) (turn_says checked again k a p.0 ts) (λ r. turn_says checked again k b q.0 r) (filled checked b q.0)
  turn_says checked again k (Or a b) h ts =
      let p = and_parts _ _ h in
      let q = and_parts _ _ p.1 in
      cond_says (Or a b) ts _ _ _
      (says_at a (Or a b) Left (λ x f. f) (λ x. refl) ts (turn L.grammar.class L.firsts again a ts) (turn_says checked again k a p.0 ts))
      (says_at b (Or a b) Right (λ x f. f) (λ x. refl) ts (turn L.grammar.class L.firsts again b ts) (turn_says checked again k b q.0 ts))
  turn_says checked again k (Many a) h ts =
      let p = and_parts _ _ h in
      let A = and_then (turn L.grammar.class L.firsts again a ts) (λ x r. and_then (again (Many a) r) (λ y s. Got (Pair x y) s)) in
      let both : Says (Then a (Many a)) ts A = then_says a (Many a) ts (turn L.grammar.class L.firsts again a ts) (again (Many a)) (turn_says checked again k a p.0 ts) (λ r. k (Many a) h r) (filled checked (Many a) h) in
      let more : Says (Many a) ts A = rw (← map_same A) (says_at (Then a (Many a)) (Many a) (λ x. x) (many_more a) (λ x. refl) ts A both) in
      cond_says (Many a) ts (begins L.grammar.class (first L.firsts a) ts) A (Got Nil ts) more (record { fits = refl; parts = refl })
  turn_says checked again k (Rule n) h ts = k (Rule n) h ts

  pub turns_says : NextDecides L → (f : ℕ) (g : Expression N) → next_decides L g ≡ true → (ts : List T) → Says g ts (turns L f g ts)
  turns_says checked zero g h ts = tt
  turns_says checked (suc f) (Rule n) h ts = says_at (L.grammar.rule n) (Rule n) Node (λ x e. e) (λ x. refl) ts (turn L.grammar.class L.firsts (turns L f) (L.grammar.rule n) ts) (turn_says checked (turns L f) (turns_says checked f) (L.grammar.rule n) (checked n).decides ts)
  turns_says checked (suc f) g h ts = turn_says checked (turns L f) (turns_says checked f) g h ts
