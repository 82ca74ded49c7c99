-- What the expression derives is read, and no text of it goes on at a fault.
use Rattle.std.proofs.Common.{◌≡◌, ℕ, ◌≤◌, Bool, true, false, cond, List, [], ◌∷◌, ◌++◌, length, refl, sym, ap, ◌∙◌, arith, ◌⊎◌, inl, inr, append_assoc, length-append}
use Rattle.std.proofs.lemmas.Bool.{and_parts, and_from, not-true}
use Rattle.grammar.specs.Grammar.{Expression, Empty, One, Then, Or, Many, Rule, Tree, Nil, Leaf, Pair, Left, Right, Node, has, leaves, is_tree}
use Rattle.grammar.specs.Lookahead.{Lookahead, first, last, nullable, disjoint, next_decides, NextDecides, RuleDecides}
use Rattle.grammar.specs.Reading.{Answer, Got, Stuck, OutOfTurns, and_then, map_got, begins, turn}
use Rattle.grammar.proofs.Sets.{begins_parts, begins_left, begins_right, disjoint_begins, subset_begins, subset_not}
use Rattle.grammar.proofs.Sound.{Says, turn_says}

nil_cons : {T : Type 0} (t : T) (w u : List T) → [] ≡ w ++ t ∷ u → ⊥
nil_cons t [] u e = cc
nil_cons t (c ∷ w) u e = cc

-- where a cell of two joined lists stands
split : {T : Type 0} (xs ys w : List T) (t : T) (u : List T) → xs ++ ys ≡ w ++ t ∷ u → ((v : List T) × (xs ≡ w ++ t ∷ v)) ⊎ ((v : List T) × (w ≡ xs ++ v) × (ys ≡ v ++ t ∷ u))
split [] ys w t u e = inr (w, refl, e)
split (x ∷ xs) ys [] t u e = inl (xs, let h : x ≡ t = cc in ap (λ c. c ∷ xs) h)
split (x ∷ xs) ys (c ∷ w) t u e =
    let h : x ≡ c = cc in
    let r : xs ++ ys ≡ w ++ t ∷ u = cc in
    elim (split xs ys w t u r) [
      | inl p ↦ inl (p.0, rw h (ap (λ z. c ∷ z) p.1))
      | inr p ↦ inr (p.0, rw h (ap (λ z. c ∷ z) p.1), p.2)
    ]

module _ {T : Type 0} (class : T → ℕ) where
  begins_same : (cs : List ℕ) (w : List T) (t : T) (u v r : List T) → begins class cs ((w ++ t ∷ u) ++ v) ≡ begins class cs (w ++ t ∷ r)
  begins_same cs [] t u v r = refl
  begins_same cs (c ∷ w) t u v r = refl

  begins_cond : (b : Bool) (xs ys : List ℕ) (ts : List T) → begins class xs ts ≡ true → begins class (cond b (xs ++ ys) xs) ts ≡ true
  begins_cond true xs ys ts h = begins_left class xs ys ts h
  begins_cond false xs ys ts h = h

  -- what goes on a sequence goes on its second part
  free_second : (b : Bool) (xs ys zs : List ℕ) (ts : List T) → begins class (cond b (xs ++ (ys ++ zs)) zs) ts ≡ false → begins class zs ts ≡ false
  free_second true xs ys zs ts h = (begins_parts class ys zs ts (begins_parts class xs (ys ++ zs) ts h).1).1
  free_second false xs ys zs ts h = h

-- at most n tokens are left
abbrev pub Past : {V T : Type 0} → ℕ → Answer V T → Type 0
Past n (Got x s) = length s ≤ n
Past n (Stuck s) = length s ≤ n
Past n OutOfTurns = Unit {0}

map_past : {U V T : Type 0} (n : ℕ) (f : U → V) (A : Answer U T) → Past n A → Past n (map_got f A)
map_past n f (Got x s) h = h
map_past n f (Stuck s) h = h
map_past n f OutOfTurns h = tt

past_more : {V T : Type 0} (m n : ℕ) (A : Answer V T) → m ≤ n → Past m A → Past n A
past_more m n (Got x s) le h = omega arith
past_more m n (Stuck s) le h = omega arith
past_more m n OutOfTurns le h = tt

pair_past : {T : Type 0} (n : ℕ) (x : Tree T) (A : Answer (Tree T) T) → Past n A → Past n (and_then A (λ y s. Got (Pair x y) s))
pair_past n x (Got y s) h = h
pair_past n x (Stuck s) h = h
pair_past n x OutOfTurns h = tt

then_past : {T : Type 0} (n : ℕ) (A : Answer (Tree T) T) (B : List T → Answer (Tree T) T) → Past n A → ((s : List T) → Past (length s) (B s)) → Past n (and_then A (λ x r. and_then (B r) (λ y s. Got (Pair x y) s)))
then_past n (Got x r) B h k = past_more (length r) n (and_then (B r) (λ y s. Got (Pair x y) s)) h (pair_past (length r) x (B r) (k r))
then_past n (Stuck r) B h k = h
then_past n OutOfTurns B h k = tt

module _ {N T : Type 0} (L : Lookahead N T) where
  pub says_past : (g : Expression N) (ts : List T) (A : Answer (Tree T) T) → Says L g ts A → Past (length ts) A
  says_past g ts (Got x s) h = omega (arith, ap length h.parts, length-append (leaves x) s)
  says_past g ts (Stuck s) h = omega (arith, ap length h.parts, length-append h.before s)
  says_past g ts OutOfTurns h = tt

  abbrev pub Heads : Expression N → Tree T → Type 0
  Heads g x = ((leaves x ≡ []) × (nullable g ≡ true)) ⊎ ((r : List T) → begins L.grammar.class (first L.firsts g) (leaves x ++ r) ≡ true)

  then_heads : (a b : Expression N) (x y : Tree T) → Heads a x → Heads b y → Heads (Then a b) (Pair x y)
  then_heads a b x y (inl p) (inl q) = inl (ap (λ (w : List T). w ++ leaves y) p.0 ∙ q.0, and_from _ _ p.1 q.1)
  then_heads a b x y (inl p) (inr q) = inr (λ r. rw (p.1, p.0) (begins_right L.grammar.class (first L.firsts a) (first L.firsts b) (leaves y ++ r) (q r)))
  then_heads a b x y (inr p) _ = inr (λ r. rw (append_assoc (leaves x) (leaves y) r) (begins_cond L.grammar.class (nullable a) (first L.firsts a) (first L.firsts b) (leaves x ++ (leaves y ++ r)) (p (leaves y ++ r))))

  many_heads : (a : Expression N) (x y : Tree T) → nullable a ≡ false → Heads a x → Heads (Many a) (Pair x y)
  many_heads a x y h (inl p) = absurd cc
  many_heads a x y h (inr p) = inr (λ r. rw (append_assoc (leaves x) (leaves y) r) (p (leaves y ++ r)))

  left_heads : (a b : Expression N) (x : Tree T) → nullable a ≡ false → Heads a x → Heads (Or a b) (Left x)
  left_heads a b x h (inl p) = absurd cc
  left_heads a b x h (inr p) = inr (λ r. begins_left L.grammar.class (first L.firsts a) (first L.firsts b) (leaves x ++ r) (p r))

  right_heads : (a b : Expression N) (x : Tree T) → Heads b x → Heads (Or a b) (Right x)
  right_heads a b x (inl p) = inl (p.0, grind (arith, p.1))
  right_heads a b x (inr p) = inr (λ r. begins_right L.grammar.class (first L.firsts a) (first L.firsts b) (leaves x ++ r) (p r))

  node_heads : (n : N) → RuleDecides L n → (x : Tree T) → Heads (L.grammar.rule n) x → Heads (Rule n) (Node x)
  node_heads n checked x (inl p) = absurd (let e = checked.full in cc)
  node_heads n checked x (inr p) = inr (λ r. subset_begins L.grammar.class (first L.firsts (L.grammar.rule n)) (L.firsts n) (leaves x ++ r) checked.begins_so (p r))

  pub heads : NextDecides L → (x : Tree T) (g : Expression N) → next_decides L g ≡ true → is_tree L.grammar x g ≡ true → Heads g x
  heads checked Nil Empty f h = inl (refl, refl)
  heads checked Nil (Many a) f h = inl (refl, refl)
  heads checked (Leaf t) (One cs) f h = inr (λ r. h)
  heads checked (Pair x y) (Then a b) f h =
      let p = and_parts _ _ h in
      let f1 = and_parts _ _ f in
      then_heads a b x y (heads checked x a f1.0 p.0) (heads checked y b (and_parts _ _ f1.1).0 p.1)
  heads checked (Pair x y) (Many a) f h =
      let p = and_parts _ _ h in
      let f1 = and_parts _ _ f in
      let f2 = and_parts _ _ f1.1 in
      many_heads a x y (not-true _ (and_parts _ _ f2.1).0) (heads checked x a f1.0 p.0)
  heads checked (Left x) (Or a b) f h =
      let f1 = and_parts _ _ f in
      let f2 = and_parts _ _ f1.1 in
      left_heads a b x (not-true _ (and_parts _ _ f2.1).1) (heads checked x a f1.0 h)
  heads checked (Right x) (Or a b) f h =
      let f1 = and_parts _ _ f in
      let f2 = and_parts _ _ f1.1 in
      right_heads a b x (heads checked x b f2.0 h)
  heads checked (Node x) (Rule n) f h = node_heads n (checked n) x (heads checked x (L.grammar.rule n) (checked n).decides h)
  heads checked _ _ f h = absurd cc

  -- ---- a function that reads as turn says

  module _ (checked : NextDecides L) (read : Expression N → List T → Answer (Tree T) T)
      (reads_rule : (n : N) (ts : List T) → read (Rule n) ts ≡ map_got Node (turn L.grammar.class L.firsts read (L.grammar.rule n) ts))
      (reads_many : (a : Expression N) → next_decides L (Many a) ≡ true → (ts : List T) → read (Many a) ts ≡ turn L.grammar.class L.firsts read (Many a) ts) where
    abbrev pub once : Expression N → List T → Answer (Tree T) T
    once g ts = turn L.grammar.class L.firsts read g ts

    -- no class that may go on a text of the expression comes next
    abbrev pub Ends : Expression N → List T → Type 0
    Ends g r = begins L.grammar.class (last L.firsts L.lasts g) r ≡ false

    then_ends : (a b : Expression N) (y : Tree T) (r : List T) → disjoint (last L.firsts L.lasts a) (first L.firsts b) ≡ true → Ends (Then a b) r → Heads b y → Ends a (leaves y ++ r)
    then_ends a b y r far free (inr q) = disjoint_begins L.grammar.class (last L.firsts L.lasts a) (first L.firsts b) (leaves y ++ r) far (q r)
    then_ends a b y r far free (inl p) =
        let free' : begins L.grammar.class (cond true (last L.firsts L.lasts a ++ (first L.firsts b ++ last L.firsts L.lasts b)) (last L.firsts L.lasts b)) r ≡ false = rw p.1 at free in
        rw p.0 (begins_parts L.grammar.class (last L.firsts L.lasts a) (first L.firsts b ++ last L.firsts L.lasts b) r free').0

    many_ends : (a : Expression N) (y : Tree T) (r : List T) → disjoint (last L.firsts L.lasts a) (first L.firsts a) ≡ true → Ends (Many a) r → Heads (Many a) y → Ends a (leaves y ++ r)
    many_ends a y r far free (inr q) = disjoint_begins L.grammar.class (last L.firsts L.lasts a) (first L.firsts a) (leaves y ++ r) far (q r)
    many_ends a y r far free (inl p) = rw p.0 (begins_parts L.grammar.class (first L.firsts a) (last L.firsts L.lasts a) r free).1

    right_starts : (a b : Expression N) (y : Tree T) (r : List T) → disjoint (first L.firsts a) (first L.firsts b) ≡ true → Ends (Or a b) r → Heads b y → begins L.grammar.class (first L.firsts a) (leaves y ++ r) ≡ false
    right_starts a b y r far free (inr q) = disjoint_begins L.grammar.class (first L.firsts a) (first L.firsts b) (leaves y ++ r) far (q r)
    right_starts a b y r far free (inl p) =
        let free' : begins L.grammar.class ((last L.firsts L.lasts a ++ last L.firsts L.lasts b) ++ cond true (first L.firsts a ++ first L.firsts b) []) r ≡ false = rw p.1 at free in
        rw p.0 (begins_parts L.grammar.class (first L.firsts a) (first L.firsts b) r (begins_parts L.grammar.class (last L.firsts L.lasts a ++ last L.firsts L.lasts b) (first L.firsts a ++ first L.firsts b) r free').1).0

    starts : (a : Expression N) (x : Tree T) (r : List T) → nullable a ≡ false → Heads a x → begins L.grammar.class (first L.firsts a) (leaves x ++ r) ≡ true
    starts a x r h (inl p) = absurd cc
    starts a x r h (inr p) = p r

    pub complete : (x : Tree T) (g : Expression N) → next_decides L g ≡ true → is_tree L.grammar x g ≡ true → (r : List T) → Ends g r → once g (leaves x ++ r) ≡ Got x r
    complete Nil Empty f h r free = refl
    complete Nil (Many a) f h r free = rw (begins_parts L.grammar.class (first L.firsts a) (last L.firsts L.lasts a) r free).0 refl
    complete (Leaf t) (One cs) f h r free = rw h refl
    complete (Pair x y) (Then a b) f h r free =
        let p = and_parts _ _ h in
        let f1 = and_parts _ _ f in
        let f2 = and_parts _ _ f1.1 in
        let e1 = complete x a f1.0 p.0 (leaves y ++ r) (then_ends a b y r f2.1 free (heads checked y b f2.0 p.1)) in
        let e2 = complete y b f2.0 p.1 r (free_second L.grammar.class (nullable b) (last L.firsts L.lasts a) (first L.firsts b) (last L.firsts L.lasts b) r free) in
        rw (append_assoc (leaves x) (leaves y) r, e1) (rw e2 refl)
    complete (Pair x y) (Many a) f h r free =
        let p = and_parts _ _ h in
        let f1 = and_parts _ _ f in
        let f2 = and_parts _ _ f1.1 in
        let full = not-true _ (and_parts _ _ f2.1).0 in
        let e1 = complete x a f1.0 p.0 (leaves y ++ r) (many_ends a y r f2.0 free (heads checked y (Many a) f p.1)) in
        let e2 = reads_many a f (leaves y ++ r) ∙ complete y (Many a) f p.1 r free in
        rw (append_assoc (leaves x) (leaves y) r, starts a x (leaves y ++ r) full (heads checked x a f1.0 p.0), e1) (rw e2 refl)
    complete (Left x) (Or a b) f h r free =
        let f1 = and_parts _ _ f in
        let f2 = and_parts _ _ f1.1 in
        let f3 = and_parts _ _ f2.1 in
        let e = complete x a f1.0 h r (begins_parts L.grammar.class (last L.firsts L.lasts a) (last L.firsts L.lasts b) r (begins_parts L.grammar.class (last L.firsts L.lasts a ++ last L.firsts L.lasts b) (cond (nullable b) (first L.firsts a ++ first L.firsts b) []) r free).0).0 in
        rw (starts a x r (not-true _ f3.1) (heads checked x a f1.0 h), e) refl
    complete (Right x) (Or a b) f h r free =
        let f1 = and_parts _ _ f in
        let f2 = and_parts _ _ f1.1 in
        let f3 = and_parts _ _ f2.1 in
        let e = complete x b f2.0 h r (begins_parts L.grammar.class (last L.firsts L.lasts a) (last L.firsts L.lasts b) r (begins_parts L.grammar.class (last L.firsts L.lasts a ++ last L.firsts L.lasts b) (cond (nullable b) (first L.firsts a ++ first L.firsts b) []) r free).0).1 in
        rw (right_starts a b x r f3.0 free (heads checked x b f2.0 h), e) refl
    complete (Node x) (Rule n) f h r free =
        let e = complete x (L.grammar.rule n) (checked n).decides h r (subset_not L.grammar.class (last L.firsts L.lasts (L.grammar.rule n)) (L.lasts n) r (checked n).goes_on_so free) in
        reads_rule n (leaves x ++ r) ∙ ap (map_got Node) e
    complete _ _ f h r free = absurd cc

    module _ (says : (g : Expression N) → next_decides L g ≡ true → (ts : List T) → Says L g ts (read g ts)) where
      later : (g : Expression N) → next_decides L g ≡ true → (s : List T) → Past (length s) (once g s)
      later g f s = says_past g s (once g s) (turn_says L checked read says g f s)

      starts_at : (a : Expression N) (x : Tree T) (w : List T) (t : T) (u r : List T) → nullable a ≡ false → leaves x ≡ w ++ t ∷ u → Heads a x → begins L.grammar.class (first L.firsts a) (w ++ t ∷ r) ≡ true
      starts_at a x w t u r full e h =
          let b : begins L.grammar.class (first L.firsts a) (leaves x ++ []) ≡ true = starts a x [] full h in
          let c : begins L.grammar.class (first L.firsts a) ((w ++ t ∷ u) ++ []) ≡ true = rw e at b in
          sym (begins_same L.grammar.class (first L.firsts a) w t u [] r) ∙ c

      -- the same where the tree has a token, so that it does not matter whether the expression is nullable
      heads_at : (a : Expression N) (x : Tree T) (w : List T) (t : T) (u r : List T) → leaves x ≡ w ++ t ∷ u → Heads a x → begins L.grammar.class (first L.firsts a) (w ++ t ∷ r) ≡ true
      heads_at a x w t u r e (inl p) = absurd (nil_cons t w u (sym p.0 ∙ e))
      heads_at a x w t u r e (inr q) =
          let c : begins L.grammar.class (first L.firsts a) ((w ++ t ∷ u) ++ []) ≡ true = rw e at q [] in
          sym (begins_same L.grammar.class (first L.firsts a) w t u [] r) ∙ c

      second_beyond : (a b : Expression N) (x : Tree T) (w v : List T) (t : T) (r : List T) → w ≡ leaves x ++ v → once a (leaves x ++ (v ++ t ∷ r)) ≡ Got x (v ++ t ∷ r) → (B : List T → Answer (Tree T) T) → Past (length r) (B (v ++ t ∷ r)) → Past (length r) (and_then (once a (w ++ t ∷ r)) (λ x r. and_then (B r) (λ y s. Got (Pair x y) s)))
      second_beyond a b x w v t r e c B h =
          rw (e, append_assoc (leaves x) v (t ∷ r), c) (pair_past (length r) x (B (v ++ t ∷ r)) h)

      pub beyond : (x : Tree T) (g : Expression N) → next_decides L g ≡ true → is_tree L.grammar x g ≡ true → (w : List T) (t : T) (u r : List T) → leaves x ≡ w ++ t ∷ u → Past (length r) (once g (w ++ t ∷ r))
      beyond Nil g f h w t u r e = absurd (nil_cons t w u e)
      beyond (Leaf c) (One cs) f h [] t u r e =
          let same_cell : c ≡ t = cc in
          let hit : has cs (L.grammar.class t) ≡ true = rw same_cell at h in
          rw hit (omega arith)
      beyond (Leaf c) (One cs) f h (d ∷ w) t u r e = absurd (let rest : [] ≡ w ++ t ∷ u = cc in nil_cons t w u rest)
      beyond (Pair x y) (Then a b) f h w t u r e =
          let p = and_parts _ _ h in
          let f1 = and_parts _ _ f in
          let f2 = and_parts _ _ f1.1 in
          elim (split (leaves x) (leaves y) w t u e) [
            | inl q ↦ then_past (length r) (once a (w ++ t ∷ r)) (once b) (beyond x a f1.0 p.0 w t q.0 r q.1) (λ s. later b f2.0 s)
            | inr q ↦
                let c = complete x a f1.0 p.0 (q.0 ++ t ∷ r) (disjoint_begins L.grammar.class (last L.firsts L.lasts a) (first L.firsts b) (q.0 ++ t ∷ r) f2.1 (heads_at b y q.0 t u r q.2 (heads checked y b f2.0 p.1))) in
                second_beyond a b x w q.0 t r q.1 c (once b) (beyond y b f2.0 p.1 q.0 t u r q.2)
          ]
      beyond (Pair x y) (Many a) f h w t u r e =
          let p = and_parts _ _ h in
          let f1 = and_parts _ _ f in
          let f2 = and_parts _ _ f1.1 in
          let full = not-true _ (and_parts _ _ f2.1).0 in
          let A = and_then (once a (w ++ t ∷ r)) (λ x s. and_then (read (Many a) s) (λ y z. Got (Pair x y) z)) in
          elim (split (leaves x) (leaves y) w t u e) [
            | inl q ↦
                rw (starts_at a x w t q.0 r full q.1 (heads checked x a f1.0 p.0))
                (then_past (length r) (once a (w ++ t ∷ r)) (read (Many a)) (beyond x a f1.0 p.0 w t q.0 r q.1) (λ s. says_past (Many a) s (read (Many a) s) (says (Many a) f s)))
            | inr q ↦
                let c = complete x a f1.0 p.0 (q.0 ++ t ∷ r) (disjoint_begins L.grammar.class (last L.firsts L.lasts a) (first L.firsts a) (q.0 ++ t ∷ r) f2.0 (heads_at (Many a) y q.0 t u r q.2 (heads checked y (Many a) f p.1))) in
                let begun : begins L.grammar.class (first L.firsts a) (w ++ t ∷ r) ≡ true = rw (q.1, append_assoc (leaves x) q.0 (t ∷ r)) (starts a x (q.0 ++ t ∷ r) full (heads checked x a f1.0 p.0)) in
                let on : Past (length r) (read (Many a) (q.0 ++ t ∷ r)) = rw (reads_many a f (q.0 ++ t ∷ r)) (beyond y (Many a) f p.1 q.0 t u r q.2) in
                rw begun (second_beyond a (Many a) x w q.0 t r q.1 c (read (Many a)) on)
          ]
      beyond (Left x) (Or a b) f h w t u r e =
          let f1 = and_parts _ _ f in
          rw (heads_at a x w t u r e (heads checked x a f1.0 h)) (map_past (length r) Left (once a (w ++ t ∷ r)) (beyond x a f1.0 h w t u r e))
      beyond (Right x) (Or a b) f h w t u r e =
          let f1 = and_parts _ _ f in
          let f2 = and_parts _ _ f1.1 in
          let f3 = and_parts _ _ f2.1 in
          rw (disjoint_begins L.grammar.class (first L.firsts a) (first L.firsts b) (w ++ t ∷ r) f3.0 (heads_at b x w t u r e (heads checked x b f2.0 h))) (map_past (length r) Right (once b (w ++ t ∷ r)) (beyond x b f2.0 h w t u r e))
      beyond (Node x) (Rule n) f h w t u r e =
          rw (reads_rule n (w ++ t ∷ r)) (map_past (length r) Node (once (L.grammar.rule n) (w ++ t ∷ r)) (beyond x (L.grammar.rule n) (checked n).decides h w t u r e))
      beyond _ _ f h w t u r e = absurd cc
