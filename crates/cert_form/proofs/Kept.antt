-- Reading one part after another where not all of a value is kept.
use Rattle.std.proofs.Common.{◌≡◌, ℕ, suc, ◌+◌, ◌-◌, ◌<◌, ◌≤◌, List, [], ◌∷◌, ◌++◌, Option, refl, sym, ap, ◌∙◌, arith}
use Rattle.format.specs.Format.{Answer, Got, Stuck, Format, and_then, mapped, pair, ended, times, nothing, map_got}
use Rattle.format.proofs.Exact.{map_got_of, map_got_stuck}
use Rattle.cert_form.specs.Words.{Token, word, words, behind}
use Rattle.cert_form.specs.Parts.{passed}
use Rattle.cert_form.proofs.Readers.{times_unrolled}

pub map_same : {A : Type 0} (a : Answer A Token) → map_got (λ x. x) a ≡ a
map_same (Got x r) = refl
map_same (Stuck l) = refl

pub and_assoc : {A B C : Type 0} (a : Answer A Token) (f : A → List Token → Answer B Token) (g : B → List Token → Answer C Token) → and_then (and_then a f) g ≡ and_then a (λ x r. and_then (f x r) g)
and_assoc (Got x r) f g = refl
and_assoc (Stuck s) f g = refl

module _ {A B : Type 0} where
  pub and_same : (a : Answer A Token) (k l : A → List Token → Answer B Token) → ((x : A) (r : List Token) → k x r ≡ l x r) → and_then a k ≡ and_then a l
  and_same (Got x r) k l e = e x r
  and_same (Stuck s) k l e = refl

  pub kept_twice : {C : Type 0} (f : B → C) (g : A → B) (a : Answer A Token) → map_got f (map_got g a) ≡ map_got (λ x. f (g x)) a
  kept_twice f g (Got x r) = refl
  kept_twice f g (Stuck s) = refl

  -- the rest of a pair's value beside what is kept of it
  pub kept_beside : {C : Type 0} (k : A → B) (with_rest : B → C) (f : A → C) → ((x : A) → f x ≡ with_rest (k x)) → (a : Answer A Token) → map_got f a ≡ and_then (map_got k a) (λ b r. Got (with_rest b) r)
  kept_beside k with_rest f e (Got x r) = ap (λ c. Got c r) (e x)
  kept_beside k with_rest f e (Stuck s) = refl

  pub mapped_kept : {C : Type 0} (f : B → C) (to : A → B) (from : B → Option A) (F : Format A Token) (ts : List Token) → map_got f ((mapped to from F).read ts) ≡ map_got (λ x. f (to x)) (F.read ts)
  mapped_kept f to from F ts = go (F.read ts)
    where
      go : (a : Answer A Token) → map_got f (and_then a (λ x rest. Got (to x) rest)) ≡ map_got (λ x. f (to x)) a
      go (Got x r) = refl
      go (Stuck s) = refl

  -- the first of a pair is kept whole
  pub pair_second : {C : Type 0} (f : A × B → C) (F : Format A Token) (G : A → Format B Token) (ts : List Token) → map_got f ((pair F G).read ts) ≡ and_then (F.read ts) (λ x r. map_got (λ y. f (x, y)) ((G x).read r))
  pair_second f F G ts = go (F.read ts)
    where
      second : (x : A) (b : Answer B Token) → map_got f (and_then b (λ y more. Got (x, y) more)) ≡ map_got (λ y. f (x, y)) b
      second x (Got y r) = refl
      second x (Stuck s) = refl

      go : (a : Answer A Token) → map_got f (and_then a (λ x rest. and_then ((G x).read rest) (λ y more. Got (x, y) more))) ≡ and_then a (λ x r. map_got (λ y. f (x, y)) ((G x).read r))
      go (Got x r) = second x ((G x).read r)
      go (Stuck s) = refl

  -- of the first of a pair all is kept that the second depends on
  pub pair_kept : {C K : Type 0} (f : A × B → C) (g : A → K) (h : K → B → C) (F : Format A Token) (G : A → Format B Token) (H : K → Format B Token) → ((x : A) (ts : List Token) → (G x).read ts ≡ (H (g x)).read ts) → ((x : A) (y : B) → f (x, y) ≡ h (g x) y) → (ts : List Token) → map_got f ((pair F G).read ts) ≡ and_then (map_got g (F.read ts)) (λ k r. map_got (h k) ((H k).read r))
  pair_kept f g h F G H same e ts = go (F.read ts)
    where
      second : (x : A) (b : Answer B Token) → map_got f (and_then b (λ y more. Got (x, y) more)) ≡ map_got (h (g x)) b
      second x (Got y r) = ap (λ c. Got c r) (e x y)
      second x (Stuck s) = refl

      go : (a : Answer A Token) → map_got f (and_then a (λ x rest. and_then ((G x).read rest) (λ y more. Got (x, y) more))) ≡ and_then (map_got g a) (λ k r. map_got (h k) ((H k).read r))
      go (Got x r) = second x ((G x).read r) ∙ ap (map_got (h (g x))) (same x r)
      go (Stuck s) = refl

-- ---- words before and behind

module _ {A C : Type 0} (f : A → C) where
  -- a word that is read is dropped
  led_kept : {V : Type 0} (x : V) (a : Answer A Token) → map_got f (and_then (and_then a (λ y more. Got (x, y) more)) (λ (p : V × A) rest. Got p.1 rest)) ≡ map_got f a
  led_kept x (Got y r) = refl
  led_kept x (Stuck s) = refl

  led_then : {V W : Type 0} (x : V) (a : Answer W Token) (k : W → List Token → Answer C Token) → and_then (and_then (and_then a (λ y more. Got (x, y) more)) (λ (p : V × W) rest. Got p.1 rest)) k ≡ and_then a k
  led_then x (Got y r) k = refl
  led_then x (Stuck s) k = refl

  pub words_front : (ws vs : List Token) (F : Format A Token) (ts : List Token) → map_got f ((words (ws ++ vs) F).read ts) ≡ and_then ((words ws nothing).read ts) (λ _ r. map_got f ((words vs F).read r))
  words_front [] vs F ts = refl
  words_front (w ∷ ws) vs F ts = go (λ r. words_front ws vs F r) ((word w).read ts)
    where
      go : ((r : List Token) → map_got f ((words (ws ++ vs) F).read r) ≡ and_then ((words ws nothing).read r) (λ _ r. map_got f ((words vs F).read r))) → (a : Answer (Unit {0}) Token) → map_got f (and_then (and_then a (λ x rest. and_then ((words (ws ++ vs) F).read rest) (λ y more. Got (x, y) more))) (λ (p : Unit {0} × A) rest. Got p.1 rest)) ≡ and_then (and_then (and_then a (λ x rest. and_then ((words ws nothing).read rest) (λ y more. Got (x, y) more))) (λ (p : Unit {0} × Unit {0}) rest. Got p.1 rest)) (λ _ r. map_got f ((words vs F).read r))
      go ih (Got x r) = led_kept x ((words (ws ++ vs) F).read r) ∙ ih r ∙ sym (led_then x ((words ws nothing).read r) (λ _ r. map_got f ((words vs F).read r)))
      go ih (Stuck s) = refl

  pub ended_kept : (F : Format A Token) (U : Format (Unit {0}) Token) (ts : List Token) → map_got f ((ended F U).read ts) ≡ and_then (map_got f (F.read ts)) (λ y r. and_then (U.read r) (λ _ r2. Got y r2))
  ended_kept F U ts = go (F.read ts)
    where
      second : (x : A) (u : Answer (Unit {0}) Token) → map_got f (and_then (and_then u (λ y more. Got (x, y) more)) (λ (p : A × Unit {0}) rest. Got p.0 rest)) ≡ and_then u (λ _ r2. Got (f x) r2)
      second x (Got y r) = refl
      second x (Stuck s) = refl

      go : (a : Answer A Token) → map_got f (and_then (and_then a (λ x rest. and_then (U.read rest) (λ y more. Got (x, y) more))) (λ (p : A × Unit {0}) rest. Got p.0 rest)) ≡ and_then (map_got f a) (λ y r. and_then (U.read r) (λ _ r2. Got y r2))
      go (Got x r) = second x (U.read r)
      go (Stuck s) = refl

  -- one word more
  behind_step : (w : Token) (ws : List Token) (a : Answer C Token) → and_then (and_then a (λ y r. and_then ((word w).read r) (λ _ r2. Got y r2))) (λ y r. and_then ((words ws nothing).read r) (λ _ r2. Got y r2)) ≡ and_then a (λ y r. and_then ((words (w ∷ ws) nothing).read r) (λ _ r2. Got y r2))
  behind_step w ws (Got y r) = go ((word w).read r)
    where
      go : (u : Answer (Unit {0}) Token) → and_then (and_then u (λ _ r2. Got y r2)) (λ y r. and_then ((words ws nothing).read r) (λ _ r2. Got y r2)) ≡ and_then (and_then (and_then u (λ x rest. and_then ((words ws nothing).read rest) (λ z more. Got (x, z) more))) (λ (p : Unit {0} × Unit {0}) rest. Got p.1 rest)) (λ _ r2. Got y r2)
      go (Got x s) = sym (led_then x ((words ws nothing).read s) (λ _ r2. Got y r2))
      go (Stuck s) = refl
  behind_step w ws (Stuck s) = refl

  pub behind_kept : (F : Format A Token) (ws : List Token) (ts : List Token) → map_got f ((behind F ws).read ts) ≡ and_then (map_got f (F.read ts)) (λ y r. and_then ((words ws nothing).read r) (λ _ r2. Got y r2))
  behind_kept F [] ts = go (map_got f (F.read ts))
    where
      go : (a : Answer C Token) → a ≡ and_then a (λ y r. Got y r)
      go (Got y r) = refl
      go (Stuck s) = refl
  behind_kept F (w ∷ ws) ts =
      behind_kept (ended F (word w)) ws ts
      ∙ ap (λ a. and_then a (λ y r. and_then ((words ws nothing).read r) (λ _ r2. Got y r2))) (ended_kept F (word w) ts)
      ∙ behind_step w ws (map_got f (F.read ts))

-- ---- where all is kept

pub words_read : {A : Type 0} (ws : List Token) (F : Format A Token) (ts : List Token) → map_got (λ x. x) ((words (ws ++ []) F).read ts) ≡ and_then ((words ws nothing).read ts) (λ _ r. F.read r)
words_read {A} ws F ts =
    words_front {A = A} (λ x. x) ws [] F ts
    ∙ and_same ((words ws nothing).read ts) (λ _ r. map_got (λ x. x) (F.read r)) (λ _ r. F.read r) (λ _ r. map_same (F.read r))

pub behind_read : {A : Type 0} (F : Format A Token) (ws : List Token) (ts : List Token) → (behind F ws).read ts ≡ and_then (F.read ts) (λ y r. and_then ((words ws nothing).read r) (λ _ r2. Got y r2))
behind_read {A} F ws ts =
    sym (map_same ((behind F ws).read ts))
    ∙ behind_kept {A = A} (λ x. x) F ws ts
    ∙ ap (λ a. and_then a (λ y r. and_then ((words ws nothing).read r) (λ _ r2. Got y r2))) (map_same (F.read ts))

-- ---- so many, of which nothing is kept

module _ {A : Type 0} (item : ℕ → Format A Token) where
  pub passes_more : (whole : Answer (Unit {0}) Token) (i end : ℕ) (ts rest : List Token) → i < end → whole ≡ passed ((times item i (end - i)).read ts) → passed ((item i).read ts) ≡ Got tt rest → whole ≡ passed ((times item (i + 1) (end - (i + 1))).read rest)
  passes_more whole i end ts rest lt h e =
      let m : end - i ≡ suc (end - (i + 1)) = omega arith in
      let one : suc i ≡ i + 1 = omega arith in
      let x = map_got_of (λ _. tt) ((item i).read ts) tt rest e in
      h
      ∙ ap (λ (n : ℕ). passed ((times item i n).read ts)) m
      ∙ ap passed (times_unrolled item i (end - (i + 1)) ts x.0 rest x.1)
      ∙ go x.0 ((times item (suc i) (end - (i + 1))).read rest)
      ∙ ap (λ (n : ℕ). passed ((times item n (end - (i + 1))).read rest)) one
    where
      go : (x : A) (a : Answer (List A) Token) → passed (and_then a (λ xs more. Got (x ∷ xs) more)) ≡ passed a
      go x (Got xs r) = refl
      go x (Stuck s) = refl

  pub passes_stuck : (whole : Answer (Unit {0}) Token) (i end : ℕ) (ts left : List Token) → i < end → whole ≡ passed ((times item i (end - i)).read ts) → passed ((item i).read ts) ≡ Stuck left → whole ≡ Stuck left
  passes_stuck whole i end ts left lt h e =
      let m : end - i ≡ suc (end - (i + 1)) = omega arith in
      let s = map_got_stuck (λ _. tt) ((item i).read ts) left e in
      h ∙ ap (λ (n : ℕ). passed ((times item i n).read ts)) m ∙ rw s refl

  pub passes_done : (whole : Answer (Unit {0}) Token) (i end : ℕ) (ts : List Token) → end ≤ i → whole ≡ passed ((times item i (end - i)).read ts) → whole ≡ Got tt ts
  passes_done whole i end ts le h =
      let m : end - i ≡ 0 = omega arith in
      h ∙ ap (λ (n : ℕ). passed ((times item i n).read ts)) m
