-- Reading has turns enough, so that it is what one turn of it says.
use Rattle.std.proofs.Common.{◌≡◌, ℕ, zero, suc, ◌+◌, ◌*◌, ◌≤◌, ◌<◌, max, Bool, true, false, not, ◌&&◌, cond, List, [], ◌∷◌, ◌++◌, length, refl, ap, arith, inl, inr, length-append}
use Rattle.std.specs.Prelude.{nat_le}
use Rattle.std.proofs.lemmas.Bool.{and_parts, not-true}
use Rattle.std.proofs.lemmas.Nat.{mul-le}
use Rattle.std.proofs.Math.Nat.{max-le, le-max_left, le-max_right, suc-mul}
use Rattle.grammar.specs.Grammar.{Expression, Empty, One, Then, Or, Many, Rule, Tree, Leaf, Pair, Left, Right, Node, has, leaves}
use Rattle.grammar.specs.Lookahead.{Lookahead, first, last, nullable, lead, disjoint, next_decides, NextDecides}
use Rattle.grammar.specs.Reading.{Answer, Got, Stuck, OutOfTurns, and_then, map_got, begins, turn, turns, height, reading}
use Rattle.grammar.proofs.Sound.{Says, Taken, turn_says, turns_says}
use Rattle.grammar.proofs.Complete.{Heads, heads}

nat_le_is : (a b : ℕ) → nat_le a b ≡ true → a ≤ b
nat_le_is a b h = grind (arith, h)

-- one token less pays for a whole rule
pays : (r n w k b : ℕ) → r < n → k ≤ w → k + r * w ≤ b + n * w
pays r n w k b lt le = let p : suc r * w ≤ n * w = mul-le (suc r) w n w (omega arith) (omega arith) in let e : suc r * w ≡ r * w + w = suc-mul r w in omega arith

not_more : (r n w k b : ℕ) → r ≤ n → k ≤ b → k + r * w ≤ b + n * w
not_more r n w k b le h = omega (arith, mul-le r w n w le (omega arith))

pub and_then_same : {U V T : Type 0} (A : Answer U T) (F G : U → List T → Answer V T) → ((x : U) (r : List T) → A ≡ Got x r → F x r ≡ G x r) → and_then A F ≡ and_then A G
and_then_same (Got x r) F G h = h x r refl
and_then_same (Stuck r) F G h = refl
and_then_same OutOfTurns F G h = refl

module _ {N T : Type 0} (L : Lookahead N T) where
  then_lead : (s : Bool) (m n k : ℕ) → m ≤ k → n ≤ k → cond s (max m n) m ≤ k
  then_lead true m n k p q = max-le p q
  then_lead false m n k p q = p

  lead_low : (g : Expression N) → next_decides L g ≡ true → lead L.rank g ≤ L.limit
  lead_low Empty h = omega arith
  lead_low (One cs) h = omega arith
  lead_low (Then a b) h =
      let p = and_parts _ _ h in
      then_lead (nullable a) (lead L.rank a) (lead L.rank b) L.limit (lead_low a p.0) (lead_low b (and_parts _ _ p.1).0)
  lead_low (Or a b) h =
      let p = and_parts _ _ h in
      max-le (lead_low a p.0) (lead_low b (and_parts _ _ p.1).0)
  lead_low (Many a) h = lead_low a (and_parts _ _ h).0
  lead_low (Rule n) h = nat_le_is _ _ h

  many_height : (a : Expression N) → next_decides L (Many a) ≡ true → height L.rank (Many a) ≤ L.limit
  many_height a h =
      let low = nat_le (suc (lead L.rank a)) L.limit in
      let far = disjoint (last L.firsts L.lasts a) (first L.firsts a) in
      nat_le_is _ _ (and_parts (not (nullable a)) low (and_parts far (not (nullable a) && low) (and_parts (next_decides L a) (far && (not (nullable a) && low)) h).1).1).1

  many_paid : (a : Expression N) → next_decides L (Many a) ≡ true → height L.rank (Many a) ≤ suc L.limit
  many_paid a h = let p = many_height a h in omega (arith, p)

  lead_first : (s : Bool) (m n k : ℕ) → cond s (max m n) m ≤ k → m ≤ k
  lead_first true m n k h = omega (arith, le-max_left m n)
  lead_first false m n k h = h

  lead_second : (s : Bool) (m n k : ℕ) → s ≡ true → cond s (max m n) m ≤ k → n ≤ k
  lead_second true m n k e h = omega (arith, le-max_right m n)
  lead_second false m n k e h = absurd cc

  no_more : (g : Expression N) (ts : List T) (x : Tree T) (r : List T) → Taken L g ts x r → length r ≤ length ts
  no_more g ts x r h = omega (arith, ap length h.parts, length-append (leaves x) r)

  pub is_less : (g : Expression N) (ts : List T) (x : Tree T) (r : List T) → nullable g ≡ false → Heads L g x → Taken L g ts x r → length r < length ts
  is_less g ts x r full (inl p) h = absurd cc
  is_less g ts x r full (inr p) h = filled_less (leaves x) refl
    where
      filled_less : (xs : List T) → leaves x ≡ xs → length r < length ts
      filled_less [] e = absurd (let q : begins L.grammar.class (first L.firsts g) (leaves x ++ []) ≡ true = p [] in let q2 : begins L.grammar.class (first L.firsts g) ([] ++ []) ≡ true = rw e at q in cc)
      filled_less (c ∷ xs) e = let q : ts ≡ (c ∷ xs) ++ r = rw e at h.parts in omega (arith, ap length q, length-append xs r)

  -- the same answers from two readers, as deep as b turns
  Alike : (again other : Expression N → List T → Answer (Tree T) T) → ℕ → List T → Type 0
  Alike again other b ts = (g : Expression N) (s : List T) → next_decides L g ≡ true → height L.rank g + length s * suc L.limit ≤ b + length ts * suc L.limit → again g s ≡ other g s

  alike_less : (again other : Expression N → List T → Answer (Tree T) T) (b c : ℕ) (ts r : List T) → length r < length ts → c ≤ L.limit → Alike again other b ts → Alike again other c r
  unfolding Alike
  alike_less again other b c ts r lt le k g s f h = k g s f (let q : c + length r * suc L.limit ≤ b + length ts * suc L.limit = pays (length r) (length ts) (suc L.limit) c b lt (omega arith) in omega arith)

  alike_on : (again other : Expression N → List T → Answer (Tree T) T) (b : ℕ) (ts r : List T) → length r ≤ length ts → Alike again other b ts → Alike again other b r
  unfolding Alike
  alike_on again other b ts r le k g s f h = k g s f (let q : b + length r * suc L.limit ≤ b + length ts * suc L.limit = not_more (length r) (length ts) (suc L.limit) b b le (omega arith) in omega arith)

  module _ (checked : NextDecides L) (again other : Expression N → List T → Answer (Tree T) T) (says : (g : Expression N) → next_decides L g ≡ true → (ts : List T) → Says L g ts (again g ts)) where
    abbrev here : Expression N → List T → Answer (Tree T) T
    here g ts = turn L.grammar.class L.firsts again g ts

    abbrev there : Expression N → List T → Answer (Tree T) T
    there g ts = turn L.grammar.class L.firsts other g ts

    said : (g : Expression N) → next_decides L g ≡ true → (ts : List T) (x : Tree T) (r : List T) → here g ts ≡ Got x r → Taken L g ts x r
    said g f ts x r e = let h = turn_says L checked again says g f ts in rw e at h

    second_same : (x y : Expression N) (b : ℕ) (ts r : List T) (s : Bool) → nullable x ≡ s → lead L.rank (Then x y) ≤ b → length r ≤ length ts → (nullable x ≡ false → length r < length ts) → lead L.rank y ≤ L.limit → Alike again other b ts → ((c : ℕ) → lead L.rank y ≤ c → Alike again other c r → here y r ≡ there y r) → here y r ≡ there y r
    second_same x y b ts r true e le le2 lt low k go = go b (lead_second (nullable x) (lead L.rank x) (lead L.rank y) b e le) (alike_on again other b ts r le2 k)
    second_same x y b ts r false e le le2 lt low k go = go (lead L.rank y) (omega arith) (alike_less again other b (lead L.rank y) ts r (lt e) low k)

    same_turn : (g : Expression N) (f : next_decides L g ≡ true) (b : ℕ) (ts : List T) → lead L.rank g ≤ b → Alike again other b ts → here g ts ≡ there g ts
    unfolding Alike
    same_turn Empty f b ts le k = refl
    same_turn (One cs) f b ts le k = refl
    same_turn (Then x y) f b ts le k =
        let f1 = and_parts _ _ f in
        let f2 = and_parts _ _ f1.1 in
        let e = same_turn x f1.0 b ts (lead_first (nullable x) (lead L.rank x) (lead L.rank y) b le) k in
        rw (← e) (and_then_same (here x ts) _ _ (λ v r q.
        let taken = said x f1.0 ts v r q in
        let second : here y r ≡ there y r = second_same x y b ts r (nullable x) refl le (no_more x ts v r taken) (λ full. is_less x ts v r full (heads L checked v x f1.0 taken.fits) taken) (lead_low y f2.0) k (λ c low alike. same_turn y f2.0 c r low alike) in
        rw second refl))
    same_turn (Or x y) f b ts le k =
        let f1 = and_parts _ _ f in
        let f2 = and_parts _ _ f1.1 in
        let e1 = same_turn x f1.0 b ts (lead_first true (lead L.rank x) (lead L.rank y) b le) k in
        let e2 = same_turn y f2.0 b ts (lead_second true (lead L.rank x) (lead L.rank y) b refl le) k in
        rw (e1, e2) refl
    same_turn (Many x) f b ts le k =
        let f1 = and_parts _ _ f in
        let f2 = and_parts _ _ f1.1 in
        let e = same_turn x f1.0 b ts le k in
        let full = not-true _ (and_parts _ _ f2.1).0 in
        let d = and_then_same (here x ts) (λ v r. and_then (again (Many x) r) (λ y s. Got (Pair v y) s)) (λ v r. and_then (other (Many x) r) (λ y s. Got (Pair v y) s)) (λ v r q.
        let taken = said x f1.0 ts v r q in
        let lt = is_less x ts v r full (heads L checked v x f1.0 taken.fits) taken in
        let second : again (Many x) r ≡ other (Many x) r = k (Many x) r f (pays (length r) (length ts) (suc L.limit) (height L.rank (Many x)) b lt (many_paid x f)) in
        rw second refl) in
        rw (d, e) refl
    same_turn (Rule n) f b ts le k = k (Rule n) ts f (omega arith)

  steady : NextDecides L → (f d : ℕ) (g : Expression N) (ts : List T) → next_decides L g ≡ true → height L.rank g + length ts * suc L.limit < f → height L.rank g + length ts * suc L.limit < d → turns L f g ts ≡ turns L d g ts
  unfolding Alike
  steady checked zero d g ts h p q = absurd (omega arith)
  steady checked (suc f) zero g ts h p q = absurd (omega arith)
  steady checked (suc f) (suc d) (Rule n) ts h p q =
      ap (map_got Node) (same_turn checked (turns L f) (turns L d) (turns_says L checked f) (L.grammar.rule n) (checked n).decides (L.rank n) ts (nat_le_is _ _ (checked n).falls) (λ g s fg low. steady checked f d g s fg (omega arith) (omega arith)))
  steady checked (suc f) (suc d) g ts h p q =
      same_turn checked (turns L f) (turns L d) (turns_says L checked f) g h (lead L.rank g) ts (omega arith) (λ k s fk low. steady checked f d k s fk (omega arith) (omega arith))

  -- Reading a rule is one turn of reading its right side.
  pub rule_turn : NextDecides L → (n : N) (ts : List T) → reading L (Rule n) ts ≡ map_got Node (turn L.grammar.class L.firsts (reading L) (L.grammar.rule n) ts)
  unfolding reading Alike
  rule_turn checked n ts =
      let f = height L.rank (Rule n) + length ts * suc L.limit in
      ap (map_got Node) (same_turn checked (turns L f) (reading L) (turns_says L checked f) (L.grammar.rule n) (checked n).decides (L.rank n) ts (nat_le_is _ _ (checked n).falls) (λ g s fg low. steady checked f (suc (height L.rank g + length s * suc L.limit)) g s fg (omega arith) (omega arith)))

  -- Reading is one turn, and then reading again.
  pub one_turn : NextDecides L → (g : Expression N) → next_decides L g ≡ true → (ts : List T) → reading L g ts ≡ turn L.grammar.class L.firsts (reading L) g ts
  unfolding reading Alike
  one_turn checked (Rule n) h ts = refl
  one_turn checked g h ts =
      let f = height L.rank g + length ts * suc L.limit in
      same_turn checked (turns L f) (reading L) (turns_says L checked f) g h (lead L.rank g) ts (omega arith) (λ k s fk low. steady checked f (suc (height L.rank k + length s * suc L.limit)) k s fk (omega arith) (omega arith))

  pub reading_says : NextDecides L → (g : Expression N) → next_decides L g ≡ true → (ts : List T) → Says L g ts (reading L g ts)
  unfolding reading
  reading_says checked g h ts = turns_says L checked (suc (height L.rank g + length ts * suc L.limit)) g h ts

  -- ---- turns never run out

  -- The turns sufficed.
  abbrev Ends : {V : Type 0} → Answer V T → Type 0
  Ends (Got x r) = Unit {0}
  Ends (Stuck r) = Unit {0}
  Ends OutOfTurns = ⊥

  -- an answer that ends in each case, and is the same where it did before
  abbrev ended : {V : Type 0} → Answer V T → Answer V T
  ended (Got x r) = Got x r
  ended (Stuck r) = Stuck r
  ended OutOfTurns = Stuck []

  ended_ends : {V : Type 0} (A : Answer V T) → Ends (ended A)
  ended_ends (Got x r) = tt
  ended_ends (Stuck r) = tt
  ended_ends OutOfTurns = tt

  ends_along : {V : Type 0} (A B : Answer V T) → A ≡ B → Ends B → Ends A
  ends_along A B e h = rw e h

  ended_same : {V : Type 0} (A : Answer V T) → Ends A → A ≡ ended A
  ended_same (Got x r) h = refl
  ended_same (Stuck r) h = refl
  ended_same OutOfTurns h = absurd h

  map_ends : {U V : Type 0} (f : U → V) (A : Answer U T) → Ends A → Ends (map_got f A)
  map_ends f (Got x r) h = tt
  map_ends f (Stuck r) h = tt
  map_ends f OutOfTurns h = h

  then_ends : {U V : Type 0} (A : Answer U T) (F : U → List T → Answer V T) → Ends A → ((x : U) (r : List T) → Ends (F x r)) → Ends (and_then A F)
  then_ends (Got x r) F h k = k x r
  then_ends (Stuck r) F h k = tt
  then_ends OutOfTurns F h k = h

  cond_ends : {V : Type 0} (b : Bool) (A B : Answer V T) → Ends A → Ends B → Ends (cond b A B)
  cond_ends true A B h k = h
  cond_ends false A B h k = k

  turn_ends : (other : Expression N → List T → Answer (Tree T) T) → ((g : Expression N) (ts : List T) → Ends (other g ts)) → (g : Expression N) (ts : List T) → Ends (turn L.grammar.class L.firsts other g ts)
  turn_ends other k Empty ts = tt
  turn_ends other k (One cs) [] = tt
  turn_ends other k (One cs) (t ∷ ts) = cond_ends (has cs (L.grammar.class t)) (Got (Leaf t) ts) (Stuck (t ∷ ts)) tt tt
  turn_ends other k (Then a b) ts = then_ends (turn L.grammar.class L.firsts other a ts) _ (turn_ends other k a ts) (λ x r. then_ends (turn L.grammar.class L.firsts other b r) _ (turn_ends other k b r) (λ y s. tt))
  turn_ends other k (Or a b) ts = cond_ends (begins L.grammar.class (first L.firsts a) ts) _ _ (map_ends Left (turn L.grammar.class L.firsts other a ts) (turn_ends other k a ts)) (map_ends Right (turn L.grammar.class L.firsts other b ts) (turn_ends other k b ts))
  turn_ends other k (Many a) ts = cond_ends (begins L.grammar.class (first L.firsts a) ts) _ _ (then_ends (turn L.grammar.class L.firsts other a ts) _ (turn_ends other k a ts) (λ x r. then_ends (other (Many a) r) _ (k (Many a) r) (λ y s. tt))) tt
  turn_ends other k (Rule n) ts = k (Rule n) ts

  turns_end : NextDecides L → (f : ℕ) (g : Expression N) (ts : List T) → next_decides L g ≡ true → height L.rank g + length ts * suc L.limit < f → Ends (turns L f g ts)
  unfolding Alike
  turns_end checked zero g ts h p = absurd (omega arith)
  turns_end checked (suc f) (Rule n) ts h p =
      let other : Expression N → List T → Answer (Tree T) T = λ g s. ended (turns L f g s) in
      let e = same_turn checked (turns L f) other (turns_says L checked f) (L.grammar.rule n) (checked n).decides (L.rank n) ts (nat_le_is _ _ (checked n).falls) (λ g s fg low. ended_same (turns L f g s) (turns_end checked f g s fg (omega arith))) in
      let right = ends_along (turn L.grammar.class L.firsts (turns L f) (L.grammar.rule n) ts) (turn L.grammar.class L.firsts other (L.grammar.rule n) ts) e (turn_ends other (λ g s. ended_ends (turns L f g s)) (L.grammar.rule n) ts) in
      map_ends Node (turn L.grammar.class L.firsts (turns L f) (L.grammar.rule n) ts) right
  turns_end checked (suc f) g ts h p =
      let other : Expression N → List T → Answer (Tree T) T = λ k s. ended (turns L f k s) in
      let e = same_turn checked (turns L f) other (turns_says L checked f) g h (lead L.rank g) ts (omega arith) (λ k s fk low. ended_same (turns L f k s) (turns_end checked f k s fk (omega arith))) in
      ends_along (turns L (suc f) g ts) (turn L.grammar.class L.firsts other g ts) e (turn_ends other (λ k s. ended_ends (turns L f k s)) g ts)

  out_ends : {V : Type 0} (A : Answer V T) → A ≡ OutOfTurns → Ends A → ⊥
  out_ends (Got x r) e h = cc
  out_ends (Stuck r) e h = cc
  out_ends OutOfTurns e h = h

  pub never_out : NextDecides L → (g : Expression N) → next_decides L g ≡ true → (ts : List T) → reading L g ts ≡ OutOfTurns → ⊥
  unfolding reading
  never_out checked g h ts e =
      let n = height L.rank g + length ts * suc L.limit in
      out_ends (turns L (suc n) g ts) e (turns_end checked (suc n) g ts h (omega arith))
