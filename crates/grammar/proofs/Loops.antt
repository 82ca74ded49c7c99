-- Reading many by a loop, item by item.
use Rattle.std.proofs.Common.{◌≡◌, ◌<◌, true, false, List, [], ◌∷◌, ◌++◌, map, length, refl, sym, ap, ◌∙◌, append_assoc}
use Rattle.std.specs.List.{fold}
use Rattle.std.proofs.lemmas.List.{append-nil}
use Rattle.std.proofs.lemmas.List.Sums.{fold-append}
use Rattle.grammar.specs.Grammar.{Expression, Many, Rule, Tree, Nil, Pair, items}
use Rattle.grammar.specs.Lookahead.{Lookahead, first, next_decides, NextDecides}
use Rattle.grammar.specs.Reading.{Answer, Got, Stuck, OutOfTurns, and_then, map_got, begins, turn, reading}
use Rattle.grammar.specs.Loop.{in_front, push, IsReadSoFar, IsReadMany}
use Rattle.grammar.proofs.Sound.{Taken}
use Rattle.grammar.proofs.Complete.{heads}
use Rattle.grammar.proofs.Turns.{reading_says, is_less, one_turn}

one_more : {T : Type 0} (xs : List (Tree T)) (x y : Tree T) → in_front xs (Pair x y) ≡ in_front (xs ++ x ∷ []) y
one_more [] x y = refl
one_more (z ∷ xs) x y = ap (λ w. Pair z w) (one_more xs x y)

-- the items of the tree that they are put into
pub items_in_front : {T : Type 0} (xs : List (Tree T)) → items (in_front xs Nil) ≡ xs
items_in_front [] = refl
items_in_front (x ∷ xs) = ap (λ w. x ∷ w) (items_in_front xs)

ahead_one : {T : Type 0} (xs : List (Tree T)) (x : Tree T) (A : Answer (Tree T) T) → map_got (in_front xs) (and_then A (λ y s. Got (Pair x y) s)) ≡ map_got (in_front (xs ++ x ∷ [])) A
ahead_one xs x (Got y s) = ap (λ w. Got w s) (one_more xs x y)
ahead_one xs x (Stuck s) = refl
ahead_one xs x OutOfTurns = refl

ahead_none : {T : Type 0} (A : Answer (Tree T) T) → A ≡ map_got (in_front []) A
ahead_none (Got y s) = refl
ahead_none (Stuck s) = refl
ahead_none OutOfTurns = refl

-- before its first item a loop has put nothing together
pub starts : {N T V : Type 0} (L : Lookahead N T) (a : Expression N) (add : V → Tree T → V) (empty : V) (start : List T) → IsReadSoFar L a add empty start empty start
starts L a add empty start = record { trees = []; means = refl; answers = ahead_none (reading L (Many a) start) }

module _ {N T : Type 0} (L : Lookahead N T) (checked : NextDecides L) where
  module _ (a : Expression N) (low : next_decides L (Many a) ≡ true) where
    -- reading by one turn, as readers say it
    abbrev reads : Expression N → List T → Answer (Tree T) T
    reads e ts = turn L.grammar.class L.firsts (reading L) e ts

    abbrev all : List T → Answer (Tree T) T
    all ts = reading L (Many a) ts

    module _ {V : Type 0} (add : V → Tree T → V) (empty : V) where
      pub goes_on : (start ts : List T) (value next : V) (x : Tree T) (r : List T) → begins L.grammar.class (first L.firsts a) ts ≡ true → reads a ts ≡ Got x r → add value x ≡ next → IsReadSoFar L a add empty start value ts → IsReadSoFar L a add empty start next r
      goes_on start ts value next x r b e m p =
          let one : all ts ≡ and_then (all r) (λ y s. Got (Pair x y) s) = one_turn L checked (Many a) low ts ∙ rw (b, e) refl in
          record {
            trees = p.trees ++ x ∷ [];
            means = fold-append add empty p.trees (x ∷ []) ∙ ap (λ v. add v x) p.means ∙ m;
            answers = p.answers ∙ rw one (ahead_one p.trees x (all r));
          }

      pub breaks : (start ts : List T) (value : V) (r : List T) → begins L.grammar.class (first L.firsts a) ts ≡ true → reads a ts ≡ Stuck r → IsReadSoFar L a add empty start value ts → all start ≡ Stuck r
      breaks start ts value r b e p =
          let one : all ts ≡ Stuck r = one_turn L checked (Many a) low ts ∙ rw (b, e) refl in
          p.answers ∙ rw one refl

      pub is_done : (start ts : List T) (value : V) → begins L.grammar.class (first L.firsts a) ts ≡ false → IsReadSoFar L a add empty start value ts → IsReadMany L a add empty start value ts
      is_done start ts value b p =
          let one : all ts ≡ Got Nil ts = one_turn L checked (Many a) low ts ∙ rw b refl in
          record {
            tree = in_front p.trees Nil;
            answers = p.answers ∙ rw one refl;
            means = rw items_in_front p.means;
          }

  -- a rule takes a token
  pub takes : (n : N) → next_decides L (Rule n) ≡ true → (ts : List T) (y : Tree T) (r : List T) → reading L (Rule n) ts ≡ Got y r → length r < length ts
  takes n low ts y r e =
      let h = reading_says L checked (Rule n) low ts in
      let t : Taken L (Rule n) ts y r = rw e at h in
      is_less L (Rule n) ts y r refl (heads L checked y (Rule n) low t.fits) t

-- ---- where the items are put into the list of their meanings

pub fold_push : {T W : Type 0} (meaning : Tree T → W) (values : List W) (xs : List (Tree T)) → fold (push meaning) values xs ≡ values ++ map meaning xs
fold_push meaning values [] = sym (append-nil values)
fold_push meaning values (x ∷ xs) = fold_push meaning (values ++ meaning x ∷ []) xs ∙ append_assoc values (meaning x ∷ []) (map meaning xs)

pub listed : {T W : Type 0} (meaning : Tree T → W) (tree : Tree T) (values : List W) → fold (push meaning) [] (items tree) ≡ values → map meaning (items tree) ≡ values
listed meaning tree values h = sym (fold_push meaning [] (items tree)) ∙ h
