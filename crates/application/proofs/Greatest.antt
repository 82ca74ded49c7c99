-- The greatest level of the first things of a list.
use Rattle.std.proofs.Common.{◌≡◌, ℕ, ◌+◌, ◌<◌, max, Bool, true, false, cond, if◌then◌else◌, List, [], ◌∷◌, ◌++◌, length, take, get_or, map, filter, refl, ap, ◌∙◌, arith}
use Rattle.std.proofs.lemmas.List.{take_more, map-append}
use Rattle.application.specs.Levels.{greatest}

-- of two lists
pub greatest_of_both : (xs ys : List ℕ) → greatest (xs ++ ys) ≡ max (greatest xs) (greatest ys)
greatest_of_both [] ys = omega arith
greatest_of_both (x ∷ xs) ys = let rest = greatest_of_both xs ys in omega arith

module _ {X : Type 0} (level : X → ℕ) where
  greatest_last : (xs : List X) (x : X) → greatest (map level (xs ++ x ∷ [])) ≡ max (level x) (greatest (map level xs))
  greatest_last [] x = refl
  greatest_last (y ∷ ys) x = let rest = greatest_last ys x in omega arith

  -- one more
  pub greatest_more : (xs : List X) (i : ℕ) (d : X) → i < length xs → greatest (map level (take (i + 1) xs)) ≡ max (level (get_or xs i d)) (greatest (map level (take i xs)))
  greatest_more xs i d within =
      ap (λ ys. greatest (map level ys)) (take_more xs i d within) ∙ greatest_last (take i xs) (get_or xs i d)

  module _ (p : X → Bool) where
    most : (l a b c : ℕ) → a ≡ max b c → max l a ≡ max b (max l c)
    most l a b c e = omega arith

    counted_alone : (b : Bool) (x : X) → greatest (map level (cond b (x ∷ []) [])) ≡ max (cond b (level x) 0) 0
    counted_alone true x = refl
    counted_alone false x = refl

    counted_last : (xs : List X) (x : X) → greatest (map level (filter p (xs ++ x ∷ []))) ≡ max (cond (p x) (level x) 0) (greatest (map level (filter p xs)))
    counted_last [] x = counted_alone (p x) x
    counted_last (y ∷ ys) x = by (p y) (counted_last ys x)
      where
        by : (b : Bool) → greatest (map level (filter p (ys ++ x ∷ []))) ≡ max (cond (p x) (level x) 0) (greatest (map level (filter p ys))) → greatest (map level (cond b (y ∷ filter p (ys ++ x ∷ [])) (filter p (ys ++ x ∷ [])))) ≡ max (cond (p x) (level x) 0) (greatest (map level (cond b (y ∷ filter p ys) (filter p ys))))
        by true rest = most (level y) _ (cond (p x) (level x) 0) _ rest
        by false rest = rest

    -- one more, where some count
    pub greatest_counted : (xs : List X) (i : ℕ) (d : X) → i < length xs → greatest (map level (filter p (take (i + 1) xs))) ≡ max (cond (p (get_or xs i d)) (level (get_or xs i d)) 0) (greatest (map level (filter p (take i xs))))
    greatest_counted xs i d within =
        ap (λ ys. greatest (map level (filter p ys))) (take_more xs i d within) ∙ counted_last (take i xs) (get_or xs i d)
