-- Lists of faults of which there is none, and what stands in joined lists.
use Rattle.std.proofs.Common.{◌≡◌, ℕ, zero, suc, ◌<◌, Bool, true, false, not, List, [], ◌∷◌, ◌++◌, Some, ◌⊎◌, inl, inr, refl, sym, ap, ◌∙◌, arith}
use Rattle.std.specs.List.{flat_map, slice_get}
use Rattle.std.proofs.lemmas.Bool.{cases_eq}
use Rattle.std.proofs.lemmas.Option.{none-some, same_Some}
use Rattle.chk_base.specs.declared.place.Place.{Place}
use Rattle.c_rules.specs.First.{when}
use Rattle.static_rules.specs.Chains.{all_below}

-- both of two joined lists are empty where the whole is
pub front_none : {X : Type 0} (xs ys : List X) → xs ++ ys ≡ [] → xs ≡ []
front_none [] ys e = refl
front_none (x ∷ xs) ys e = absurd (cc)

pub back_none : {X : Type 0} (xs ys : List X) → xs ++ ys ≡ [] → ys ≡ []
back_none [] ys e = e
back_none (x ∷ xs) ys e = absurd (cc)

-- so each of many is
pub each_none : {X A : Type 0} (f : X → List A) (xs : List X) (i : ℕ) (x : X) → flat_map f xs ≡ [] → slice_get xs i ≡ Some x → f x ≡ []
each_none f [] i x e at = absurd (none-some x at)
each_none f (y ∷ xs) zero x e at = ap f (sym (same_Some y x at)) ∙ front_none (f y) (flat_map f xs) e
each_none f (y ∷ xs) (suc i) x e at = each_none f xs i x (back_none (f y) (flat_map f xs) e) at

-- and each of those for the numbers below a bound
pub nothing_below : {X : Type 0} (f : ℕ → List X) (n k : ℕ) → k < n → all_below f n ≡ [] → f k ≡ []
nothing_below f zero k lt e = absurd (omega arith)
nothing_below f (suc n) k lt e = by (nothing_below f n k) (cases_eq k n)
  where
    by : (k < n → all_below f n ≡ [] → f k ≡ []) → (k ≡ n) ⊎ (k ≡ n → ⊥) → f k ≡ []
    by below (inl same) = ap f same ∙ back_none (all_below f n) (f n) e
    by below (inr other) = below (omega arith) (front_none (all_below f n) (f n) e)

-- a rule is met that has no fault
pub is_met : (b : Bool) (rule : ℕ) (place : Place) → when b rule place ≡ [] → b ≡ false
is_met true rule place e = absurd (cc)
is_met false rule place e = refl

pub not_not : (b : Bool) → not b ≡ false → b ≡ true
not_not true e = refl
not_not false e = absurd (cc)

-- what stands in joined lists stands in one of them
pub in_either : {X : Type 0} (xs ys : List X) (i : ℕ) (x : X) → slice_get (xs ++ ys) i ≡ Some x → (slice_get xs i ≡ Some x) ⊎ ((j : ℕ) × (slice_get ys j ≡ Some x))
in_either [] ys i x e = inr (i, e)
in_either (y ∷ xs) ys zero x e = inl e
in_either (y ∷ xs) ys (suc i) x e = in_either xs ys i x e

pub record IsJoined {X A : Type 0} (f : X → List A) (xs : List X) (a : A) : Type 0 where
  pub at : ℕ
  pub from : X
  pub listed : slice_get xs at ≡ Some from
  pub inner : ℕ
  pub is : slice_get (f from) inner ≡ Some a

pub joined_at : {X A : Type 0} (f : X → List A) (xs : List X) (i : ℕ) (a : A) → slice_get (flat_map f xs) i ≡ Some a → IsJoined f xs a
joined_at f [] i a e = absurd (none-some a e)
joined_at {X} {A} f (x ∷ xs) i a e = by (joined_at f xs) (in_either (f x) (flat_map f xs) i a e)
  where
    by : ((j : ℕ) (b : A) → slice_get (flat_map f xs) j ≡ Some b → IsJoined f xs b) → (slice_get (f x) i ≡ Some a) ⊎ ((j : ℕ) × (slice_get (flat_map f xs) j ≡ Some a)) → IsJoined f (x ∷ xs) a
    by later (inl here) = record { at = 0; from = x; listed = refl; inner = i; is = here }
    by later (inr there) =
        let found = later there.0 a there.1 in
        record { at = suc found.at; from = found.from; listed = found.listed; inner = found.inner; is = found.is }
