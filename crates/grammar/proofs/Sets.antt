-- Sets of classes as lists, and what a text begins with.
use Rattle.std.proofs.Common.{◌≡◌, ℕ, Bool, true, false, not, ◌||◌, List, [], ◌∷◌, ◌++◌, refl, sym, ◌∙◌, arith}
use Rattle.std.specs.Prelude.{eqb}
use Rattle.std.proofs.lemmas.Bool.{and_parts, or_parts, or_left, or_right, not-true}
use Rattle.grammar.specs.Grammar.{has}
use Rattle.grammar.specs.Lookahead.{disjoint, subset}
use Rattle.grammar.specs.Reading.{begins}

pub eqb_is : (a b : ℕ) → eqb a b ≡ true → a ≡ b
eqb_is a b h = grind (arith, h)

pub has-append : (xs ys : List ℕ) (c : ℕ) → has (xs ++ ys) c ≡ (has xs c || has ys c)
has-append [] ys c = refl
has-append (x ∷ xs) ys c = helper (eqb x c) (has-append xs ys c)
  where
    helper : (b : Bool) → has (xs ++ ys) c ≡ (has xs c || has ys c) → (b || has (xs ++ ys) c) ≡ ((b || has xs c) || has ys c)
    helper true h = refl
    helper false h = h

module _ {T : Type 0} (class : T → ℕ) where
  pub begins-append : (xs ys : List ℕ) (ts : List T) → begins class (xs ++ ys) ts ≡ (begins class xs ts || begins class ys ts)
  begins-append xs ys [] = refl
  begins-append xs ys (t ∷ ts) = has-append xs ys (class t)

  pub begins_parts : (xs ys : List ℕ) (ts : List T) → begins class (xs ++ ys) ts ≡ false → (begins class xs ts ≡ false) × (begins class ys ts ≡ false)
  begins_parts xs ys ts h = or_parts _ _ (sym (begins-append xs ys ts) ∙ h)

  pub begins_left : (xs ys : List ℕ) (ts : List T) → begins class xs ts ≡ true → begins class (xs ++ ys) ts ≡ true
  begins_left xs ys ts h = begins-append xs ys ts ∙ or_left _ _ h

  pub begins_right : (xs ys : List ℕ) (ts : List T) → begins class ys ts ≡ true → begins class (xs ++ ys) ts ≡ true
  begins_right xs ys ts h = begins-append xs ys ts ∙ or_right _ _ h

pub disjoint_has : (xs ys : List ℕ) (c : ℕ) → disjoint xs ys ≡ true → has ys c ≡ true → has xs c ≡ false
disjoint_has [] ys c a h = refl
disjoint_has (x ∷ xs) ys c a h =
    let p = and_parts (not (has ys x)) (disjoint xs ys) a in
    let n : has ys x ≡ false = not-true _ p.0 in
    helper (eqb x c) refl n (disjoint_has xs ys c p.1 h)
  where
    helper : (b : Bool) → eqb x c ≡ b → has ys x ≡ false → has xs c ≡ false → (b || has xs c) ≡ false
    helper true e n r = absurd (let s : x ≡ c = eqb_is x c e in let q : has ys c ≡ false = rw s at n in cc)
    helper false e n r = r

pub subset_has : (xs ys : List ℕ) (c : ℕ) → subset xs ys ≡ true → has xs c ≡ true → has ys c ≡ true
subset_has [] ys c w h = absurd cc
subset_has (x ∷ xs) ys c w h =
    let p = and_parts (has ys x) (subset xs ys) w in
    helper (eqb x c) refl p.0 h (λ g. subset_has xs ys c p.1 g)
  where
    helper : (b : Bool) → eqb x c ≡ b → has ys x ≡ true → (b || has xs c) ≡ true → (has xs c ≡ true → has ys c ≡ true) → has ys c ≡ true
    helper true e n r k = let s : x ≡ c = eqb_is x c e in rw s at n
    helper false e n r k = k r

module _ {T : Type 0} (class : T → ℕ) where
  pub disjoint_begins : (xs ys : List ℕ) (ts : List T) → disjoint xs ys ≡ true → begins class ys ts ≡ true → begins class xs ts ≡ false
  disjoint_begins xs ys [] a h = refl
  disjoint_begins xs ys (t ∷ ts) a h = disjoint_has xs ys (class t) a h

  pub subset_begins : (xs ys : List ℕ) (ts : List T) → subset xs ys ≡ true → begins class xs ts ≡ true → begins class ys ts ≡ true
  subset_begins xs ys [] w h = h
  subset_begins xs ys (t ∷ ts) w h = subset_has xs ys (class t) w h

  pub subset_not : (xs ys : List ℕ) (ts : List T) → subset xs ys ≡ true → begins class ys ts ≡ false → begins class xs ts ≡ false
  subset_not xs ys ts w h = helper (begins class xs ts) refl
    where
      helper : (b : Bool) → begins class xs ts ≡ b → b ≡ false
      helper true e = absurd (let q = subset_begins xs ys ts w e in cc)
      helper false e = refl
