-- Points of which two change places.
use Rattle.std.proofs.Common.{◌≡◌, ℕ, zero, suc, ◌+◌, ◌<◌, ◌≤◌, ◌⊎◌, inl, inr, Bool, true, false, ◌==◌, leb, add-one, List, [], ◌∷◌, ◌++◌, drop, get_or, length, map, Option, Some, None, option_map, refl, sym, ap, ◌∙◌, subst, arith, append-nil, append_assoc, length-append}
use Rattle.std.specs.Prelude.{slice_get}
use Rattle.std.proofs.lemmas.Bool.Decides.{nat_tests, leb_tells}
use Rattle.std.proofs.lemmas.List.{drop_more}
use Rattle.std.proofs.lemmas.Option.{slice_get-map, slice_get_past}
use Rattle.chk_base.specs.declared.sets.Set.{Set}
use Rattle.step_ir.specs.declared.code.Point.{Point}
use Rattle.step_ir.specs.Points.{PlainPoint, plain_of, set_of}
use Rattle.lower_law.specs.Exact.{StandsAs, exchanged}
use Rattle.fit_law.specs.Codes.{IsExchanged}
use Rattle.lower.specs.EntityCodes.{exchanged_front, listed}

-- one more set of a list that is gone through
pub sets_more : (xs : List Set) (i : ℕ) (d : Set) → i < length xs → map set_of (drop i xs) ≡ set_of (get_or xs i d) ∷ map set_of (drop (i + 1) xs)
sets_more xs i d h = ap (λ ys. map set_of ys) (drop_more xs i d h)

-- ---- lists with one more item
-- an item of the first part, and the last one
get_before : {A : Type 0} → (xs ys : List A) (k : ℕ) → k < length xs → slice_get (xs ++ ys) k ≡ slice_get xs k
get_before [] ys k h = absurd (omega arith)
get_before (x ∷ xs) ys zero h = refl
get_before (x ∷ xs) ys (suc k) h = get_before xs ys k (omega arith)

get_at : {A : Type 0} → (xs : List A) (y : A) (k : ℕ) → k ≡ length xs → slice_get (xs ++ y ∷ []) k ≡ Some y
get_at [] y k h = ap (λ i. slice_get (y ∷ []) i) h
get_at (x ∷ xs) y zero h = absurd (omega (arith, h))
get_at (x ∷ xs) y (suc k) h = get_at xs y k (omega (arith, h))

-- an item of a list with one more is one of the list, or the new one
pub data IsAmong {A : Type 0} (xs : List A) (y : A) (k : ℕ) (x : A) : Type 0 where
  before : slice_get xs k ≡ Some x → IsAmong xs y k x
  last : k ≡ length xs → y ≡ x → IsAmong xs y k x

-- so it is of a longer list
among_more : {A : Type 0} (z : A) (xs : List A) (y : A) (k : ℕ) (x : A) → IsAmong xs y k x → IsAmong (z ∷ xs) y (suc k) x
among_more z xs y k x (before h) = before h
among_more z xs y k x (last h e) = last (ap (λ n. suc n) h) e

-- what there is is one thing
pub some_is : {A : Type 0} (d x y : A) → Some x ≡ Some y → x ≡ y
some_is {A} d x y h = ap get h where
  get : Option A → A
  get None = d
  get (Some z) = z

-- each item is one of these
pub among : {A : Type 0} (xs : List A) (y : A) (k : ℕ) (x : A) → slice_get (xs ++ y ∷ []) k ≡ Some x → IsAmong xs y k x
among [] y zero x h = last refl (some_is y y x h)
among [] y (suc k) x h = absurd (cc)
among (z ∷ xs) y zero x h = before h
among (z ∷ xs) y (suc k) x h = among_more z xs y k x (among xs y k x h)

-- ---- numbers
-- what changes places twice is back
pub twice : (z i : ℕ) → exchanged z (exchanged z i) ≡ i
twice z i = grind (arith, nat_tests)

-- where 0 changes places with itself nothing moves
pub exchanged_zero : (i : ℕ) → exchanged 0 i ≡ i
exchanged_zero i = grind (arith, nat_tests)

pub unmoved : exchanged 0 ≡ (λ (i : ℕ). i)
unmoved = λ j i. exchanged_zero i j

-- numbers of points stay numbers of points
exchanged_below : (z i n : ℕ) → z < n → i < n → exchanged z i < n
exchanged_below z i n h k = grind (arith, nat_tests)

exchanged_above : (z i n : ℕ) → z < n → n ≤ i → n ≤ exchanged z i
exchanged_above z i n h k = grind (arith, nat_tests)

-- ---- one more point
pub one_more : (z : ℕ) (ps : List Point) (front front' : List PlainPoint) (at : ℕ) (p q : Point) → Some p ≡ slice_get ps (exchanged z at) → plain_of q ≡ plain_of p
    → front ≡ exchanged_front z (map plain_of ps) at → front' ≡ front ++ plain_of q ∷ [] → front' ≡ exchanged_front z (map plain_of ps) (at + 1)
one_more z ps front front' at p q is same h e =
    e ∙ (ap (λ xs. xs ++ plain_of q ∷ []) h
    ∙ (ap (λ o. exchanged_front z (map plain_of ps) at ++ listed o) (ap (λ x. Some x) same ∙ (ap (option_map plain_of) is ∙ sym (slice_get-map plain_of ps (exchanged z at))))
    ∙ ap (exchanged_front z (map plain_of ps)) (sym (add-one at))))

-- no point more, where there is none
pub none_more : (z : ℕ) (ps : List Point) (front : List PlainPoint) (at : ℕ) → None ≡ slice_get ps (exchanged z at)
    → front ≡ exchanged_front z (map plain_of ps) at → front ≡ exchanged_front z (map plain_of ps) (at + 1)
none_more z ps front at is h =
    h ∙ (sym (append-nil (exchanged_front z (map plain_of ps) at))
    ∙ (ap (λ o. exchanged_front z (map plain_of ps) at ++ listed o) (ap (option_map plain_of) is ∙ sym (slice_get-map plain_of ps (exchanged z at)))
    ∙ ap (exchanged_front z (map plain_of ps)) (sym (add-one at))))

-- ---- all points
pub get_some : {A : Type 0} (xs : List A) (k : ℕ) → k < length xs → (x : A) × (slice_get xs k ≡ Some x)
get_some [] k h = absurd (omega arith)
get_some (x ∷ xs) zero h = (x, refl)
get_some (x ∷ xs) (suc k) h = get_some xs k (omega arith)

module _ (z : ℕ) (ps : List PlainPoint) (within : z < length ps) where
  -- the items of a front
  record IsFront (n : ℕ) : Type 0 where
    count : length (exchanged_front z ps n) ≡ n
    at : (k : ℕ) → k < n → slice_get (exchanged_front z ps n) k ≡ slice_get ps (exchanged z k)

  -- so is each
  front_is : (n : ℕ) → n ≤ length ps → IsFront n
  front_is zero h = record { count = refl; at = λ k below. absurd (omega arith) }
  front_is (suc n) h = by (get_some ps (exchanged z n) (exchanged_below z n (length ps) within (omega arith))) (front_is n (omega arith)) where
    by : ((p : PlainPoint) × (slice_get ps (exchanged z n) ≡ Some p)) → IsFront n → IsFront (suc n)
    by (p, is) front =
        let whole : exchanged_front z ps (suc n) ≡ exchanged_front z ps n ++ p ∷ [] = ap (λ o. exchanged_front z ps n ++ listed o) is in
        let c = front.count in
        let long = length-append (exchanged_front z ps n) (p ∷ []) in
        record {
          count = ap length whole ∙ (long ∙ (ap (λ m. m + 1) c ∙ add-one n));
          at = λ k below. ap (λ xs. slice_get xs k) whole ∙ here k (k == n) refl below p is whole c front.at;
        }
      where
        here : (k : ℕ) (b : Bool) → (k == n) ≡ b → k < suc n → (p : PlainPoint) → slice_get ps (exchanged z n) ≡ Some p → exchanged_front z ps (suc n) ≡ exchanged_front z ps n ++ p ∷ [] → length (exchanged_front z ps n) ≡ n
            → ((k : ℕ) → k < n → slice_get (exchanged_front z ps n) k ≡ slice_get ps (exchanged z k)) → slice_get (exchanged_front z ps n ++ p ∷ []) k ≡ slice_get ps (exchanged z k)
        here k true e below p is whole c ih =
            let same : k ≡ n = grind (arith, nat_tests) in
            get_at (exchanged_front z ps n) p k (same ∙ sym c) ∙ (sym is ∙ ap (λ i. slice_get ps (exchanged z i)) (sym same))
        here k false e below p is whole c ih =
            let less : k < n = grind (arith, nat_tests) in
            get_before (exchanged_front z ps n) (p ∷ []) k (omega (arith, c, less)) ∙ ih k less

  -- as many as there are
  pub all_exchanged : (qs : List PlainPoint) (n : ℕ) → length ps ≤ n → n ≤ length ps → qs ≡ exchanged_front z ps n → IsExchanged z ps qs
  all_exchanged qs n above below e =
      subst (λ (xs : List PlainPoint). IsExchanged z ps xs) (sym e)
      (record { long = (front_is n below).count ∙ omega (arith, above, below); at = λ k. by k (leb_tells n k) })
    where
      by : (k : ℕ) → ((leb n k ≡ true) × (n ≤ k)) ⊎ ((leb n k ≡ false) × (k < n)) → slice_get (exchanged_front z ps n) k ≡ slice_get ps (exchanged z k)
      by k (inl past) =
          let c = (front_is n below).count in
          slice_get_past (exchanged_front z ps n) k (omega (arith, c, past.1)) ∙ sym (slice_get_past ps (exchanged z k) (exchanged_above z k (length ps) within (omega (arith, past.1, above))))
      by k (inr less) = (front_is n below).at k less.1

-- where the first is the first that runs nothing changes
pub none_exchanged : (ps : List PlainPoint) (z : ℕ) → z ≡ 0 → IsExchanged z ps ps
none_exchanged ps z e =
    subst (λ (i : ℕ). IsExchanged i ps ps) (sym e) (record { long = refl; at = λ k. ap (slice_get ps) (sym (exchanged_zero k)) })

-- ---- the points stand under their numbers
get_seam : (pre : List PlainPoint) (p : PlainPoint) (ps : List PlainPoint) → slice_get (pre ++ p ∷ ps) (length pre) ≡ Some p
get_seam [] p ps = refl
get_seam (x ∷ pre) p ps = get_seam pre p ps

stands_behind : (z : ℕ) (code : ℕ → Option PlainPoint) (ps pre : List PlainPoint) → ((k : ℕ) → code (exchanged z k) ≡ slice_get (pre ++ ps) k) → StandsAs (exchanged z) code (length pre) ps
stands_behind z code [] pre h = tt
stands_behind z code (p ∷ ps) pre h =
    let e : length (pre ++ p ∷ []) ≡ length pre + 1 = omega (arith, length-append pre (p ∷ [])) in
    let rest = stands_behind z code ps (pre ++ p ∷ []) (λ k. h k ∙ ap (λ (xs : List PlainPoint). slice_get xs k) (sym (append_assoc pre (p ∷ []) ps))) in
    (h (length pre) ∙ get_seam pre p ps, subst (λ (n : ℕ). StandsAs (exchanged z) code n ps) e rest)

-- all of them
pub stands : (z : ℕ) (ps qs : List PlainPoint) → IsExchanged z ps qs → StandsAs (exchanged z) (λ k. slice_get qs k) 0 ps
stands z ps qs x =
    stands_behind z (λ k. slice_get qs k) ps [] (λ k. x.at (exchanged z k) ∙ ap (slice_get ps) (twice z k))
