-- Lists of alternatives that are made one by one.
use Rattle.std.proofs.Common.{◌≡◌, ℕ, suc, zero, ◌+◌, ◌<◌, List, [], ◌∷◌, ◌++◌, take, get_or, length, max, refl, sym, ◌∙◌, ap, arith, append_assoc}
use Rattle.guard_prog.specs.declared.draft.Alternative.{Alternative}
use Rattle.guard_prog.specs.Drafts.{plain_alternatives, plain_of}
use Rattle.turn_law.specs.Sight.{Offer}
use Rattle.turn_law.specs.Unrolled.{offers_from, offers_here}
use Rattle.turn_unroll.specs.declared.offers.Offered.{Offered}
use Rattle.turn_unroll.specs.Offers.{greatest_of}
use Rattle.turn_unroll.specs.Ways.{offer_of, offers_of}
use Rattle.turn_unroll.proofs.Making.{take_more, take_whole}
use Rattle.turn_unroll.proofs.Waying.{offers_append}

append_nil : (os : List Offer) → os ++ [] ≡ os
append_nil [] = refl
append_nil (o ∷ os) = ap (λ x. o ∷ x) (append_nil os)

plain_append : (xs ys : List Alternative) → plain_alternatives (xs ++ ys) ≡ plain_alternatives xs ++ plain_alternatives ys
plain_append [] ys = refl
plain_append (x ∷ xs) ys = ap (λ z. plain_of x ∷ z) (plain_append xs ys)

here_append : (i : ℕ) (xs ys : List Alternative) → offers_here i (plain_alternatives (xs ++ ys)) ≡ offers_here i (plain_alternatives xs) ++ offers_here i (plain_alternatives ys)
here_append i [] ys = refl
here_append i (x ∷ xs) ys = ap (λ z. record { point = i; choice = plain_of x } ∷ z) (here_append i xs ys)

pub point_none : (all : List Offer) (point : ℕ) (as' : List Alternative) → all ≡ all ++ offers_here point (plain_alternatives (take 0 as'))
point_none all point [] = sym (append_nil all)
point_none all point (a ∷ as') = sym (append_nil all)

pub point_more : (first : List Offer) (new : List Offered) (was : List Offered) (point : ℕ) (as' : List Alternative) (i : ℕ) (o : Offered) (a : Alternative) → a ≡ get_or as' i a → i < length as' → offers_of was ≡ first ++ offers_here point (plain_alternatives (take i as')) → offer_of o ≡ record { point = point; choice = plain_of a } → new ≡ was ++ o ∷ [] → offers_of new ≡ first ++ offers_here point (plain_alternatives (take (i + 1) as'))
point_more first new was point as' i o a e h g k f =
    ap offers_of f ∙ offers_append was (o ∷ []) ∙ ap (λ x. x ++ offer_of o ∷ []) g ∙ append_assoc first (offers_here point (plain_alternatives (take i as'))) (offer_of o ∷ [])
    ∙ ap (λ x. first ++ x) (ap (λ x. offers_here point (plain_alternatives (take i as')) ++ x ∷ []) (k ∙ ap (λ y. record { point = point; choice = plain_of y }) e)
    ∙ sym (here_append point (take i as') (get_or as' i a ∷ [])) ∙ ap (λ xs. offers_here point (plain_alternatives xs)) (sym (take_more as' i a h)))

pub point_all : (first : List Offer) (all : List Offered) (point : ℕ) (as' : List Alternative) (i : ℕ) → i ≡ length as' → offers_of all ≡ first ++ offers_here point (plain_alternatives (take i as')) → offers_of all ≡ first ++ offers_here point (plain_alternatives as')
point_all first all point as' i e g = g ∙ ap (λ xs. first ++ offers_here point (plain_alternatives xs)) (take_whole as' i e)

from_append : (i : ℕ) (ps : List (List Alternative)) (p : List Alternative) → offers_from i (ps ++ p ∷ []) ≡ offers_from i ps ++ offers_here (i + length ps) (plain_alternatives p)
from_append i [] p = let e : i + 0 ≡ i = omega arith in append_nil (offers_here i (plain_alternatives p)) ∙ sym (ap (λ n. offers_here n (plain_alternatives p)) e)
from_append i (x ∷ ps) p =
    let e : i + 1 + length ps ≡ i + suc (length ps) = omega arith in
    ap (λ os. offers_here i (plain_alternatives x) ++ os) (from_append (i + 1) ps p ∙ ap (λ n. offers_from (i + 1) ps ++ offers_here n (plain_alternatives p)) e)
    ∙ sym (append_assoc (offers_here i (plain_alternatives x)) (offers_from (i + 1) ps) (offers_here (i + suc (length ps)) (plain_alternatives p)))

length-take : {A : Type 0} (xs : List A) (i : ℕ) → i < length xs → length (take i xs) ≡ i
length-take [] i h = absurd (omega arith)
length-take (x ∷ xs) zero h = refl
length-take (x ∷ xs) (suc i) h = let e = length-take xs i (omega arith) in ap suc e

pub points_none : (all : List Offered) (ps : List (List Alternative)) → all ≡ [] → offers_of all ≡ offers_from 0 (take 0 ps)
points_none all [] e = ap offers_of e
points_none all (p ∷ ps) e = ap offers_of e

pub points_more : (was new : List Offered) (ps : List (List Alternative)) (i n : ℕ) (p : List Alternative) → p ≡ get_or ps i p → n ≡ i → i < length ps → offers_of was ≡ offers_from 0 (take i ps) → offers_of new ≡ offers_of was ++ offers_here n (plain_alternatives p) → offers_of new ≡ offers_from 0 (take (i + 1) ps)
points_more was new ps i n p e m h g f =
    f ∙ ap (λ x. x ++ offers_here n (plain_alternatives p)) g
    ∙ ap (λ k. offers_from 0 (take i ps) ++ offers_here k (plain_alternatives p)) (m ∙ sym (length-take ps i h))
    ∙ ap (λ k. offers_from 0 (take i ps) ++ offers_here k (plain_alternatives p)) zero_plus ∙ sym (from_append 0 (take i ps) p) ∙ ap (λ x. offers_from 0 (take i ps ++ x ∷ [])) e ∙ ap (offers_from 0) (sym (take_more ps i p h))
  where
    zero_plus : length (take i ps) ≡ 0 + length (take i ps)
    zero_plus = omega arith

pub points_all : (all : List Offered) (ps : List (List Alternative)) (i : ℕ) → i ≡ length ps → offers_of all ≡ offers_from 0 (take i ps) → offers_of all ≡ offers_from 0 ps
points_all all ps i e g = g ∙ ap (offers_from 0) (take_whole ps i e)

-- ---- the greatest label
greatest_append : (os : List Offer) (o : Offer) → greatest_of (os ++ o ∷ []) ≡ max (greatest_of os) o.choice.label
greatest_append [] o = omega arith
greatest_append (q ∷ os) o = ap (max q.choice.label) (greatest_append os o) ∙ turn q.choice.label (greatest_of os) o.choice.label
  where
    turn : (a b c : ℕ) → max a (max b c) ≡ max (max a b) c
    turn a b c = omega arith

pub greatest_none : (os : List Offered) → 0 ≡ greatest_of (offers_of (take 0 os))
greatest_none [] = refl
greatest_none (o ∷ os) = refl

pub greatest_more : (os : List Offered) (i most new : ℕ) (o : Offered) → i < length os → most ≡ greatest_of (offers_of (take i os)) → new ≡ max most (offer_of (get_or os i o)).choice.label → new ≡ greatest_of (offers_of (take (i + 1) os))
greatest_more os i most new o h g f =
    f ∙ ap (λ n. max n (offer_of (get_or os i o)).choice.label) g
    ∙ sym (greatest_append (offers_of (take i os)) (offer_of (get_or os i o))) ∙ ap greatest_of (sym (ap offers_of (take_more os i o h) ∙ offers_append (take i os) (get_or os i o ∷ [])))

pub greatest_all : (os : List Offered) (i most : ℕ) → i ≡ length os → most ≡ greatest_of (offers_of (take i os)) → most ≡ greatest_of (offers_of os)
greatest_all os i most e g = g ∙ ap (λ xs. greatest_of (offers_of xs)) (take_whole os i e)
