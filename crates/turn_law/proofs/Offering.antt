-- The alternatives of a draft.
use Rattle.std.proofs.Common.{◌≡◌, ℕ, suc, zero, ◌+◌, ◌-◌, ◌*◌, ◌<◌, ◌≤◌, Bool, true, false, not, ◌&&◌, ◌||◌, List, [], ◌∷◌, ◌++◌, refl, sym, ◌∙◌, ap, subst, arith, if◌then◌else◌, length, ◌==◌, Option, Some, None, slice_get, unwrap_or}
use Rattle.std.proofs.lemmas.Bool.Decides.{nat_tests}
use Rattle.guard_prog.specs.declared.draft.Alternative.{Alternative}
use Rattle.guard_prog.specs.declared.draft.Draft.{Draft}
use Rattle.guard_prog.specs.GuardedRun.{PlainAlternative, Program}
use Rattle.guard_prog.specs.Drafts.{plain_alternatives, program_of}
use Rattle.turn_law.specs.Sight.{Offer, choices_at, Apart, IsOffered}
use Rattle.turn_law.specs.Unrolled.{offers_here, offers_from}

choices-append : (q : ℕ) (os qs : List Offer) → choices_at q (os ++ qs) ≡ choices_at q os ++ choices_at q qs
choices-append q [] qs = refl
choices-append q (o ∷ os) qs = go (o.point == q) (choices-append q os qs)
  where
    go : (b : Bool) → choices_at q (os ++ qs) ≡ choices_at q os ++ choices_at q qs → (if b then o.choice ∷ choices_at q (os ++ qs) else choices_at q (os ++ qs)) ≡ (if b then o.choice ∷ choices_at q os else choices_at q os) ++ choices_at q qs
    go true e = ap (λ x. o.choice ∷ x) e
    go false e = e

choices_here : (i : ℕ) (as' : List PlainAlternative) → choices_at i (offers_here i as') ≡ as'
choices_here i [] = refl
choices_here i (a ∷ as') = let e : (i == i) ≡ true = grind (arith, nat_tests) in rw e (ap (λ x. a ∷ x) (choices_here i as'))

choices_other : (i q : ℕ) (as' : List PlainAlternative) → (i == q) ≡ false → choices_at q (offers_here i as') ≡ []
choices_other i q [] e = refl
choices_other i q (a ∷ as') e = rw e (choices_other i q as' e)

choices_before : (i q : ℕ) (points : List (List Alternative)) → q < i → choices_at q (offers_from i points) ≡ []
choices_before i q [] h = refl
choices_before i q (as' ∷ points) h =
    let e : (i == q) ≡ false = grind (arith, nat_tests, h) in
    choices-append q (offers_here i (plain_alternatives as')) (offers_from (i + 1) points) ∙ rw (choices_other i q (plain_alternatives as') e) (choices_before (i + 1) q points (omega (arith, h)))

append_nothing : (xs : List PlainAlternative) → xs ++ [] ≡ xs
append_nothing [] = refl
append_nothing (x ∷ xs) = ap (λ y. x ∷ y) (append_nothing xs)

choices_of : (i q : ℕ) (points : List (List Alternative)) → choices_at (i + q) (offers_from i points) ≡ plain_alternatives (unwrap_or (slice_get points q) [])
choices_of i q [] = refl
choices_of i zero (as' ∷ points) =
    let e : i + 0 ≡ i = omega arith in
    ap (λ n. choices_at n (offers_from i (as' ∷ points))) e
    ∙ choices-append i (offers_here i (plain_alternatives as')) (offers_from (i + 1) points)
    ∙ rw (choices_here i (plain_alternatives as'), choices_before (i + 1) i points (omega arith)) (append_nothing (plain_alternatives as'))
choices_of i (suc q) (as' ∷ points) =
    let e : (i == i + suc q) ≡ false = grind (arith, nat_tests) in
    let f : i + suc q ≡ i + 1 + q = omega arith in
    choices-append (i + suc q) (offers_here i (plain_alternatives as')) (offers_from (i + 1) points)
    ∙ rw (choices_other i (i + suc q) (plain_alternatives as') e) (ap (λ n. choices_at n (offers_from (i + 1) points)) f ∙ choices_of (i + 1) q points)

-- the offers of a draft whose points have distinct labels
pub offered : (d : Draft) → ((q : ℕ) → Apart ((program_of d).points q)) → IsOffered (program_of d) (offers_from 0 d.points)
offered d h = record {
  lists = λ q. let e : 0 + q ≡ q = omega arith in ap (λ n. choices_at n (offers_from 0 d.points)) (sym e) ∙ choices_of 0 q d.points;
  apart = h;
}
