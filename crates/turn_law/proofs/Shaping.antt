-- What a draft that is well shaped gives.
use Rattle.std.proofs.Common.{◌≡◌, ℕ, suc, zero, ◌+◌, ◌<◌, ◌≤◌, ◌^◌, Bool, true, false, not, ◌&&◌, ◌||◌, List, [], ◌∷◌, refl, sym, ◌∙◌, ap, subst, arith, if◌then◌else◌, ◌==◌, nat_le, nat_lt, Option, Some, None, slice_get, unwrap_or}
use Rattle.std.specs.List.{list_all, list_any}
use Rattle.std.proofs.lemmas.Bool.{and_parts}
use Rattle.std.proofs.lemmas.Bool.Decides.{nat_tests}
use Rattle.guard_prog.specs.declared.draft.Alternative.{Alternative}
use Rattle.guard_prog.specs.declared.draft.Draft.{Draft}
use Rattle.guard_prog.specs.Drafts.{plain_alternatives, plain_of, program_of, point_of}
use Rattle.guard_prog.specs.GuardedRun.{PlainAlternative, alternative_with}
use Rattle.guard_prog.specs.WellShaped.{IsWellShaped, are_distinct_by, labels_fit}
use Rattle.turn_law.specs.Sight.{Apart, IsOffered}
use Rattle.turn_law.specs.Unrolled.{AreLabelled, DraftsOffer, offers_from}
use Rattle.turn_law.proofs.Taking.{same_number}
use Rattle.turn_law.proofs.Offering.{offered}

none_of : (l : ℕ) (xs : List Alternative) → list_any (λ y. y.label == l) xs ≡ false → alternative_with l (plain_alternatives xs) ≡ None
none_of l [] e = refl
none_of l (x ∷ xs) e = go (x.label == l) e (none_of l xs)
  where
    go : (b : Bool) → (b || list_any (λ y. y.label == l) xs) ≡ false → (list_any (λ y. y.label == l) xs ≡ false → alternative_with l (plain_alternatives xs) ≡ None) → (if b then Some (plain_of x) else alternative_with l (plain_alternatives xs)) ≡ None
    go true e h = absurd (cc)
    go false e h = h e

not_true : (b : Bool) → not b ≡ true → b ≡ false
not_true true e = absurd (cc)
not_true false e = refl

apart_of : (xs : List Alternative) → are_distinct_by (λ a. a.label) xs ≡ true → Apart (plain_alternatives xs)
apart_of [] e = tt
apart_of (x ∷ xs) e =
    let k = and_parts (not (list_any (λ y. y.label == x.label) xs)) (are_distinct_by (λ a. a.label) xs) e in
    (none_of x.label xs (not_true _ k.0), apart_of xs k.1)

zero_of : (xs : List Alternative) → list_all (λ a. nat_le 1 a.label && nat_lt a.label (2 ^ 20)) xs ≡ true → alternative_with 0 (plain_alternatives xs) ≡ None
zero_of [] e = refl
zero_of (x ∷ xs) e =
    let k = and_parts (nat_le 1 x.label && nat_lt x.label (2 ^ 20)) (list_all (λ a. nat_le 1 a.label && nat_lt a.label (2 ^ 20)) xs) e in
    let a = (and_parts (nat_le 1 x.label) (nat_lt x.label (2 ^ 20)) k.0).0 in
    let f : (x.label == 0) ≡ false = grind (arith, nat_tests) in
    rw f (zero_of xs k.1)

pub offers : DraftsOffer
offers d w = (offered d (λ q. apart_of (point_of d q) (parts q).0), record { none = λ q. zero_of (point_of d q) (parts q).1 })
  where
    parts : (q : ℕ) → (are_distinct_by (λ a. a.label) (point_of d q) ≡ true) × (list_all (λ a. nat_le 1 a.label && nat_lt a.label (2 ^ 20)) (point_of d q) ≡ true)
    parts q = and_parts (are_distinct_by (λ a. a.label) (point_of d q)) (list_all (λ a. nat_le 1 a.label && nat_lt a.label (2 ^ 20)) (point_of d q)) (w.labels q)
