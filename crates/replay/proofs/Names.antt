-- Routines by their names, of which no two are the same.
use Rattle.std.proofs.Common.{◌≡◌, ℕ, zero, suc, ◌+◌, ◌<◌, ◌≤◌, ◌⊎◌, inl, inr, List, [], ◌∷◌, ◌++◌, length, map, Contains, Option, Some, slice_get, option_map, refl, sym, ap, ◌∙◌, arith}
use Rattle.std.proofs.Math.Nat.{eq-or-lt_of_le}
use Rattle.std.proofs.lemmas.List.Elements.{Contains-append_left}
use Rattle.std.proofs.lemmas.Option.{get_or_from_slice_get, slice_get-map, slice_get_within}
use Rattle.application.specs.declared.app.App.{App}
use Rattle.application.specs.declared.app.Entity.{Entity}
use Rattle.application.specs.declared.app.Routine.{Routine}
use Rattle.application.specs.InOrder.{AreDistinct, IsInOrder}
use Rattle.replay.specs.ScheduleText.{IsNamed}

distinct_left : (xs ys : List (List ℕ)) → AreDistinct (xs ++ ys) → AreDistinct xs
distinct_left [] ys d = tt
distinct_left (x ∷ xs) ys d = (λ found. d.0 (Contains-append_left xs ys x found), distinct_left xs ys d.1)

distinct_right : (xs ys : List (List ℕ)) → AreDistinct (xs ++ ys) → AreDistinct ys
distinct_right [] ys d = d
distinct_right (x ∷ xs) ys d = distinct_right xs ys d.1

contains_at : (xs : List (List ℕ)) (i : ℕ) (n : List ℕ) → slice_get xs i ≡ Some n → Contains xs n
contains_at xs i n here = (i, slice_get_within xs i n here, get_or_from_slice_get xs i n n here)

-- a name stands at one place
one_place : (xs : List (List ℕ)) (i j : ℕ) (n : List ℕ) → AreDistinct xs → slice_get xs i ≡ Some n → slice_get xs j ≡ Some n → i ≡ j
one_place [] i j n d here there = absurd cc
one_place (x ∷ xs) zero zero n d here there = refl
one_place (x ∷ xs) zero (suc j) n d here there =
    let same : x ≡ n = cc in absurd (d.0 (rw same (contains_at xs j n there)))
one_place (x ∷ xs) (suc i) zero n d here there =
    let same : x ≡ n = cc in absurd (d.0 (rw same (contains_at xs i n here)))
one_place (x ∷ xs) (suc i) (suc j) n d here there = ap suc (one_place xs i j n d.1 here there)

-- the names of routines differ
routines_differ : (app : App) → IsInOrder app → AreDistinct (map (λ (r : Routine). r.name) app.routines)
routines_differ app order =
    distinct_right
    (map (λ t. t.name) app.tasks)
    (map (λ (r : Routine). r.name) app.routines)
    (distinct_left (map (λ t. t.name) app.tasks ++ map (λ (r : Routine). r.name) app.routines) (map (λ r. r.name) app.resources) order.names)

name_at : (rs : List Routine) (i : ℕ) (r : Routine) → slice_get rs i ≡ Some r → slice_get (map (λ (r : Routine). r.name) rs) i ≡ Some r.name
name_at rs i r here = slice_get-map (λ (r : Routine). r.name) rs i ∙ ap (option_map (λ (r : Routine). r.name)) here

-- a name is that of one routine
pub one_named : (app : App) → IsInOrder app → (n : List ℕ) (a b : Entity) → IsNamed app n a → IsNamed app n b → a ≡ b
one_named app order n a b first second =
    let here : slice_get (map (λ (r : Routine). r.name) app.routines) first.at ≡ Some n = rw first.same (name_at app.routines first.at first.routine first.is) in
    let there : slice_get (map (λ (r : Routine). r.name) app.routines) second.at ≡ Some n = rw second.same (name_at app.routines second.at second.routine second.is) in
    let same : first.at ≡ second.at = one_place (map (λ (r : Routine). r.name) app.routines) first.at second.at n (routines_differ app order) here there in
    let number : a.0 ≡ b.0 = first.number ∙ (ap (λ (i : ℕ). length app.tasks + i) same ∙ sym second.number) in
    ap (λ (e : ℕ). record { 0 = e }) number

-- none of the first routines has this name
abbrev pub NoneNamed : List Routine → ℕ → List ℕ → Type 0
NoneNamed rs n name = (k : ℕ) (r : Routine) → k < n → slice_get rs k ≡ Some r → name ≡ r.name → ⊥

-- nor has one more
pub one_more : (rs : List Routine) (i : ℕ) (name : List ℕ) (r : Routine) → slice_get rs i ≡ Some r → (name ≡ r.name → ⊥) → NoneNamed rs i name → NoneNamed rs (i + 1) name
one_more rs i name r here other none k q below there same = go (eq-or-lt_of_le (omega (arith, below)))
  where
    go : (k ≡ i) ⊎ (k < i) → ⊥
    go (inl is) =
        let both : ◌≡◌ {A = Option Routine} (Some q) (Some r) = sym there ∙ (ap (slice_get rs) is ∙ here) in
        let one : q ≡ r = cc in
        other (same ∙ ap (λ (x : Routine). x.name) one)
    go (inr less) = none k q less there same

-- so where that are all, no routine has it
pub nobody : (app : App) (name : List ℕ) (n : ℕ) → length app.routines ≤ n → NoneNamed app.routines n name → (r : Entity) → IsNamed app name r → ⊥
nobody app name n all none r named =
    let within = slice_get_within app.routines named.at named.routine named.is in
    none named.at named.routine (omega (arith, within, all)) named.is named.same
