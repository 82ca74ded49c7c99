-- Laws of a store's list.
use Rattle.std.proofs.Common.{◌≡◌, ℕ, zero, suc, Bool, true, false, Some, List, [], ◌∷◌, ◌++◌, ◌==◌, is_some, map, refl, ap, arith}
use Rattle.std.proofs.lemmas.Bool.Decides.{nat_tests}
use Rattle.std.specs.List.{slice_get}
use Rattle.clause_form.specs.declared.store.ClauseRef.{ClauseRef}
use Rattle.clause_form.specs.ClauseStore.{Stored, lits_at, HasAt, AreBefore}

-- a clause whose reference is above all others is found where it was put
pub lits_at-pushed : (ss : List Stored) (s : Stored) → AreBefore ss s.at.0 → lits_at (ss ++ s ∷ []) s.at.0 ≡ Some s.lits
lits_at-pushed [] s h = let e : (s.at.0 == s.at.0) ≡ true = grind (arith, nat_tests) in rw e refl
lits_at-pushed (x ∷ xs) s h =
    let e : (x.at.0 == s.at.0) ≡ false = let b = h.0 in grind (arith, nat_tests, b) in
    rw e (lits_at-pushed xs s h.1)

pub HasAt-pushed : (ss : List Stored) (s : Stored) → AreBefore ss s.at.0 → HasAt (ss ++ s ∷ []) s.at.0
HasAt-pushed ss s h = ap is_some (lits_at-pushed ss s h)

-- and what was there is found as before
pub lits_at-append : (ss ts : List Stored) (r : ℕ) → HasAt ss r → lits_at (ss ++ ts) r ≡ lits_at ss r
lits_at-append [] ts r h = absurd (cc)
lits_at-append (x ∷ xs) ts r h = go (lits_at-append xs ts r) (x.at.0 == r) refl
  where
    go : (HasAt xs r → lits_at (xs ++ ts) r ≡ lits_at xs r) → (b : Bool) → (x.at.0 == r) ≡ b → lits_at ((x ∷ xs) ++ ts) r ≡ lits_at (x ∷ xs) r
    go rest true e = rw e refl
    go rest false e = rw e (rest (rw e at h))

-- a reference of the list has a clause
pub HasAt-listed : (ss : List Stored) (i : ℕ) (r : ClauseRef) → slice_get (map (λ s. s.at) ss) i ≡ Some r → HasAt ss r.0
HasAt-listed [] i r h = absurd (cc)
HasAt-listed (x ∷ xs) zero r h =
    let s : x.at ≡ r = cc in
    let e : (x.at.0 == r.0) ≡ true = let t = ap (λ (a : ClauseRef). a.0) s in grind (arith, nat_tests, t) in
    rw e refl
HasAt-listed (x ∷ xs) (suc i) r h = go (HasAt-listed xs i r h) (x.at.0 == r.0) refl
  where
    go : HasAt xs r.0 → (b : Bool) → (x.at.0 == r.0) ≡ b → HasAt (x ∷ xs) r.0
    go rest true e = rw e refl
    go rest false e = rw e rest
