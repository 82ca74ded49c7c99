-- The greatest of levels: none of the levels is above it, and it isn't above what none of them is above.
use Rattle.std.proofs.Common.{◌≡◌, ℕ, zero, suc, ◌≤◌, max, Bool, true, false, List, [], ◌∷◌, ◌++◌, Option, Some, None, refl, sym, subst, arith, slice_get, if◌then◌else◌}
use Rattle.std.specs.Prelude.{filter}
use Rattle.application.specs.declared.app.Routine.{Routine}
use Rattle.application.specs.declared.app.Task.{Task}
use Rattle.application.specs.Levels.{greatest, levels_of, routine_levels_of}

-- the levels of tasks that pass a test
module _ (test : Task → Bool) where
  -- the level of a task that passes is at most the greatest of those that pass
  pub level_in : (ts : List Task) (k : ℕ) (t : Task) → slice_get ts k ≡ Some t → test t ≡ true → t.level ≤ greatest (levels_of (filter test ts))
  level_in [] k t at passes = absurd (let e : ◌≡◌ {A = Option Task} None (Some t) = at in cc)
  level_in (u ∷ us) zero t at passes =
      let same : u ≡ t = (let e : ◌≡◌ {A = Option Task} (Some u) (Some t) = at in cc) in
      subst (λ v. v.level ≤ greatest (levels_of (filter test (u ∷ us)))) same (here (test u) (subst (λ v. test v ≡ true) (sym same) passes))
    where
      here : (b : Bool) → b ≡ true → u.level ≤ greatest (levels_of (if b then u ∷ filter test us else filter test us))
      here true h = omega arith
      here false h = absurd (let e : false ≡ true = h in cc)
  level_in (u ∷ us) (suc k) t at passes = there (test u) (level_in us k t at passes)
    where
      there : (b : Bool) → t.level ≤ greatest (levels_of (filter test us)) → t.level ≤ greatest (levels_of (if b then u ∷ filter test us else filter test us))
      there true h = omega arith
      there false h = h

  -- a bound on all levels is one on the greatest of those that pass
  pub levels_at_most : (bound : ℕ) (ts : List Task) → ((k : ℕ) (t : Task) → slice_get ts k ≡ Some t → t.level ≤ bound) → greatest (levels_of (filter test ts)) ≤ bound
  levels_at_most bound [] h = omega arith
  levels_at_most bound (u ∷ us) h = go (test u) (levels_at_most bound us (λ k t at. h (suc k) t at)) (h 0 u refl)
    where
      go : (b : Bool) → greatest (levels_of (filter test us)) ≤ bound → u.level ≤ bound → greatest (levels_of (if b then u ∷ filter test us else filter test us)) ≤ bound
      go true rest first = omega arith
      go false rest first = rest

-- the levels of routines that pass a test
pub routine_levels_at_most : (test : Routine → Bool) (bound : ℕ) (rs : List Routine) → ((k : ℕ) (r : Routine) → slice_get rs k ≡ Some r → r.level ≤ bound) → greatest (routine_levels_of (filter test rs)) ≤ bound
routine_levels_at_most test bound [] h = omega arith
routine_levels_at_most test bound (u ∷ us) h = go (test u) (routine_levels_at_most test bound us (λ k r at. h (suc k) r at)) (h 0 u refl)
  where
    go : (b : Bool) → greatest (routine_levels_of (filter test us)) ≤ bound → u.level ≤ bound → greatest (routine_levels_of (if b then u ∷ filter test us else filter test us)) ≤ bound
    go true rest first = omega arith
    go false rest first = rest

-- the levels of all tasks
pub level_in_all : (ts : List Task) (k : ℕ) (t : Task) → slice_get ts k ≡ Some t → t.level ≤ greatest (levels_of ts)
level_in_all [] k t at = absurd (let e : ◌≡◌ {A = Option Task} None (Some t) = at in cc)
level_in_all (u ∷ us) zero t at =
    let same : u ≡ t = (let e : ◌≡◌ {A = Option Task} (Some u) (Some t) = at in cc) in
    subst (λ v. v.level ≤ greatest (levels_of (u ∷ us))) same (omega arith)
level_in_all (u ∷ us) (suc k) t at = let rest = level_in_all us k t at in omega arith

-- a bound on all of them is one on the greatest
pub all_levels_at_most : (bound : ℕ) (ts : List Task) → ((k : ℕ) (t : Task) → slice_get ts k ≡ Some t → t.level ≤ bound) → greatest (levels_of ts) ≤ bound
all_levels_at_most bound [] h = omega arith
all_levels_at_most bound (u ∷ us) h =
    let rest = all_levels_at_most bound us (λ k t at. h (suc k) t at) in
    let first = h 0 u refl in
    omega arith

-- the greatest of two lists of numbers
pub greatest-append : (xs ys : List ℕ) → greatest (xs ++ ys) ≡ max (greatest xs) (greatest ys)
greatest-append [] ys = omega arith
greatest-append (x ∷ xs) ys = let rest = greatest-append xs ys in omega arith
