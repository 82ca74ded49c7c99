-- Taking the first entry of greatest level out of a list.
use Rattle.std.proofs.Common.{◌≡◌, ℕ, zero, suc, ◌+◌, ◌<◌, ◌≤◌, List, [], ◌∷◌, ◌++◌, length, take, drop, Option, Some, None, slice_get, refl, sym, ap, subst, arith, get_or, add-one}
use Rattle.std.proofs.lemmas.Bool.Decides.{nat_tests}
use Rattle.std.proofs.lemmas.Option.{slice_get_read}
use Rattle.osek_machine.specs.Ready.{level_of, entries_at, IsHighestAt, IsTaken}
use Rattle.osek_machine.specs.declared.ready.Waiting.{Waiting}

-- no entry has a level above the greatest
none_above : (ws : List Waiting) (top l : ℕ) → ((k : ℕ) → k < length ws → level_of (slice_get ws k) ≤ top) → top < l → entries_at ws l ≡ []
none_above [] top l low h = refl
none_above (w ∷ ws) top l low h =
    let here : w.level ≤ top = low 0 (omega arith) in
    let rest : entries_at ws l ≡ [] = none_above ws top l (λ k k_in. low (suc k) (omega arith)) h in
    grind (arith, nat_tests)

-- the first entry of greatest level was taken out
pub taken_at : (ws : List Waiting) (i : ℕ) (w : Waiting) → slice_get ws i ≡ Some w → ((k : ℕ) → k < i → level_of (slice_get ws k) < w.level) → ((k : ℕ) → k < length ws → level_of (slice_get ws k) ≤ w.level) → IsTaken ws w (take i ws ++ drop (suc i) ws)
taken_at [] i w at before all = absurd (let e : ◌≡◌ {A = Option Waiting} None (Some w) = at in cc)
taken_at (x ∷ xs) zero w at before all =
    let same : x ≡ w = cc in
    subst (λ y. IsTaken (x ∷ xs) y xs) same
    (record {
      same = grind (arith, nat_tests);
      others = λ l h. grind (arith, nat_tests);
      above = λ l h. none_above (x ∷ xs) x.level l (λ k k_in. subst (λ y. level_of (slice_get (x ∷ xs) k) ≤ y.level) (sym same) (all k k_in)) h;
      counts = λ t. grind (arith, nat_tests);
      below = λ n h. (h.0, h.1, h.2);
    })
taken_at (x ∷ xs) (suc i) w at before all =
    let ih : IsTaken xs w (take i xs ++ drop (suc i) xs) = taken_at xs i w at (λ k h. before (suc k) (omega arith)) (λ k h. all (suc k) (omega arith)) in
    let lower : x.level < w.level = before 0 (omega arith) in
    record {
      same = grind (arith, nat_tests, ih.same);
      others = λ l h. grind (arith, nat_tests, ih.others l h);
      above = λ l h. none_above (x ∷ xs) w.level l all h;
      counts = λ t. grind (arith, nat_tests, ih.counts t);
      below = λ n h. let x = ih.below n h.2 in (x.0, x.1, (h.0, h.1, x.2));
    }

-- the same for the list that was changed
pub taken_by : (xs ws new : List Waiting) (i : ℕ) (w : Waiting) → xs ≡ ws → IsHighestAt xs i → w ≡ get_or ws i w → new ≡ take i ws ++ drop (i + 1) ws → IsTaken ws w new
taken_by xs ws new i w same high read is =
    let h : IsHighestAt ws i = subst (λ ys. IsHighestAt ys i) same high in
    let at : slice_get ws i ≡ Some w = slice_get_read ws (length ws) i w refl h.within read in
    let level : level_of (slice_get ws i) ≡ w.level = ap level_of at in
    let is' : new ≡ take i ws ++ drop (suc i) ws = rw add-one at is in
    subst (IsTaken ws w) (sym is')
    (taken_at ws i w at (λ k k_in. omega (arith, h.before k k_in)) (λ k k_in. omega (arith, h.all k k_in)))
