-- Lemmas on ready lists and fresh requests.
use Rattle.std.proofs.Common.{◌≡◌, ◌≢◌, ℕ, zero, suc, ◌<◌, ◌≤◌, Bool, true, false, List, [], ◌∷◌, ◌++◌, Option, Some, None, refl, sym, ap, subst, inl, inr, ◌⊎◌, arith, nat_lt, ◌==◌, if◌then◌else◌, eq-or-lt_of_le}
use Rattle.std.proofs.lemmas.Bool.Decides.{nat_tests}
use Rattle.step_ir.specs.Agreement.{fresh_at, IsForemost}
use Rattle.step_ir.specs.Numbers.{put}
use Rattle.step_ir.specs.OneStackMachine.{without}
use Rattle.step_ir.specs.Reschedule.{highest}
use Rattle.step_ir.specs.SchedulerState.{Entry}
use Rattle.step_ir.specs.Setting.{Setting, foremost, earlier, AreTasks}

-- the other value at its number
pub put_same : {A : Type 0} (f : ℕ → A) (k : ℕ) (v : A) → put f k v k ≡ v
put_same f k v = grind (arith, nat_tests)

-- the old value elsewhere
pub put_other : {A : Type 0} (f : ℕ → A) (k : ℕ) (v : A) (q : ℕ) → q ≢ k → put f k v q ≡ f q
put_other f k v q h = grind (arith, nat_tests)

-- the highest list that is not empty
pub highest_is : (ready : ℕ → List Entry) (n l : ℕ) (e : Entry) (es : List Entry) → l ≤ n → ready l ≡ e ∷ es → ((k : ℕ) → l < k → ready k ≡ []) → highest ready n ≡ Some l
highest_is ready zero l e es le here none =
    let z : l ≡ zero = omega arith in
    let here' : ready zero ≡ e ∷ es = subst (λ k. ready k ≡ e ∷ es) z here in
    rw here' (ap Some (sym z))
highest_is ready (suc n) l e es le here none =
    cases (eq-or-lt_of_le le) (λ h. highest_is ready n l e es h here none)
  where
    cases : (l ≡ suc n) ⊎ (l < suc n) → (l ≤ n → highest ready n ≡ Some l) → highest ready (suc n) ≡ Some l
    cases (inl z) below =
        let here' : ready (suc n) ≡ e ∷ es = subst (λ k. ready k ≡ e ∷ es) z here in
        rw here' (ap Some (sym z))
    cases (inr lt) below = rw (none (suc n) lt) (below (omega arith))

-- all lists are empty
pub highest_none : (ready : ℕ → List Entry) (n : ℕ) → ((k : ℕ) → ready k ≡ []) → highest ready n ≡ None
highest_none ready zero none = rw (none zero)
highest_none ready (suc n) none = rw (none (suc n)) (highest_none ready n none)

-- one more request at the end
pub fresh_at-append : (app : Setting) (l : ℕ) (xs : List ℕ) (t : ℕ) → fresh_at app l (xs ++ t ∷ []) ≡ fresh_at app l xs ++ fresh_at app l (t ∷ [])
fresh_at-append app l [] t = refl
fresh_at-append app l (x ∷ xs) t = grind (arith, nat_tests, fresh_at-append app l xs t)

-- one more task at the end
pub AreTasks-append : (app : Setting) (ts : List ℕ) (t : ℕ) → AreTasks app ts → app.is_task t ≡ true → AreTasks app (ts ++ t ∷ [])
AreTasks-append app [] t h k = (k, tt)
AreTasks-append app (x ∷ xs) t h k = (h.0, AreTasks-append app xs t h.1 k)

-- the only request is the first
foremost_single : (app : Setting) (x : ℕ) → IsForemost app (x ∷ []) x
foremost_single app x =
    record {
      same = grind (arith, nat_tests);
      others = λ l h. grind (arith, nat_tests);
      above = λ l h. grind (arith, nat_tests);
      counts = λ q. grind (arith, nat_tests);
      task = λ h. h.0;
    }

-- tasks, whichever of two lists it is
AreTasks-if : (app : Setting) (b : Bool) (xs ys : List ℕ) → AreTasks app xs → AreTasks app ys → AreTasks app (if b then xs else ys)
AreTasks-if app true xs ys h k = h
AreTasks-if app false xs ys h k = k

-- tasks without one of them
pub AreTasks-without : (app : Setting) (t : ℕ) (xs : List ℕ) → AreTasks app xs → AreTasks app (without t xs)
AreTasks-without app t [] h = tt
AreTasks-without app t (x ∷ xs) h =
    AreTasks-if app (x == t) xs (x ∷ without t xs) h.1 (h.0, AreTasks-without app t xs h.1)

-- the first of the rest, where its level is greater
foremost_later : (app : Setting) (x : ℕ) (xs : List ℕ) (u : ℕ) → IsForemost app xs u → app.level x < app.level u → IsForemost app (x ∷ xs) u
foremost_later app x xs u ih lt =
    let differ : x ≢ u = λ e. absurd (omega (arith, ap app.level e)) in
    record {
      same = grind (arith, nat_tests, ih.same);
      others = λ l h. grind (arith, nat_tests, ih.others l h);
      above = λ l h. grind (arith, nat_tests, ih.above l h);
      counts = λ q. grind (arith, nat_tests, ih.counts q);
      task = λ h. ih.task h.1;
    }

-- else the first of all
foremost_here : (app : Setting) (x : ℕ) (xs : List ℕ) (u : ℕ) → IsForemost app xs u → app.level u ≤ app.level x → IsForemost app (x ∷ xs) x
foremost_here app x xs u ih le =
    record {
      same = grind (arith, nat_tests);
      others = λ l h. grind (arith, nat_tests);
      above = λ l h. let up : app.level u < l = omega arith in grind (arith, nat_tests, ih.above l up);
      counts = λ q. grind (arith, nat_tests);
      task = λ h. h.0;
    }

-- one of two is the first
earlier_some : (app : Setting) (x : ℕ) (o : Option ℕ) → earlier app x o ≡ None → ⊥
earlier_some app x None h = cc
earlier_some app x (Some u) h = grind (arith, nat_tests)

-- there is a first request unless there is none
pub foremost_none : (app : Setting) (ts : List ℕ) → foremost app ts ≡ None → ts ≡ []
foremost_none app [] h = refl
foremost_none app (t ∷ ts) h = absurd (earlier_some app t (foremost app ts) h)

-- what the first request of greatest level is
pub foremost_some : (app : Setting) (ts : List ℕ) (t : ℕ) → foremost app ts ≡ Some t → IsForemost app ts t
foremost_some app [] t h = cc
foremost_some app (x ∷ xs) t h = go (foremost app xs) refl h (λ u e. foremost_some app xs u e)
  where
    go : (o : Option ℕ) → foremost app xs ≡ o → earlier app x o ≡ Some t → ((u : ℕ) → foremost app xs ≡ Some u → IsForemost app xs u) → IsForemost app (x ∷ xs) t
    go None e h ih =
        let empty : xs ≡ [] = foremost_none app xs e in
        let same : x ≡ t = cc in
        subst (λ ys. IsForemost app (x ∷ ys) t) (sym empty) (subst (λ y. IsForemost app (x ∷ []) y) same (foremost_single app x))
    go (Some u) e h ih = split (nat_lt (app.level x) (app.level u)) refl h
      where
        split : (b : Bool) → nat_lt (app.level x) (app.level u) ≡ b → (if b then Some u else Some x) ≡ Some t → IsForemost app (x ∷ xs) t
        split true b h =
            let same : u ≡ t = cc in
            let lt : app.level x < app.level u = grind (arith, nat_tests) in
            subst (λ y. IsForemost app (x ∷ xs) y) same (foremost_later app x xs u (ih u e) lt)
        split false b h =
            let same : x ≡ t = cc in
            let le : app.level u ≤ app.level x = grind (arith, nat_tests) in
            subst (λ y. IsForemost app (x ∷ xs) y) same (foremost_here app x xs u (ih u e) le)
