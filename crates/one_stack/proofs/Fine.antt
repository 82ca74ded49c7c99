-- The rules of each point, and its alternatives, are well shaped.
use Rattle.std.proofs.Common.{◌≡◌, ℕ, zero, suc, ◌+◌, ◌*◌, ◌<◌, ◌≤◌, ◌^◌, Bool, true, false, not, ◌&&◌, List, [], ◌∷◌, ◌++◌, length, Option, Some, None, refl, sym, ap, subst, arith, nat_lt, nat_le, ◌==◌, if◌then◌else◌, length-append, append-nil}
use Rattle.std.proofs.lemmas.Bool.Decides.{nat_tests}
use Rattle.chk_base.specs.declared.word.Width.{Width}
use Rattle.chk_base.specs.Term.{Term, Const, Pick}
use Rattle.guard_prog.specs.declared.draft.Control.{Control}
use Rattle.guard_prog.specs.declared.draft.Control.TheVariants.{Goto, Push, Pop, PopPush, Fail}
use Rattle.guard_prog.specs.GuardedRun.{PlainAlternative}
use Rattle.one_stack.proofs.Apart.{AreApart, AreSetsRead, after_reads, cell_reads, change_apart, change_read, reads_more}
use Rattle.one_stack.proofs.Slots.{IsValid, IsApart}
use Rattle.one_stack.specs.PlainCode.{PlainCode}
use Rattle.one_stack.specs.Rules.{Slot, On, Count, Waits, Held, Kept, Plan, Change, Rule, action_error, action_rules, activate_rules, added, added_rules, alternatives, any_of, both, cell, change_sets, either, end_change, end_rules, first_after, first_is, full, full_others, goes_on, got, guarded, index_term, is_it, is_level, last_kept, may_follow, may_push, may_start, negated, next_rules, none_above, none_after, none_at, none_held, none_of, plain, point_rules, push_rules, pushed, release_rules, released, return_sets, runs_at, ceiling_at, service_error, service_rules, start_rule, start_rules, write_sets}
use Rattle.one_stack.specs.TaskForm.{FitsAction, FitsIndex, FitsNexts, FitsPoint, FitsService, FitsSets, FitsTerms, Has, Reads}
use Rattle.step_ir.specs.declared.event.Service.{Service}
use Rattle.step_ir.specs.declared.event.Service.TheVariants.{Activate, Terminate, Chain, Schedule, Get, Release, DisableAll, EnableAll, SuspendAll, ResumeAll, SuspendOs, ResumeOs}
use Rattle.step_ir.specs.Fits.{Misses}
use Rattle.step_ir.specs.Points.{PlainAction, Read, Write, Local, Branch, Input, Call, Return, Invoke, Assert, End, PlainPoint}
use Rattle.step_ir.specs.Setting.{Setting}

-- a control leads to points below m, and not to the idle one
abbrev pub Leads : ℕ → Control → Type 0
Leads m (Goto q) = (0 < q) × (q < m)
Leads m (Push below start) = (0 < below) × (below < m) × (0 < start) × (start < m)
Leads m Pop = Unit {0}
Leads m (PopPush q) = (0 < q) × (q < m)
Leads m Fail = Unit {0}

-- a rule over n cells and m points that is well shaped
pub record IsFine (n m : ℕ) (r : Rule) : Type 0 where
  pub guard : Reads n r.guard
  pub read : AreSetsRead n r.sets
  pub apart : AreApart r.sets
  pub leads : Leads m r.control
  pub input : r.input ≡ None

abbrev pub AreFine : ℕ → ℕ → List Rule → Type 0
AreFine n m [] = Unit {0}
AreFine n m (r ∷ rs) = IsFine n m r × AreFine n m rs

fine-append : (n m : ℕ) (xs ys : List Rule) → AreFine n m xs → AreFine n m ys → AreFine n m (xs ++ ys)
fine-append n m [] ys h k = k
fine-append n m (x ∷ xs) ys h k = (h.0, fine-append n m xs ys h.1 k)

guarded_fine : (n m : ℕ) (c : Term) (rs : List Rule) → Reads n c → AreFine n m rs → AreFine n m (guarded c rs)
guarded_fine n m c [] h k = tt
guarded_fine n m c (r ∷ rs) h k =
    let one = k.0 in
    (record { guard = (h, one.guard, tt); read = one.read; apart = one.apart; leads = one.leads; input = one.input }, guarded_fine n m c rs h k.1)

length-guarded : (c : Term) (rs : List Rule) → length (guarded c rs) ≡ length rs
length-guarded c [] = refl
length-guarded c (r ∷ rs) = ap suc (length-guarded c rs)

length-next : (app : Setting) (plan : Plan) (width : ℕ → Width) (own sets : List (ℕ × Term)) (control : ℕ → Control) (xs : List (Term × ℕ)) → length (next_rules app plan width own sets control xs) ≡ length xs
length-next app plan width own sets control [] = refl
length-next app plan width own sets control (x ∷ xs) = ap suc (length-next app plan width own sets control xs)

-- what the program has room for: n cells and m points
pub record IsRoomy (app : Setting) (plan : Plan) (code : PlainCode) (n m : ℕ) : Type 0 where
  pub apart : IsApart app plan code.cells
  pub high : (s : Slot) → IsValid app plan s → plan.place s < n
  pub low : code.cells ≤ n
  pub tasks : (t : ℕ) → app.is_task t ≡ true → t < plan.tasks
  pub roomy : (t : ℕ) → t < plan.tasks → 0 < plan.room (app.level t)
  pub levels : (t : ℕ) → t < plan.tasks → app.level t ≤ app.top
  pub numbers : (e k : ℕ) → Has (code.points e) k → (0 < plan.number e k) × (plan.number e k < m)
  pub begins : (t : ℕ) → t < plan.tasks → Has (code.points t) 0
  pub few : plan.tasks ≤ 16

module _ (app : Setting) (plan : Plan) (code : PlainCode) (n m : ℕ) (room : IsRoomy app plan code n m) where
  reads_cell : (s : Slot) → IsValid app plan s → Reads n (cell app plan s)
  reads_cell s v = cell_reads app plan code.cells n room.apart room.high s v

  reads_low : (t : Term) → Reads code.cells t → Reads n t
  reads_low t h = reads_more code.cells n t h room.low

  waits_valid : (t : ℕ) → t < plan.tasks → IsValid app plan (Waits (app.level t) 0)
  waits_valid t lt = (room.levels t lt, room.roomy t lt)

  -- guards
  none_after_reads : (x : Option ℕ) (u : ℕ) → u < plan.tasks → Reads n (none_after app plan x (app.level u))
  none_after_reads x u lt = go (is_level app x (app.level u))
    where
      go : (b : Bool) → Reads n (if b then Const 0 else none_at app plan (app.level u))
      go true = tt
      go false = reads_cell (Waits (app.level u) 0) (waits_valid u lt)

  first_is_reads : (t : ℕ) → t < plan.tasks → Reads n (first_is app plan t)
  first_is_reads t lt = (reads_cell (Waits (app.level t) 0) (waits_valid t lt), tt)

  first_after_reads : (x : Option ℕ) (t : ℕ) → t < plan.tasks → Reads n (first_after app plan x t)
  first_after_reads x t lt = go (is_it x t)
    where
      go : (b : Bool) → Reads n (if b then either (none_at app plan (app.level t)) (first_is app plan t) else first_is app plan t)
      go true = (reads_cell (Waits (app.level t) 0) (waits_valid t lt), tt, first_is_reads t lt)
      go false = first_is_reads t lt

  none_above_reads : (x : Option ℕ) (l u : ℕ) → u ≤ plan.tasks → Reads n (none_above app plan x l u)
  none_above_reads x l zero le = tt
  none_above_reads x l (suc u) le = go (nat_lt l (app.level u)) (none_above_reads x l u (omega arith))
    where
      go : (b : Bool) → Reads n (none_above app plan x l u) → Reads n (if b then both (none_after app plan x (app.level u)) (none_above app plan x l u) else none_above app plan x l u)
      go true ih = (none_after_reads x u (omega arith), ih, tt)
      go false ih = ih

  none_of_reads : (slot : ℕ → Slot) (test : ℕ → Bool) (u count : ℕ) → ((w : ℕ) → w < count → IsValid app plan (slot w)) → u ≤ count → Reads n (none_of app plan slot test u)
  none_of_reads slot test zero count valid le = tt
  none_of_reads slot test (suc u) count valid le = go (test u) (none_of_reads slot test u count valid (omega arith))
    where
      go : (b : Bool) → Reads n (none_of app plan slot test u) → Reads n (if b then both (negated (cell app plan (slot u))) (none_of app plan slot test u) else none_of app plan slot test u)
      go true ih = (reads_cell (slot u) (valid u (omega arith)), ih, tt)
      go false ih = ih

  nobody_reads : (test : ℕ → Bool) → Reads n (none_of app plan On test plan.tasks)
  nobody_reads test = none_of_reads On test plan.tasks plan.tasks (λ w lt. lt) (omega arith)

  nothing_reads : (test : ℕ → Bool) → Reads n (none_of app plan Held test plan.resources)
  nothing_reads test = none_of_reads Held test plan.resources plan.resources (λ w lt. lt) (omega arith)

  may_start_reads : (e : ℕ) (x : Option ℕ) (t : ℕ) → t < plan.tasks → Reads n (may_start app plan e x t)
  may_start_reads e x t lt = (
    first_after_reads x t lt,
    (none_above_reads x (app.level t) plan.tasks (omega arith), (nobody_reads (runs_at app plan (app.level t) (app.level e)), nothing_reads (ceiling_at app plan (app.level t) (app.level e)), tt), tt),
    tt,
  )

  may_push_reads : (r t : ℕ) → t < plan.tasks → Reads n (may_push app plan r t)
  may_push_reads r t lt = (
    first_is_reads t lt,
    (none_above_reads None (app.level t) plan.tasks (omega arith), nothing_reads (λ q. not (q == r) && nat_le (app.level t) (app.ceiling q)), tt),
    tt,
  )

  full_reads : (t : ℕ) → t < plan.tasks → Reads n (full app plan t)
  full_reads t lt = (tt, reads_cell (Count t) lt)

  last_reads : (e : ℕ) → e < plan.tasks → Reads n (last_kept app plan e)
  last_reads e lt = go (nat_lt 0 plan.resources) refl
    where
      go : (b : Bool) → nat_lt 0 plan.resources ≡ b → Reads n (if b then cell app plan (Kept e 0) else Const 0)
      go true k = let some : 0 < plan.resources = grind (arith, nat_tests) in reads_cell (Kept e 0) (lt, some)
      go false k = tt

  -- rules that change the scheduler's state
  change_fine : (guard : Term) (c : Change) (control : Control) → Reads n guard → Leads m control → IsFine n m (plain guard (change_sets app plan c) control)
  change_fine guard c control reads leads =
      record {
        guard = reads;
        read = change_read app plan code.cells n room.apart room.high c;
        apart = change_apart app plan code.cells n room.apart room.high c;
        leads = leads;
        input = refl;
      }

  nexts_fine : (width : ℕ → Width) (own sets : List (ℕ × Term)) (control : ℕ → Control) (points : List PlainPoint) (xs : List (Term × ℕ)) → AreSetsRead n own → AreSetsRead n (own ++ sets) → AreApart (own ++ sets) → ((k : ℕ) → Has points k → Leads m (control k)) → FitsNexts code.cells points xs → AreFine n m (next_rules app plan width own sets control xs)
  nexts_fine width own sets control points [] a b c d h = tt
  nexts_fine width own sets control points (x ∷ xs) a b c d h = (
    record { guard = after_reads n width own x.0 a (reads_low x.0 h.0); read = b; apart = c; leads = d x.1 h.1; input = refl },
    nexts_fine width own sets control points xs a b c d h.2,
  )

  module _ (width : ℕ → Width) (e : ℕ) (inside : e < plan.tasks) where
    goto_leads : (k : ℕ) → Has (code.points e) k → Leads m (Goto (plan.number e k))
    goto_leads k has = room.numbers e k has

    push_leads : (t : ℕ) → t < plan.tasks → (k : ℕ) → Has (code.points e) k → Leads m (Push (plan.number e k) (plan.number t 0))
    push_leads t lt k has =
        let one = room.numbers e k has in
        let two = room.numbers t 0 (room.begins t lt) in
        (one.0, one.1, two.0, two.1)

    -- the entity goes on with a change
    change_nexts : (c : Change) (control : ℕ → Control) (xs : List (Term × ℕ)) → ((k : ℕ) → Has (code.points e) k → Leads m (control k)) → FitsNexts code.cells (code.points e) xs → AreFine n m (next_rules app plan width [] (change_sets app plan c) control xs)
    change_nexts c control xs leads h =
        nexts_fine width [] (change_sets app plan c) control (code.points e) xs tt
        (change_read app plan code.cells n room.apart room.high c)
        (change_apart app plan code.cells n room.apart room.high c)
        leads h

    -- the entity goes on with sets of its own
    own_nexts : (own : List (ℕ × Term)) (xs : List (Term × ℕ)) → AreSetsRead n own → AreApart own → FitsNexts code.cells (code.points e) xs → AreFine n m (goes_on app plan width e own xs)
    own_nexts own xs a b h =
        nexts_fine width own [] (λ k. Goto (plan.number e k)) (code.points e) xs a
        (subst (λ ss. AreSetsRead n ss) (sym (append-nil own)) a)
        (subst AreApart (sym (append-nil own)) b)
        goto_leads h

    start_fine : (x : Option ℕ) (t : ℕ) → t ≤ plan.tasks → AreFine n m (start_rules app plan e x t)
    start_fine x zero le = tt
    start_fine x (suc t) le = go (may_follow app plan e x t) (start_fine x t (omega arith))
      where
        lt : t < plan.tasks
        lt = omega arith

        go : (b : Bool) → AreFine n m (start_rules app plan e x t) → AreFine n m (if b then start_rule app plan e x t ∷ start_rules app plan e x t else start_rules app plan e x t)
        go true ih = (change_fine (may_start app plan e x t) (end_change e x (Some t)) (PopPush (plan.number t 0)) (may_start_reads e x t lt) (room.numbers t 0 (room.begins t lt)), ih)
        go false ih = ih

    end_fine : (x : Option ℕ) → AreFine n m (end_rules app plan e x)
    end_fine x =
        fine-append n m (start_rules app plan e x plan.tasks) _ (start_fine x plan.tasks (omega arith))
        (change_fine (Const 1) (end_change e x None) Pop tt tt, tt)

    push_fine : (r : ℕ) (nexts : List (Term × ℕ)) (t : ℕ) → t ≤ plan.tasks → FitsNexts code.cells (code.points e) nexts → AreFine n m (push_rules app plan width e r nexts t)
    push_fine r nexts zero le h = tt
    push_fine r nexts (suc t) le h = go (nat_lt (app.run_level e) (app.level t) && nat_le (app.level t) (app.ceiling r)) (push_fine r nexts t (omega arith) h)
      where
        lt : t < plan.tasks
        lt = omega arith

        go : (b : Bool) → AreFine n m (push_rules app plan width e r nexts t) → AreFine n m (if b then guarded (may_push app plan r t) (next_rules app plan width [] (change_sets app plan (released e r (Some t))) (λ k. Push (plan.number e k) (plan.number t 0)) nexts) ++ push_rules app plan width e r nexts t else push_rules app plan width e r nexts t)
        go true ih =
            fine-append n m (guarded (may_push app plan r t) (next_rules app plan width [] (change_sets app plan (released e r (Some t))) (λ k. Push (plan.number e k) (plan.number t 0)) nexts)) (push_rules app plan width e r nexts t)
            (guarded_fine n m (may_push app plan r t) _ (may_push_reads r t lt) (change_nexts (released e r (Some t)) (λ k. Push (plan.number e k) (plan.number t 0)) nexts (push_leads t lt) h))
            ih
        go false ih = ih

    activate_fine : (x : ℕ) (nexts : List (Term × ℕ)) → x < plan.tasks → FitsNexts code.cells (code.points e) nexts → AreFine n m (activate_rules app plan width e x nexts)
    activate_fine x nexts lt h = go (nat_lt (app.run_level e) (app.level x))
      where
        waiting : AreFine n m (added_rules app plan width e x nexts)
        waiting = change_nexts (added x) (λ k. Goto (plan.number e k)) nexts goto_leads h

        go : (b : Bool) → AreFine n m (if b then guarded (none_held app plan (app.level x)) (next_rules app plan width [] (change_sets app plan (pushed x)) (λ k. Push (plan.number e k) (plan.number x 0)) nexts) ++ added_rules app plan width e x nexts else added_rules app plan width e x nexts)
        go true =
            fine-append n m (guarded (none_held app plan (app.level x)) (next_rules app plan width [] (change_sets app plan (pushed x)) (λ k. Push (plan.number e k) (plan.number x 0)) nexts)) (added_rules app plan width e x nexts)
            (guarded_fine n m (none_held app plan (app.level x)) _ (nothing_reads (λ r. nat_le (app.level x) (app.ceiling r))) (change_nexts (pushed x) (λ k. Push (plan.number e k) (plan.number x 0)) nexts (push_leads x lt) h))
            waiting
        go false = waiting

    service_fine : (resources : ℕ) (s : Service) (nexts : List (Term × ℕ)) → FitsService app resources code.cells (code.points e) nexts s → AreFine n m (service_rules app plan width e s nexts)
    service_fine resources (Activate x) nexts h = activate_fine x.0 nexts (room.tasks x.0 h.0) h.1.0
    service_fine resources Terminate nexts h = end_fine None
    service_fine resources (Chain x) nexts h = end_fine (Some x.0)
    service_fine resources (Get r) nexts h = change_nexts (got e r) (λ k. Goto (plan.number e k)) nexts goto_leads h.1.0
    service_fine resources (Release r) nexts h =
        fine-append n m (push_rules app plan width e r nexts plan.tasks) _ (push_fine r nexts plan.tasks (omega arith) h.0)
        (change_nexts (released e r None) (λ k. Goto (plan.number e k)) nexts goto_leads h.0)
    service_fine resources Schedule nexts h = absurd h
    service_fine resources DisableAll nexts h = absurd h
    service_fine resources EnableAll nexts h = absurd h
    service_fine resources SuspendAll nexts h = absurd h
    service_fine resources ResumeAll nexts h = absurd h
    service_fine resources SuspendOs nexts h = absurd h
    service_fine resources ResumeOs nexts h = absurd h

    index_reads : (o : Option Term) → FitsIndex code.cells o → Reads n (index_term o)
    index_reads None h = tt
    index_reads (Some t) h = reads_low t h

    write_read : (base len : ℕ) (index v : Term) → base + len ≤ code.cells → Reads n index → Reads n v → AreSetsRead n (write_sets base index v len)
    write_read base zero index v le a b = tt
    write_read base (suc j) index v le a b =
        let low = room.low in
        (omega arith, ((a, tt), b, (omega arith, omega arith)), write_read base j index v (omega arith) a b)

    write_misses : (base len q : ℕ) (index v : Term) → base + len ≤ q → Misses q (write_sets base index v len)
    write_misses base zero q index v le = tt
    write_misses base (suc j) q index v le = (λ z. absurd (omega arith), write_misses base j q index v (omega arith))

    write_apart : (base len : ℕ) (index v : Term) → AreApart (write_sets base index v len)
    write_apart base zero index v = tt
    write_apart base (suc j) index v = (write_misses base j (base + j) index v (omega arith), write_apart base j index v)

    sets_read : (ss : List (ℕ × Term)) → FitsSets code.cells ss → AreSetsRead n ss
    sets_read [] h = tt
    sets_read (s ∷ ss) h = let lt = h.0 in let low = room.low in (omega arith, reads_low s.1 h.1, sets_read ss h.3)

    sets_apart : (ss : List (ℕ × Term)) → FitsSets code.cells ss → AreApart ss
    sets_apart [] h = tt
    sets_apart (s ∷ ss) h = (h.2, sets_apart ss h.3)

    low_cell : (q : ℕ) → q < code.cells → q < n
    low_cell q lt = let low = room.low in omega arith

    action_fine : (resources : ℕ) (a : PlainAction) (nexts : List (Term × ℕ)) → FitsAction app resources code (code.points e) nexts a → AreFine n m (action_rules app plan width e a nexts)
    action_fine resources (Read t into) nexts h =
        let target = h.0 in
        let within = target.1 in
        let low = room.low in
        own_nexts ((into, Pick t.base t.len false (index_term t.index)) ∷ []) nexts
        (low_cell into h.1.0, (target.0, omega arith, omega arith, index_reads t.index target.2), tt) (tt, tt) h.2.0
    action_fine resources (Write t v) nexts h =
        own_nexts (write_sets t.base (index_term t.index) v t.len) nexts
        (write_read t.base t.len (index_term t.index) v h.0.1 (index_reads t.index h.0.2) (reads_low v h.1)) (write_apart t.base t.len (index_term t.index) v) h.2.0
    action_fine resources (Local q v) nexts h = own_nexts ((q, v) ∷ []) nexts (low_cell q h.0, reads_low v h.1, tt) (tt, tt) h.2.0
    action_fine resources (Branch v) nexts h = own_nexts [] nexts tt tt h.1.0
    action_fine resources (Input q) nexts h = absurd h
    action_fine resources (Call f sets) nexts h = own_nexts sets nexts (sets_read sets h.0) (sets_apart sets h.0) h.1.0
    action_fine resources (Return None) nexts h = own_nexts [] nexts tt tt h.1.0
    action_fine resources (Return (Some s)) nexts h = own_nexts (s ∷ []) nexts (low_cell s.0 h.0.0, reads_low s.1 h.0.1, tt) (tt, tt) h.1.0
    action_fine resources (Invoke s) nexts h = service_fine resources s nexts h
    action_fine resources (Assert v) nexts h = own_nexts [] nexts tt tt h.1.0
    action_fine resources End nexts h = tt

    traps_read : (xs : List (Term × ℕ)) → FitsTerms code.cells xs → Reads n (any_of xs)
    traps_read [] h = tt
    traps_read (x ∷ xs) h = (reads_low x.0 h.0, tt, traps_read xs h.1)

    others_reads : (x : ℕ) → x < plan.tasks → Reads n (full_others app plan e x)
    others_reads x lt = go (x == e)
      where
        go : (b : Bool) → Reads n (if b then Const 0 else full app plan x)
        go true = tt
        go false = full_reads x lt

    service_error_reads : (s : Service) (nexts : List (Term × ℕ)) → FitsService app plan.resources code.cells (code.points e) nexts s → Reads n (service_error app plan e s)
    service_error_reads (Activate x) nexts h = full_reads x.0 (room.tasks x.0 h.0)
    service_error_reads Terminate nexts h = last_reads e inside
    service_error_reads (Chain x) nexts h = (last_reads e inside, tt, others_reads x.0 (room.tasks x.0 h))
    service_error_reads (Get r) nexts h = reads_cell (Held r) h.0
    service_error_reads (Release r) nexts h = (last_reads e inside, tt)
    service_error_reads Schedule nexts h = absurd h
    service_error_reads DisableAll nexts h = absurd h
    service_error_reads EnableAll nexts h = absurd h
    service_error_reads SuspendAll nexts h = absurd h
    service_error_reads ResumeAll nexts h = absurd h
    service_error_reads SuspendOs nexts h = absurd h
    service_error_reads ResumeOs nexts h = absurd h

    error_reads : (a : PlainAction) (nexts : List (Term × ℕ)) → FitsAction app plan.resources code (code.points e) nexts a → Reads n (action_error app plan e a)
    error_reads (Read t into) nexts h = tt
    error_reads (Write t v) nexts h = tt
    error_reads (Local q v) nexts h = tt
    error_reads (Branch v) nexts h = tt
    error_reads (Input q) nexts h = absurd h
    error_reads (Call f sets) nexts h = tt
    error_reads (Return s) nexts h = tt
    error_reads (Invoke s) nexts h = service_error_reads s nexts h
    error_reads (Assert v) nexts h = reads_low v h.0
    error_reads End nexts h = tt

    -- the rules of a point are well shaped
    pub point_fine : (p : PlainPoint) → FitsPoint app plan.resources code (code.points e) p → AreFine n m (point_rules app plan width e p)
    point_fine p h = (
      record { guard = (traps_read p.traps h.traps, tt, error_reads p.action p.nexts h.action); read = tt; apart = tt; leads = tt; input = refl },
      action_fine plan.resources p.action p.nexts h.action,
    )

    -- how many there are
    start_count : (x : Option ℕ) (t : ℕ) → length (start_rules app plan e x t) ≤ t
    start_count x zero = omega arith
    start_count x (suc t) = go (may_follow app plan e x t) (start_count x t)
      where
        go : (b : Bool) → length (start_rules app plan e x t) ≤ t → length (if b then start_rule app plan e x t ∷ start_rules app plan e x t else start_rules app plan e x t) ≤ suc t
        go true ih = omega arith
        go false ih = omega arith

    end_count : (x : Option ℕ) → length (end_rules app plan e x) ≤ 17
    end_count x =
        let some = start_count x plan.tasks in
        let all = length-append (start_rules app plan e x plan.tasks) (plain (Const 1) (change_sets app plan (end_change e x None)) Pop ∷ []) in
        let few = room.few in
        omega arith

    push_count : (r : ℕ) (nexts : List (Term × ℕ)) (t : ℕ) → length nexts ≤ 2048 → length (push_rules app plan width e r nexts t) ≤ t * 2048
    push_count r nexts zero le = omega arith
    push_count r nexts (suc t) le = go (nat_lt (app.run_level e) (app.level t) && nat_le (app.level t) (app.ceiling r)) (push_count r nexts t le)
      where
        here : List Rule
        here = next_rules app plan width [] (change_sets app plan (released e r (Some t))) (λ k. Push (plan.number e k) (plan.number t 0)) nexts

        go : (b : Bool) → length (push_rules app plan width e r nexts t) ≤ t * 2048 → length (if b then guarded (may_push app plan r t) (next_rules app plan width [] (change_sets app plan (released e r (Some t))) (λ k. Push (plan.number e k) (plan.number t 0)) nexts) ++ push_rules app plan width e r nexts t else push_rules app plan width e r nexts t) ≤ suc t * 2048
        go true ih =
            let all = length-append (guarded (may_push app plan r t) (next_rules app plan width [] (change_sets app plan (released e r (Some t))) (λ k. Push (plan.number e k) (plan.number t 0)) nexts)) (push_rules app plan width e r nexts t) in
            let one = length-guarded (may_push app plan r t) (next_rules app plan width [] (change_sets app plan (released e r (Some t))) (λ k. Push (plan.number e k) (plan.number t 0)) nexts) in
            let two = length-next app plan width [] (change_sets app plan (released e r (Some t))) (λ k. Push (plan.number e k) (plan.number t 0)) nexts in
            omega arith
        go false ih = omega arith

    release_count : (r : ℕ) (nexts : List (Term × ℕ)) → length nexts ≤ 2048 → length (release_rules app plan width e r nexts) ≤ 34816
    release_count r nexts le =
        let some = push_count r nexts plan.tasks le in
        let rest = length-next app plan width [] (change_sets app plan (released e r None)) (λ k. Goto (plan.number e k)) nexts in
        let all = length-append (push_rules app plan width e r nexts plan.tasks) (next_rules app plan width [] (change_sets app plan (released e r None)) (λ k. Goto (plan.number e k)) nexts) in
        let few = room.few in
        omega arith

    activate_count : (x : ℕ) (nexts : List (Term × ℕ)) → length nexts ≤ 2048 → length (activate_rules app plan width e x nexts) ≤ 34816
    activate_count x nexts le = go (nat_lt (app.run_level e) (app.level x))
      where
        rest : length (added_rules app plan width e x nexts) ≡ length nexts
        rest = length-next app plan width [] (change_sets app plan (added x)) (λ k. Goto (plan.number e k)) nexts

        go : (b : Bool) → length (if b then guarded (none_held app plan (app.level x)) (next_rules app plan width [] (change_sets app plan (pushed x)) (λ k. Push (plan.number e k) (plan.number x 0)) nexts) ++ added_rules app plan width e x nexts else added_rules app plan width e x nexts) ≤ 34816
        go true =
            let all = length-append (guarded (none_held app plan (app.level x)) (next_rules app plan width [] (change_sets app plan (pushed x)) (λ k. Push (plan.number e k) (plan.number x 0)) nexts)) (added_rules app plan width e x nexts) in
            let one = length-guarded (none_held app plan (app.level x)) (next_rules app plan width [] (change_sets app plan (pushed x)) (λ k. Push (plan.number e k) (plan.number x 0)) nexts) in
            let two = length-next app plan width [] (change_sets app plan (pushed x)) (λ k. Push (plan.number e k) (plan.number x 0)) nexts in
            let last = rest in
            omega arith
        go false = let last = rest in omega arith

    service_count : (s : Service) (nexts : List (Term × ℕ)) → length nexts ≤ 2048 → length (service_rules app plan width e s nexts) ≤ 34816
    service_count (Activate x) nexts le = activate_count x.0 nexts le
    service_count Terminate nexts le = let few = end_count None in omega arith
    service_count (Chain x) nexts le = let few = end_count (Some x.0) in omega arith
    service_count (Get r) nexts le =
        let all = length-next app plan width [] (change_sets app plan (got e r)) (λ k. Goto (plan.number e k)) nexts in
        omega arith
    service_count (Release r) nexts le = release_count r nexts le
    service_count Schedule nexts le = omega arith
    service_count DisableAll nexts le = omega arith
    service_count EnableAll nexts le = omega arith
    service_count SuspendAll nexts le = omega arith
    service_count ResumeAll nexts le = omega arith
    service_count SuspendOs nexts le = omega arith
    service_count ResumeOs nexts le = omega arith

    goes_count : (own : List (ℕ × Term)) (nexts : List (Term × ℕ)) → length nexts ≤ 2048 → length (goes_on app plan width e own nexts) ≤ 34816
    goes_count own nexts le = let all = length-next app plan width own [] (λ k. Goto (plan.number e k)) nexts in omega arith

    action_count : (a : PlainAction) (nexts : List (Term × ℕ)) → length nexts ≤ 2048 → length (action_rules app plan width e a nexts) ≤ 34816
    action_count (Read t into) nexts le = goes_count ((into, Pick t.base t.len false (index_term t.index)) ∷ []) nexts le
    action_count (Write t v) nexts le = goes_count (write_sets t.base (index_term t.index) v t.len) nexts le
    action_count (Local q v) nexts le = goes_count ((q, v) ∷ []) nexts le
    action_count (Branch v) nexts le = goes_count [] nexts le
    action_count (Input q) nexts le = omega arith
    action_count (Call f sets) nexts le = goes_count sets nexts le
    action_count (Return s) nexts le = goes_count (return_sets s) nexts le
    action_count (Invoke s) nexts le = service_count s nexts le
    action_count (Assert v) nexts le = goes_count [] nexts le
    action_count End nexts le = omega arith

    -- a point has at most 34,817 rules
    pub point_count : (p : PlainPoint) → length p.nexts ≤ 2048 → length (point_rules app plan width e p) ≤ 34817
    point_count p le = let rest = action_count p.action p.nexts le in omega arith

-- an alternative over n cells and m points that is well shaped
pub record IsGood (n m : ℕ) (a : PlainAlternative) : Type 0 where
  pub guard : Reads n a.guard
  pub read : AreSetsRead n a.sets
  pub apart : AreApart a.sets
  pub leads : Leads m a.control
  pub input : a.input ≡ None
  pub from : 1 ≤ a.label
  pub below : a.label < 2 ^ 20

-- all are, and their labels rise from this number on
abbrev pub AreGood : ℕ → ℕ → ℕ → List PlainAlternative → Type 0
AreGood n m bound [] = Unit {0}
AreGood n m bound (a ∷ others) = IsGood n m a × (bound ≤ a.label) × AreGood n m (a.label + 1) others

pub good_less : (n m low high : ℕ) (xs : List PlainAlternative) → low ≤ high → AreGood n m high xs → AreGood n m low xs
good_less n m low high [] le h = tt
good_less n m low high (x ∷ xs) le h = let up = h.1 in (h.0, omega arith, h.2)

-- the alternatives of well-shaped rules are well shaped
pub alternatives_good : (n m limit : ℕ) (label : ℕ → ℕ) → ((j : ℕ) → label j < label (j + 1)) → ((j : ℕ) → j < limit → (1 ≤ label j) × (label j < 2 ^ 20)) → (none : Term) (k : ℕ) (rs : List Rule) → Reads n none → k + length rs ≤ limit → AreFine n m rs → AreGood n m (label k) (alternatives label none k rs)
alternatives_good n m limit label rises within none k [] reads le h = tt
alternatives_good n m limit label rises within none k (r ∷ rs) reads le h =
    let one = h.0 in
    let bounds = within k (omega arith) in
    let up = rises k in (
      record { guard = (reads, one.guard, tt); read = one.read; apart = one.apart; leads = one.leads; input = one.input; from = bounds.0; below = bounds.1 },
      omega arith,
      good_less n m (label k + 1) (label (k + 1)) (alternatives label (both none (negated r.guard)) (k + 1) rs) (omega arith)
          (alternatives_good n m limit label rises within (both none (negated r.guard)) (k + 1) rs (reads, one.guard, tt) (omega arith) h.1),
    )
