-- What a machine keeps, and the state that it stands for: a dispatch.
use Rattle.std.proofs.Common.{◌≡◌, ◌≢◌, ℕ, ◌<◌, ◌≤◌, Bool, true, false, List, [], ◌∷◌, length, set, get_or, Some, None, slice_set, slice_index, refl, sym, ap, ap₂, subst, ◌∙◌, arith, if◌then◌else◌, ◌==◌, length-set, get_or-set_other, get_or-set_same}
use Rattle.std.proofs.Math.Path.{fun_ext}
use Rattle.std.proofs.lemmas.Bool.Decides.{nat_tests}
use Rattle.osek_machine.specs.Faults.{IsRestarted}
use Rattle.osek_machine.specs.Held.{held_by, IsHeld, IsFreed}
use Rattle.osek_machine.specs.Kept.{Kept, IsKept, state_of, runs_as, entities_of}
use Rattle.osek_machine.specs.Ready.{entry_of, entries_at, IsTaken}
use Rattle.osek_machine.specs.Changing.{Changes}
use Rattle.osek_machine.specs.declared.held.Holding.{Holding}
use Rattle.osek_machine.specs.declared.ready.Waiting.{Waiting}
use Rattle.osek_machine.proofs.Laws.{AreEmpty, IsHighest}
use Rattle.step_ir.specs.Numbers.{put}
use Rattle.step_ir.specs.PointStep.{behaviour_of}
use Rattle.step_ir.specs.Reschedule.{highest, dispatch, take_from, take_first}
use Rattle.step_ir.specs.SchedulerState.{Fresh, Preempted}
use Rattle.step_ir.specs.Setting.{setting_of, highest_level}

-- a list that is written is its numbers, one of them put anew
pub index_set : (xs : List ℕ) (i v : ℕ) → i < length xs → slice_index (slice_set xs i v) ≡ put (slice_index xs) i v
index_set xs i v h = fun_ext (λ q. at q (q == i) refl)
  where
    at : (q : ℕ) (b : Bool) → (q == i) ≡ b → slice_index (slice_set xs i v) q ≡ (if b then v else slice_index xs q)
    at q true e =
        let same : q ≡ i = grind (arith, nat_tests) in
        subst (λ j. get_or (set xs i v) j 0 ≡ v) (sym same) (rw get_or-set_same)
    at q false e =
        let differ : q ≢ i = λ same. absurd (grind (arith, nat_tests)) in
        rw get_or-set_other

-- taking an entry out changes the list of its level alone
entries_put : (old : List Waiting) (w : Waiting) (new : List Waiting) → IsTaken old w new → entries_at new ≡ put (entries_at old) w.level (entries_at new w.level)
entries_put old w new taken = fun_ext (λ l. grind (arith, nat_tests, taken.others l))

-- nothing waits
pub nothing_dispatched : AreEmpty → (k : Kept) → k.running ≡ None → k.ready ≡ [] → state_of k ≡ dispatch (setting_of k.app) (behaviour_of k.code) (state_of k)
nothing_dispatched law k idle none =
    let found : highest (entries_at k.ready) highest_level ≡ None = law (entries_at k.ready) highest_level (λ l. ap (λ ws. entries_at ws l) none) in
    sym (ap (λ o. take_from (behaviour_of k.code) o (state_of k)) found ∙ ap (λ r. record (state_of k) { running = r }) (sym idle))

-- freeing all that an entity holds changes nothing else
pub held_freed : (old : List Holding) (t : ℕ) (new : List Holding) → IsFreed old t new → held_by new ≡ put (held_by old) t []
held_freed old t new free = fun_ext (λ q. go q (q == t) refl)
  where
    go : (q : ℕ) (b : Bool) → (q == t) ≡ b → held_by new q ≡ (if b then [] else held_by old q)
    go q true e = let here : q ≡ t = grind (arith, nat_tests) in ap (held_by new) here ∙ free.none
    go q false e = let other : q ≢ t = λ same. absurd (grind (arith, nat_tests)) in sym (free.others q other)

-- what holds of held resources holds afterwards
pub freed_held : (n : ℕ) (old : List Holding) (t : ℕ) (new : List Holding) → IsFreed old t new → IsHeld n old → IsHeld n new
freed_held n old t new free h = record { holders = free.holders n h.holders; once = λ q. omega (arith, free.counts q, h.once q) }

-- so it does where a task goes on
pub restarted_held : (n : ℕ) (b : Bool) (old : List Holding) (t : ℕ) (new : List Holding) → IsRestarted b old t new → IsHeld n old → IsHeld n new
restarted_held n true old t new same h = subst (IsHeld n) (sym same) h
restarted_held n false old t new free h = freed_held n old t new free h

-- a dispatch changes the state as the scheduler's does
pub dispatched : IsHighest → (k : Kept) (w : Waiting) (ready : List Waiting) (points : List ℕ) (held : List Holding) → w.task < length k.points → w.level ≤ highest_level → IsTaken k.ready w ready → points ≡ (if w.begun then k.points else slice_set k.points w.task 0) → IsRestarted w.begun k.held w.task held → state_of (record k { ready = ready; running = Some w.task; points = points; held = held }) ≡ dispatch (setting_of k.app) (behaviour_of k.code) (state_of k)
dispatched law k w ready points held within low taken is fresh = go w.begun is fresh ∙ sym chosen
  where
    found : highest (entries_at k.ready) highest_level ≡ Some w.level
    found = law (entries_at k.ready) highest_level w.level _ _ low taken.same taken.above

    chosen : dispatch (setting_of k.app) (behaviour_of k.code) (state_of k) ≡ take_first (behaviour_of k.code) w.level (entry_of w ∷ entries_at ready w.level) (state_of k)
    chosen =
        ap (λ o. take_from (behaviour_of k.code) o (state_of k)) found
        ∙ ap (λ es. take_first (behaviour_of k.code) w.level es (state_of k)) taken.same

    go : (b : Bool) → points ≡ (if b then k.points else slice_set k.points w.task 0) → IsRestarted b k.held w.task held → state_of (record k { ready = ready; running = Some w.task; points = points; held = held }) ≡ take_first (behaviour_of k.code) w.level ((if b then Preempted w.task else Fresh w.task) ∷ entries_at ready w.level) (state_of k)
    go true is same =
        ap₂ (λ s r. record (state_of k) { state = s; running = Some w.task; ready = r; held = held_by held }) (ap slice_index is) (entries_put k.ready w ready taken)
        ∙ ap (λ (h : List Holding). record (state_of k) { running = Some w.task; ready = put (entries_at k.ready) w.level (entries_at ready w.level); held = held_by h }) same
    go false is free =
        ap₂ (λ s r. record (state_of k) { state = s; running = Some w.task; ready = r; held = held_by held }) (ap slice_index is ∙ index_set k.points w.task 0 within) (entries_put k.ready w ready taken)
        ∙ ap (λ h. record (state_of k) { state = put (slice_index k.points) w.task 0; running = Some w.task; ready = put (entries_at k.ready) w.level (entries_at ready w.level); held = h }) (held_freed k.held w.task held free)

-- what holds of a machine holds after a dispatch
pub dispatched_kept : (k : Kept) (w : Waiting) (ready : List Waiting) (points : List ℕ) (held : List Holding) → IsKept k → k.running ≡ None → IsTaken k.ready w ready → points ≡ (if w.begun then k.points else slice_set k.points w.task 0) → IsRestarted w.begun k.held w.task held → IsKept (record k { ready = ready; running = Some w.task; points = points; held = held })
dispatched_kept k w ready points held inv idle taken is fresh =
    let below = taken.below (length k.app.tasks) inv.queued.waits in
    record {
      fixed = inv.fixed;
      over = inv.over;
      points = ap length is ∙ (same_length w.begun ∙ inv.points);
      queued =
          record {
            requested = inv.queued.requested;
            in_limit = inv.queued.in_limit;
            runs = λ e h. let same : w.task ≡ e = cc in subst (λ t. t < length k.app.tasks) same below.0;
            waits = below.2;
            counts = λ t. let none = ap (λ r. runs_as r t) idle in omega (arith, taken.counts t, inv.queued.counts t);
          };
      held = restarted_held (entities_of k.app) w.begun k.held w.task held fresh inv.held;
      active = inv.active;
      sections = inv.sections;
    }
  where
    same_length : (b : Bool) → length (if b then k.points else slice_set k.points w.task 0) ≡ length k.points
    same_length true = refl
    same_length false = length-set k.points w.task 0

-- the same for a value that a machine opened
pub dispatched_changes : IsHighest → (k old : Kept) (w : Waiting) (ready : List Waiting) (points : List ℕ) (held : List Holding) → k ≡ old → w.task < length k.points → w.level ≤ highest_level → IsTaken k.ready w ready → points ≡ (if w.begun then k.points else slice_set k.points w.task 0) → IsRestarted w.begun k.held w.task held → Changes (λ app beh. dispatch app beh) old (record k { ready = ready; running = Some w.task; points = points; held = held })
dispatched_changes law k old w ready points held same within low taken is fresh =
    subst (λ o. Changes (λ app beh. dispatch app beh) o (record k { ready = ready; running = Some w.task; points = points; held = held })) same
    (record { state = dispatched law k w ready points held within low taken is fresh; app = refl; code = refl })
