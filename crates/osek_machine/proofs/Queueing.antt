-- A request that is queued.
use Rattle.std.proofs.Common.{◌≡◌, ℕ, suc, ◌+◌, ◌*◌, ◌<◌, ◌≤◌, false, List, [], ◌∷◌, ◌++◌, length, slice_set, slice_index, refl, sym, ap, ap₂, subst, subst₂, ◌∙◌, arith, if◌then◌else◌, ◌==◌, length-set}
use Rattle.std.proofs.Math.Path.{fun_ext}
use Rattle.std.proofs.lemmas.Bool.Decides.{nat_tests}
use Rattle.osek_machine.proofs.States.{index_set}
use Rattle.osek_machine.specs.Kept.{Kept, IsKept, state_of}
use Rattle.osek_machine.specs.Ready.{entries_at, AreBelow, tasks_of}
use Rattle.osek_machine.specs.Changing.{Changes}
use Rattle.osek_machine.specs.declared.ready.Waiting.{Waiting}
use Rattle.osek_machine.proofs.Laws.{AreFew}
use Rattle.step_ir.specs.Numbers.{AreUnder, times, put}
use Rattle.step_ir.specs.SchedulerState.{Fresh}
use Rattle.step_ir.specs.SchedulerStep.{queue}
use Rattle.step_ir.specs.Setting.{setting_of, highest_level}

-- an entry of a request that was not begun
abbrev fresh_entry : ℕ → ℕ → Waiting
fresh_entry l t = record { level = l; task = t; begun = false }

-- an entry put last is last in the list of its level
entries_at-append : (ws : List Waiting) (l t q : ℕ) → entries_at (ws ++ fresh_entry l t ∷ []) q ≡ (if q == l then entries_at ws q ++ Fresh t ∷ [] else entries_at ws q)
entries_at-append [] l t q = grind (arith, nat_tests)
entries_at-append (w ∷ ws) l t q = let ih = entries_at-append ws l t q in grind (arith, nat_tests)

-- the same for all levels
entries_queued : (ws : List Waiting) (l t : ℕ) → entries_at (ws ++ fresh_entry l t ∷ []) ≡ put (entries_at ws) l (entries_at ws l ++ Fresh t ∷ [])
entries_queued ws l t = fun_ext (λ q. let e = entries_at-append ws l t q in grind (arith, nat_tests))

-- its task stands once more among the tasks
tasks_of-append : (ws : List Waiting) (l t q : ℕ) → times q (tasks_of (ws ++ fresh_entry l t ∷ [])) ≡ times q (tasks_of ws) + (if t == q then 1 else 0)
tasks_of-append [] l t q = grind (arith, nat_tests)
tasks_of-append (w ∷ ws) l t q = let ih = tasks_of-append ws l t q in grind (arith, nat_tests)

-- tasks and levels stay below their bounds
AreBelow-append : (n : ℕ) (ws : List Waiting) (l t : ℕ) → AreBelow n ws → t < n → l ≤ highest_level → AreBelow n (ws ++ fresh_entry l t ∷ [])
AreBelow-append n [] l t h a b = (a, b, tt)
AreBelow-append n (w ∷ ws) l t h a b = (h.0, h.1, AreBelow-append n ws l t h.2 a b)

-- the tasks of entries are below their bound
pub under : (n : ℕ) (ws : List Waiting) → AreBelow n ws → AreUnder n (tasks_of ws)
under n [] h = tt
under n (w ∷ ws) h = (h.0, under n ws h.2)

-- there are as many tasks as entries
pub length-tasks_of : (ws : List Waiting) → length (tasks_of ws) ≡ length ws
length-tasks_of [] = refl
length-tasks_of (w ∷ ws) = ap suc (length-tasks_of ws)

-- where a task may have one more request, there is room for it
pub has_room : AreFew → (k : Kept) (t : ℕ) → IsKept k → t < length k.app.tasks → slice_index k.requests t < 8 → length k.ready < 128
has_room law k t inv known free =
    let n = length k.app.tasks in
    let all : length (t ∷ tasks_of k.ready) ≤ n * 8 = law n 8 (t ∷ tasks_of k.ready) (known, under n k.ready inv.queued.waits) few in
    let same = length-tasks_of k.ready in
    let small = inv.fixed.order.few_entities in
    omega arith
  where
    few : (q : ℕ) → times q (t ∷ tasks_of k.ready) ≤ 8
    few q =
        let a = inv.queued.counts q in
        let b = inv.queued.in_limit q in
        grind (arith, nat_tests)

-- what holds of a machine holds after a request
pub queued_kept : (k : Kept) (t l : ℕ) → IsKept k → t < length k.app.tasks → slice_index k.requests t < 8 → l ≡ (setting_of k.app).level t → IsKept (record k { ready = k.ready ++ fresh_entry l t ∷ []; requests = slice_set k.requests t (slice_index k.requests t + 1) })
queued_kept k t l inv known free level =
    record {
      fixed = inv.fixed;
      over = inv.over;
      points = inv.points;
      queued =
          record {
            requested = length-set k.requests t _ ∙ inv.queued.requested;
            in_limit = λ q. let a = at q in let b = inv.queued.in_limit q in grind (arith, nat_tests);
            runs = inv.queued.runs;
            waits = AreBelow-append (length k.app.tasks) k.ready l t inv.queued.waits known low;
            counts = λ q. let a = at q in let b = inv.queued.counts q in let d = tasks_of-append k.ready l t q in grind (arith, nat_tests);
          };
      held = inv.held;
      active = inv.active;
      sections = inv.sections;
    }
  where
    low : l ≤ highest_level
    low = let s = inv.fixed.sound in omega (arith, level, s.runs_above t, s.run_levels t)

    at : (q : ℕ) → slice_index (slice_set k.requests t (slice_index k.requests t + 1)) q ≡ (if q == t then slice_index k.requests t + 1 else slice_index k.requests q)
    at q = ap (λ f. f q) (index_set k.requests t (slice_index k.requests t + 1) (omega (arith, known, inv.queued.requested)))

-- a request changes the state as the scheduler's does
pub queued_changes : (k old : Kept) (t l : ℕ) → k ≡ old → IsKept k → t < length k.app.tasks → l ≡ (setting_of k.app).level t → Changes (λ app beh. queue app t) old (record k { ready = k.ready ++ fresh_entry l t ∷ []; requests = slice_set k.requests t (slice_index k.requests t + 1) })
queued_changes k old t l same inv known level =
    subst (λ o. Changes (λ app beh. queue app t) o (record k { ready = k.ready ++ fresh_entry l t ∷ []; requests = slice_set k.requests t (slice_index k.requests t + 1) })) same
    (record { state = state; app = refl; code = refl })
  where
    state : state_of (record k { ready = k.ready ++ fresh_entry l t ∷ []; requests = slice_set k.requests t (slice_index k.requests t + 1) }) ≡ queue (setting_of k.app) t (state_of k)
    state =
        ap₂ (λ w r. record (state_of k) { ready = w; requests = r })
        (entries_queued k.ready l t ∙ ap (λ x. put (entries_at k.ready) x (entries_at k.ready x ++ Fresh t ∷ [])) level)
        (index_set k.requests t (slice_index k.requests t + 1) (omega (arith, known, inv.queued.requested)))

-- the same for the lists that were changed
pub queued_fields_kept : (k : Kept) (t l : ℕ) (ready : List Waiting) (requests : List ℕ) → ready ≡ k.ready ++ fresh_entry l t ∷ [] → requests ≡ slice_set k.requests t (slice_index k.requests t + 1) → IsKept k → t < length k.app.tasks → slice_index k.requests t < 8 → l ≡ (setting_of k.app).level t → IsKept (record k { ready = ready; requests = requests })
queued_fields_kept k t l ready requests a b inv known free level =
    subst₂ (λ w r. IsKept (record k { ready = w; requests = r })) (sym a) (sym b) (queued_kept k t l inv known free level)

-- the same for the lists that were changed
pub queued_fields_change : (k old : Kept) (t l : ℕ) (ready : List Waiting) (requests : List ℕ) → k ≡ old → ready ≡ k.ready ++ fresh_entry l t ∷ [] → requests ≡ slice_set k.requests t (slice_index k.requests t + 1) → IsKept k → t < length k.app.tasks → l ≡ (setting_of k.app).level t → Changes (λ app beh. queue app t) old (record k { ready = ready; requests = requests })
queued_fields_change k old t l ready requests same a b inv known level =
    subst₂ (λ w r. Changes (λ app beh. queue app t) old (record k { ready = w; requests = r })) (sym a) (sym b) (queued_changes k old t l same inv known level)
