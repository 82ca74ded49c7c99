-- Each kind of step keeps the agreement.
use Rattle.std.proofs.Common.{◌≡◌, ◌≢◌, ℕ, ◌+◌, Bool, true, List, [], ◌∷◌, ◌++◌, refl, ◌∙◌, arith, ◌==◌, if◌then◌else◌, append_assoc, append-nil}
use Rattle.std.proofs.lemmas.Bool.Decides.{nat_tests}
use Rattle.trace_law.proofs.Agree.{IsLoose}
use Rattle.step_ir.proofs.Lists.{fresh_at-append, AreTasks-append}
use Rattle.step_ir.proofs.Stacks.{rises_below, matches_elsewhere}
use Rattle.step_ir.specs.Agreement.{fresh_at, preempted_at, IsAgreed}
use Rattle.step_ir.specs.EntityStep.{Behaviour}
use Rattle.step_ir.specs.Numbers.{times, tail, put}
use Rattle.step_ir.specs.OneStackMachine.{Stacked, Frame, standing, whos, request}
use Rattle.step_ir.specs.Reschedule.{put_back}
use Rattle.step_ir.specs.SchedulerState.{State, Entry, Fresh}
use Rattle.step_ir.specs.SchedulerStep.{queue, end_request}
use Rattle.step_ir.specs.Setting.{Setting, IsSound}

-- one more number at the end
times-append : (q : ℕ) (xs : List ℕ) (t : ℕ) → times q (xs ++ t ∷ []) ≡ times q xs + (if t == q then 1 else 0)
times-append q [] t = grind (arith, nat_tests)
times-append q (x ∷ xs) t = grind (arith, nat_tests, times-append q xs t)

module _ {S G : Type 0} (app : Setting) (ok : IsSound app) (beh : Behaviour S G) where
  -- a request more is last in the list of its level
  ready_after_queue : (ready : ℕ → List Entry) (before : List Entry) (fresh : List ℕ) (t l : ℕ) → ready l ≡ before ++ fresh_at app l fresh → put ready (app.level t) (ready (app.level t) ++ Fresh t ∷ []) l ≡ before ++ fresh_at app l (fresh ++ t ∷ [])
  ready_after_queue ready before fresh t l h =
      grind (arith, nat_tests, h, fresh_at-append app l fresh t, append_assoc before (fresh_at app l fresh) (Fresh t ∷ []), append-nil (fresh_at app l fresh))

  -- a request more
  pub queue_loose : (st : State S G) (m : Stacked S G) (t : ℕ) → app.is_task t ≡ true → IsLoose app st m → IsLoose app (queue app t st) (request t m)
  queue_loose st m t task loose =
      record {
        globals = loose.globals;
        sections = loose.sections;
        stopped = loose.stopped;
        active = loose.active;
        rises = loose.rises;
        matches = loose.matches;
        tasks = loose.tasks;
        fresh = AreTasks-append app m.fresh t loose.fresh task;
        ready = λ l. ready_after_queue st.ready (preempted_at app l m.stack) m.fresh t l (loose.ready l);
        requests = λ q. grind (arith, nat_tests, loose.requests q, times-append q m.fresh t);
        unheld = loose.unheld;
      }

  -- a request more keeps the agreement
  pub queue_agreed : (st : State S G) (m : Stacked S G) (over under : List (Frame S)) (t : ℕ) → app.is_task t ≡ true → IsAgreed app st m over under → IsAgreed app (queue app t st) (request t m) over under
  queue_agreed st m over under t task a =
      record {
        stack = a.stack;
        globals = a.globals;
        sections = a.sections;
        stopped = a.stopped;
        active = a.active;
        running = a.running;
        rises = a.rises;
        matches = a.matches;
        routines = a.routines;
        tasks = a.tasks;
        fresh = AreTasks-append app m.fresh t a.fresh task;
        ready = λ l. ready_after_queue st.ready (preempted_at app l (tail under)) m.fresh t l (a.ready l);
        requests = λ q. grind (arith, nat_tests, a.requests q, times-append q m.fresh t);
        unheld = a.unheld;
        awake = a.awake;
        top_awake = a.top_awake;
      }

  -- what is not in a list is not its first
  not_here : (e who : ℕ) (es : List ℕ) → times e (who ∷ es) ≡ 0 → e ≢ who
  not_here e who es none = λ same. grind (arith, nat_tests)

  -- the task on top changes
  pub retop_under : (st : State S G) (m : Stacked S G) (f : Frame S) (fs : List (Frame S)) (g g' : G) (s : S) (h : List ℕ) (state' : ℕ → S) (held' : ℕ → List ℕ) → g ≡ g' → state' f.who ≡ s → held' f.who ≡ h → ((q : ℕ) → q ≢ f.who → state' q ≡ st.state q) → ((q : ℕ) → q ≢ f.who → held' q ≡ st.held q) → IsAgreed app st m [] (f ∷ fs) → IsAgreed app (record st { globals = g; state = state'; held = held' }) (record m { globals = g'; stack = record f { state = s; held = h } ∷ fs }) [] (record f { state = s; held = h } ∷ fs)
  retop_under st m f fs g g' s h state' held' same here held_here others held_others a =
      record {
        stack = refl;
        globals = same;
        sections = a.sections;
        stopped = a.stopped;
        active = a.active;
        running = a.running;
        rises = a.rises;
        matches = (here, held_here, matches_elsewhere app f.who st.state state' st.held held' fs others held_others (rises_below app ok (app.level f.who) fs a.rises.0 a.rises.1) a.matches.2);
        routines = a.routines;
        tasks = a.tasks;
        fresh = a.fresh;
        ready = a.ready;
        requests = a.requests;
        unheld = λ e none. held_others e (not_here e f.who (whos fs) none) ∙ a.unheld e none;
        awake = a.awake;
        top_awake = a.top_awake;
      }

  -- the routine on top changes
  pub retop_over : (st : State S G) (m : Stacked S G) (f : Frame S) (fs under : List (Frame S)) (g g' : G) (s : S) (h : List ℕ) (state' : ℕ → S) (held' : ℕ → List ℕ) → g ≡ g' → state' f.who ≡ s → held' f.who ≡ h → ((q : ℕ) → q ≢ f.who → state' q ≡ st.state q) → ((q : ℕ) → q ≢ f.who → held' q ≡ st.held q) → IsAgreed app st m (f ∷ fs) under → IsAgreed app (record st { globals = g; state = state'; held = held' }) (record m { globals = g'; stack = record f { state = s; held = h } ∷ (fs ++ under) }) (record f { state = s; held = h } ∷ fs) under
  retop_over st m f fs under g g' s h state' held' same here held_here others held_others a =
      record {
        stack = refl;
        globals = same;
        sections = a.sections;
        stopped = a.stopped;
        active = a.active;
        running = a.running;
        rises = a.rises;
        matches = (here, held_here, matches_elsewhere app f.who st.state state' st.held held' (fs ++ under) others held_others (rises_below app ok (app.level f.who) (fs ++ under) a.rises.0 a.rises.1) a.matches.2);
        routines = a.routines;
        tasks = a.tasks;
        fresh = a.fresh;
        ready = a.ready;
        requests = a.requests;
        unheld = λ e none. held_others e (not_here e f.who (whos (fs ++ under)) none) ∙ a.unheld e none;
        awake = a.awake;
        top_awake = a.top_awake;
      }

  -- the running task is put back, at its standing level
  pub put_back_loose : (st : State S G) (m : Stacked S G) (f : Frame S) (fs : List (Frame S)) (l : ℕ) (yielded : Bool) → standing app (record f { yielded = yielded }) ≡ l → IsAgreed app st m [] (f ∷ fs) → IsLoose app (put_back l f.who st) (record m { stack = record f { yielded = yielded } ∷ fs })
  put_back_loose st m f fs l yielded at a =
      record {
        globals = a.globals;
        sections = a.sections;
        stopped = a.stopped;
        active = a.active;
        rises = a.rises;
        matches = a.matches;
        tasks = a.tasks;
        fresh = a.fresh;
        ready = λ q. grind (arith, nat_tests, a.ready q, a.ready l);
        requests = a.requests;
        unheld = a.unheld;
      }

  -- the running task's request ends
  pub ended_loose : (st : State S G) (m : Stacked S G) (f : Frame S) (fs : List (Frame S)) → f.held ≡ [] → IsAgreed app st m [] (f ∷ fs) → IsLoose app (end_request f.who st) (record m { stack = fs })
  ended_loose st m f fs free a =
      record {
        globals = a.globals;
        sections = a.sections;
        stopped = a.stopped;
        active = a.active;
        rises = a.rises.1;
        matches = a.matches.2;
        tasks = a.tasks.1;
        fresh = a.fresh;
        ready = a.ready;
        requests = λ q. grind (arith, nat_tests, a.requests q, a.requests f.who);
        unheld = λ e none. grind (arith, nat_tests, a.unheld e, a.matches.1, free);
      }
