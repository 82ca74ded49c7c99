-- The start of a machine, task by task.
use Rattle.std.proofs.Common.{◌≡◌, ◌≢◌, ℕ, zero, suc, ◌+◌, ◌<◌, ◌≤◌, Bool, true, false, List, [], ◌∷◌, ◌++◌, length, take, slice_get, slice_set, slice_index, refl, sym, ap, ap₂, subst, ◌∙◌, arith, if◌then◌else◌, append-nil, get_or-set_other, replicate, None}
use Rattle.std.proofs.Math.Path.{fun_ext}
use Rattle.std.proofs.lemmas.List.{take_all}
use Rattle.application.specs.declared.app.App.{App}
use Rattle.application.specs.declared.app.Task.{Task}
use Rattle.chk_base.specs.Widths.{PlainWord}
use Rattle.step_ir.specs.Points.{start_bits, start_words}
use Rattle.osek_machine.specs.Kept.{Kept, state_of}
use Rattle.osek_machine.specs.Beginning.{IsStarting, autostart_of, starts_at}
use Rattle.osek_machine.specs.Changing.{Changes}
use Rattle.osek_machine.specs.Steps.{StandsAt, start_of}
use Rattle.osek_machine.specs.declared.held.Holding.{Holding}
use Rattle.osek_machine.specs.declared.ready.Waiting.{Waiting}
use Rattle.step_ir.specs.PointStep.{Bits, behaviour_of}
use Rattle.step_ir.specs.Reschedule.{dispatch, give_back}
use Rattle.step_ir.specs.SchedulerState.{State, nothing_yet}
use Rattle.step_ir.specs.SchedulerStep.{queue, queue_all}
use Rattle.step_ir.specs.Setting.{Setting, setting_of, started_from}
use Rattle.step_ir.specs.declared.code.Code.{Code}
use Rattle.step_ir.specs.declared.event.Section.{Section}

-- one more task of those that are started at the start
started_more : (n i : ℕ) (ts : List Task) → i < length ts → started_from n (take (suc i) ts) ≡ started_from n (take i ts) ++ (if autostart_of (slice_get ts i) then (n + i) ∷ [] else [])
started_more n i [] h = absurd (omega arith)
started_more n zero (t ∷ ts) h = go t.autostart
  where
    go : (b : Bool) → (if b then n ∷ [] else []) ≡ (if b then (n + 0) ∷ [] else [])
    go true = ap (λ k. k ∷ []) (omega arith)
    go false = refl
started_more n (suc i) (t ∷ ts) h = go t.autostart (started_more (n + 1) i ts (omega arith))
  where
    go : (b : Bool) → started_from (n + 1) (take (suc i) ts) ≡ started_from (n + 1) (take i ts) ++ (if autostart_of (slice_get ts i) then (n + 1 + i) ∷ [] else []) → (if b then n ∷ started_from (n + 1) (take (suc i) ts) else started_from (n + 1) (take (suc i) ts)) ≡ (if b then n ∷ started_from (n + 1) (take i ts) else started_from (n + 1) (take i ts)) ++ (if autostart_of (slice_get ts i) then (n + suc i) ∷ [] else [])
    go b ih =
        let same : n + 1 + i ≡ n + suc i = omega arith in
        let ih' = subst (λ k. started_from (n + 1) (take (suc i) ts) ≡ started_from (n + 1) (take i ts) ++ (if autostart_of (slice_get ts i) then k ∷ [] else [])) same ih in
        each b ih'
      where
        each : (b : Bool) → started_from (n + 1) (take (suc i) ts) ≡ started_from (n + 1) (take i ts) ++ (if autostart_of (slice_get ts i) then (n + suc i) ∷ [] else []) → (if b then n ∷ started_from (n + 1) (take (suc i) ts) else started_from (n + 1) (take (suc i) ts)) ≡ (if b then n ∷ started_from (n + 1) (take i ts) else started_from (n + 1) (take i ts)) ++ (if autostart_of (slice_get ts i) then (n + suc i) ∷ [] else [])
        each true e = ap (λ ks. n ∷ ks) e
        each false e = e

-- requests are queued one list after the other
queue_all-append : (app : Setting) (xs ys : List ℕ) (st : State ℕ Bits) → queue_all app (xs ++ ys) st ≡ queue_all app ys (queue_all app xs st)
queue_all-append app [] ys st = refl
queue_all-append app (x ∷ xs) ys st = queue_all-append app xs ys (queue app x st)

-- a task that is started is queued
pub starting_queued : (app : App) (code : Code) (t : ℕ) (m n n' : Kept) → t < length app.tasks → true ≡ starts_at app t → n' ≡ n → Changes (λ a beh. queue a t) m n → n.requests ≡ slice_set m.requests t (slice_index m.requests t + 1) → n.running ≡ m.running → IsStarting app code t m → IsStarting app code (t + 1) n'
starting_queued app code t m n n' h is same change requests running inv =
    subst (IsStarting app code (t + 1)) (sym same) (record {
      state = change.state ∙ ap₂ (λ a s. queue (setting_of a) t s) inv.over inv.state ∙ sym (queue_all-append (setting_of app) (started_from 0 (take t app.tasks)) (t ∷ []) (nothing_yet (behaviour_of code) (start_bits code))) ∙ ap (λ ks. queue_all (setting_of app) ks (nothing_yet (behaviour_of code) (start_bits code))) (sym more);
      over = change.app ∙ inv.over;
      runs = change.code ∙ inv.runs;
      idle = running ∙ inv.idle;
      later = λ q k. let differ : q ≢ t = omega arith in ap (λ rs. slice_index rs q) requests ∙ (rw get_or-set_other (inv.later q (omega arith)));
    })
  where
    more : started_from 0 (take (t + 1) app.tasks) ≡ started_from 0 (take t app.tasks) ++ t ∷ []
    more =
        let same : t + 1 ≡ suc t = omega arith in
        let zero_more : 0 + t ≡ t = omega arith in
        ap (λ i. started_from 0 (take i app.tasks)) same ∙ started_more 0 t app.tasks h ∙ ap₂ (λ b k. started_from 0 (take t app.tasks) ++ (if b then k ∷ [] else [])) (sym is) zero_more

-- another is not
pub starting_skipped : (app : App) (code : Code) (t : ℕ) (m n : Kept) → t < length app.tasks → false ≡ starts_at app t → n ≡ m → IsStarting app code t m → IsStarting app code (t + 1) n
starting_skipped app code t m n h is skip inv =
    subst (IsStarting app code (t + 1)) (sym skip)
    (record {
      state = inv.state ∙ ap (λ ks. queue_all (setting_of app) ks (nothing_yet (behaviour_of code) (start_bits code))) (sym more);
      over = inv.over;
      runs = inv.runs;
      idle = inv.idle;
      later = λ q k. inv.later q (omega arith);
    })
  where
    more : started_from 0 (take (t + 1) app.tasks) ≡ started_from 0 (take t app.tasks)
    more =
        let same : t + 1 ≡ suc t = omega arith in
        ap (λ i. started_from 0 (take i app.tasks)) same ∙ started_more 0 t app.tasks h ∙ ap (λ b. started_from 0 (take t app.tasks) ++ (if b then (0 + t) ∷ [] else [])) (sym is) ∙ append-nil (started_from 0 (take t app.tasks))

-- after all tasks and a dispatch the machine stands at the start
pub started : (app : App) (code : Code) (t : ℕ) (m n : Kept) → length app.tasks ≤ t → IsStarting app code t m → Changes (λ a beh. dispatch a beh) m n → StandsAt app code (start_of app code) n
started app code t m n h inv change =
    record {
      state = change.state ∙ ap (λ a. dispatch (setting_of a) (behaviour_of m.code) (state_of m)) inv.over ∙ ap (λ c. dispatch (setting_of app) (behaviour_of c) (state_of m)) inv.runs ∙ again ∙ ap (λ s. dispatch (setting_of app) (behaviour_of code) (give_back (setting_of app) s.running s)) all;
      same_app = change.app ∙ inv.over;
      same_code = change.code ∙ inv.runs;
    }
  where
    again : dispatch (setting_of app) (behaviour_of code) (state_of m) ≡ dispatch (setting_of app) (behaviour_of code) (give_back (setting_of app) m.running (state_of m))
    again = ap (λ o. dispatch (setting_of app) (behaviour_of code) (give_back (setting_of app) o (state_of m))) (sym inv.idle)

    all : state_of m ≡ queue_all (setting_of app) (started_from 0 app.tasks) (nothing_yet (behaviour_of code) (start_bits code))
    all = inv.state ∙ ap (λ ts. queue_all (setting_of app) (started_from 0 ts) (nothing_yet (behaviour_of code) (start_bits code))) (take_all t app.tasks h)

-- a list of zeros has 0 everywhere
zeros : (n e : ℕ) → slice_index (replicate n 0) e ≡ 0
zeros zero e = refl
zeros (suc n) zero = refl
zeros (suc n) (suc e) = zeros n e

-- a machine before anything has started
abbrev fresh : App → Code → ℕ → ℕ → Kept
fresh app code n m =
    record { app = app; code = code; cells = start_words code; points = replicate n 0; held = []; ready = []; running = None; active = []; sections = []; requests = replicate m 0; arrivals = 0; stopped = false }

-- it stands before the first task
fresh_starting : (app : App) (code : Code) (n m : ℕ) → IsStarting app code 0 (fresh app code n m)
fresh_starting app code n m =
    record {
      state = ap₂ (λ s r. record (nothing_yet (behaviour_of code) (start_bits code)) { state = s; held = λ e. []; ready = λ l. []; requests = r }) (fun_ext (zeros n)) (fun_ext (zeros m));
      over = refl;
      runs = refl;
      idle = refl;
      later = λ q h. zeros m q;
    }

-- the same for the lists that a machine was made with
pub starting_fresh : (app : App) (code : Code) (n m : ℕ) (cells : List PlainWord) (points : List ℕ) (held : List Holding) (ready : List Waiting) (active : List ℕ) (sections : List Section) (requests : List ℕ) → cells ≡ start_words code → points ≡ replicate n 0 → held ≡ [] → ready ≡ [] → active ≡ [] → sections ≡ [] → requests ≡ replicate m 0 → IsStarting app code 0 (record { app = app; code = code; cells = cells; points = points; held = held; ready = ready; running = None; active = active; sections = sections; requests = requests; arrivals = 0; stopped = false })
starting_fresh app code n m cells points held ready active sections requests a b c d e f g =
    subst (λ k. IsStarting app code 0 k) (sym all) (fresh_starting app code n m)
  where
    all : ◌≡◌ {A = Kept} (record { app = app; code = code; cells = cells; points = points; held = held; ready = ready; running = None; active = active; sections = sections; requests = requests; arrivals = 0; stopped = false }) (fresh app code n m)
    all =
        ap₂ (λ x y. record { app = app; code = code; cells = x; points = y; held = held; ready = ready; running = None; active = active; sections = sections; requests = requests; arrivals = 0; stopped = false }) a b
        ∙ ap₂ (λ x y. record { app = app; code = code; cells = start_words code; points = replicate n 0; held = x; ready = y; running = None; active = active; sections = sections; requests = requests; arrivals = 0; stopped = false }) c d
        ∙ ap₂ (λ x y. record { app = app; code = code; cells = start_words code; points = replicate n 0; held = []; ready = []; running = None; active = x; sections = y; requests = requests; arrivals = 0; stopped = false }) e f
        ∙ ap (λ x. record { app = app; code = code; cells = start_words code; points = replicate n 0; held = []; ready = []; running = None; active = []; sections = []; requests = x; arrivals = 0; stopped = false }) g
