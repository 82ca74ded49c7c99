-- Deeds that are done and told.
use Rattle.std.proofs.Common.{◌≡◌, ℕ, ◌<◌, ◌≤◌, Bool, true, false, ◌&&◌, List, [], ◌∷◌, Option, Some, None, slice_set, refl, sym, ap, subst, ◌∙◌, arith, if◌then◌else◌, ◌==◌}
use Rattle.std.proofs.lemmas.Bool.Decides.{nat_tests}
use Rattle.application.specs.declared.app.App.{App}
use Rattle.chk_base.specs.declared.place.Place.{Place}
use Rattle.osek_machine.proofs.Actors.{actor_first}
use Rattle.osek_machine.proofs.Effects.{exact, then_change}
use Rattle.osek_machine.proofs.States.{index_set}
use Rattle.osek_machine.specs.CellWords.{bits}
use Rattle.osek_machine.specs.Faults.{first_or, ended_by}
use Rattle.osek_machine.specs.Held.{held_by}
use Rattle.osek_machine.specs.Kept.{Kept, IsKept, AreDescending, state_of, entities_of}
use Rattle.osek_machine.specs.Changing.{Changes, IsDeed, IsServable}
use Rattle.osek_machine.specs.declared.machine.Outcome.TheVariants as answer
use Rattle.osek_machine.specs.declared.machine.Outcome.{Outcome}
use Rattle.step_ir.specs.Deeds.{Deed, Moves, Serves, Leaves, Stops, happened, next_of, serve, end_of}
use Rattle.step_ir.specs.EntityStep.{Behaviour, After}
use Rattle.step_ir.specs.Numbers.{tail, is_empty, put}
use Rattle.step_ir.specs.PointStep.{Bits, behaviour_of}
use Rattle.step_ir.specs.Reschedule.{reschedule, reschedule_after, dispatch, take_from, take_first, highest, put_back, give_back}
use Rattle.step_ir.specs.SchedulerState.{State, Entry, Fresh, Preempted, actor, scene}
use Rattle.step_ir.specs.SchedulerStep.{act, move, effect, leave, without_routine, after_routine, queue, end_request}
use Rattle.step_ir.specs.Services.{fault_of}
use Rattle.step_ir.specs.Setting.{setting_of, highest_level, Setting, gives_way}
use Rattle.step_ir.specs.declared.event.Event.{Event}
use Rattle.step_ir.specs.declared.event.EventAction.TheVariants as Told
use Rattle.step_ir.specs.declared.event.EventAction.{EventAction}
use Rattle.step_ir.specs.declared.event.Failure.{Failure}
use Rattle.step_ir.specs.declared.event.Service.TheVariants as of
use Rattle.step_ir.specs.declared.event.Service.{Service}

-- whether all is stopped, and how many routines have arrived
abbrev marks : State ℕ Bits → Bool × ℕ
marks st = (st.is_stopped, st.arrivals)

-- a dispatch changes neither
dispatch_marks : (app : Setting) (beh : Behaviour ℕ Bits) (st : State ℕ Bits) → marks (dispatch app beh st) ≡ marks st
dispatch_marks app beh st = chosen (highest st.ready app.top)
  where
    first : (l : ℕ) (es : List Entry) → marks (take_first beh l es st) ≡ marks st
    first l [] = refl
    first l (Fresh t ∷ es) = refl
    first l (Preempted t ∷ es) = refl

    chosen : (o : Option ℕ) → marks (take_from beh o st) ≡ marks st
    chosen None = refl
    chosen (Some l) = first l (st.ready l)

-- nor does giving a task back
back_marks : (app : Setting) (o : Option ℕ) (st : State ℕ Bits) → marks (give_back app o st) ≡ marks st
back_marks app None st = refl
back_marks app (Some t) st = refl

-- nor a reschedule
after_marks : (app : Setting) (beh : Behaviour ℕ Bits) (e : ℕ) (st : State ℕ Bits) → marks (reschedule_after app beh e st) ≡ marks st
after_marks app beh e st = chosen (gives_way app e)
  where
    chosen : (b : Bool) → marks (if b then reschedule app beh st else st) ≡ marks st
    chosen true = dispatch_marks app beh (give_back app st.running st) ∙ back_marks app st.running st
    chosen false = refl

-- nor a service
effect_marks : (app : Setting) (beh : Behaviour ℕ Bits) (e : ℕ) (s : Service) (st : State ℕ Bits) → marks (effect app beh e s st) ≡ marks st
effect_marks app beh e (of.Activate t) st = after_marks app beh e (queue app t.0 st)
effect_marks app beh e of.Terminate st = dispatch_marks app beh (end_request e st)
effect_marks app beh e (of.Chain t) st = dispatch_marks app beh (queue app t.0 (end_request e st))
effect_marks app beh e of.Schedule st = dispatch_marks app beh (put_back (app.level e) e st)
effect_marks app beh e (of.Get r) st = refl
effect_marks app beh e (of.Release r) st = after_marks app beh e (record st { held = put st.held e (tail (st.held e)) })
effect_marks app beh e _ st = refl

-- nor the end of a routine
leave_marks : (app : Setting) (beh : Behaviour ℕ Bits) (active : List ℕ) (o : Option ℕ) (st : State ℕ Bits) → marks (after_routine app beh active o st) ≡ marks st
leave_marks app beh (r ∷ rs) o st = refl
leave_marks app beh [] None st = dispatch_marks app beh st
leave_marks app beh [] (Some t) st = after_marks app beh t st

-- a service stops nothing
pub effect_stopped : (app : Setting) (beh : Behaviour ℕ Bits) (e : ℕ) (s : Service) (st : State ℕ Bits) → (effect app beh e s st).is_stopped ≡ st.is_stopped
effect_stopped app beh e s st = ap (λ (m : Bool × ℕ). m.0) (effect_marks app beh e s st)

-- the end of a routine stops nothing
pub leave_stopped : (app : Setting) (beh : Behaviour ℕ Bits) (active : List ℕ) (o : Option ℕ) (st : State ℕ Bits) → (after_routine app beh active o st).is_stopped ≡ st.is_stopped
leave_stopped app beh active o st = ap (λ (m : Bool × ℕ). m.0) (leave_marks app beh active o st)

-- a reschedule counts no arrival
pub reschedule_arrivals : (app : Setting) (beh : Behaviour ℕ Bits) (st : State ℕ Bits) → (reschedule app beh st).arrivals ≡ st.arrivals
reschedule_arrivals app beh st =
    ap (λ (m : Bool × ℕ). m.1) (dispatch_marks app beh (give_back app st.running st) ∙ back_marks app st.running st)

-- no deed counts as an arrival
pub act_arrivals : (app : Setting) (beh : Behaviour ℕ Bits) (e : ℕ) (d : Deed ℕ Bits) (st : State ℕ Bits) → (act app beh e d st).arrivals ≡ st.arrivals
act_arrivals app beh e (Moves action after) st = refl
act_arrivals app beh e (Serves s after) st = ap (λ (m : Bool × ℕ). m.1) (effect_marks app beh e s (move e after st))
act_arrivals app beh e Leaves st =
    ap (λ (m : Bool × ℕ). m.1) (leave_marks app beh (without_routine e st.active) st.running (record st { active = without_routine e st.active }))
act_arrivals app beh e (Stops failure service) st = refl

-- a failure was done, and told
pub failed : (k new : Kept) (e : ℕ) (failure : Failure) (service : Option Service) (place : Place) (event : Event) → new ≡ record k { stopped = true } → event ≡ happened e (Told.Fail failure service) place (next_of new.stopped (actor (setting_of new.app) (state_of new))) → IsDeed (Stops failure service) e place k (answer.Failed event) new
failed k new e failure service place event is same =
    subst (λ n. event ≡ happened e (Told.Fail failure service) place (next_of n.stopped (actor (setting_of n.app) (state_of n))) → IsDeed (Stops failure service) e place k (answer.Failed event) n) (sym is)
    (λ told. record { state = refl; told = (told, refl); app = refl; code = refl }) same

-- an own step was done, and told
pub moved : (k new : Kept) (e n : ℕ) (action : EventAction) (place : Place) (event : Event) → IsKept k → k.stopped ≡ false → e < entities_of k.app → new ≡ record k { points = slice_set k.points e n } → event ≡ happened e action place (next_of new.stopped (actor (setting_of new.app) (state_of new))) → IsDeed (Moves action (record { state = n; globals = bits k.cells })) e place k (answer.Event event) new
moved k new e n action place event inv up known is same =
    subst (λ m. event ≡ happened e action place (next_of m.stopped (actor (setting_of m.app) (state_of m))) → IsDeed (Moves action (record { state = n; globals = bits k.cells })) e place k (answer.Event event) m) (sym is)
    (λ told. record { state = ap (λ s. record (state_of k) { state = s }) (index_set k.points e n (omega (arith, known, inv.points))); told = (told, up); app = refl; code = refl }) same

-- a service has no error still where the entity has moved to its next point
pub servable_moved : (k mid : Kept) (e n : ℕ) (s : Service) → mid ≡ record k { points = slice_set k.points e n } → fault_of (setting_of k.app) (scene (setting_of k.app) (state_of k) e) s ≡ None → actor (setting_of k.app) (state_of k) ≡ Some e → IsServable mid e s
servable_moved k mid e n s is none acts =
    subst (λ m. IsServable m e s) (sym is) (record { no_fault = none; acts = acts })

-- the setting of a machine is that of the one before
pub told_over : (app app' : App) (e : ℕ) (action : EventAction) (place : Place) (event : Event) (new : Kept) → app' ≡ app → event ≡ happened e action place (next_of new.stopped (actor (setting_of app') (state_of new))) → event ≡ happened e action place (next_of new.stopped (actor (setting_of app) (state_of new)))
told_over app app' e action place event new same h = subst (λ a. event ≡ happened e action place (next_of new.stopped (actor (setting_of a) (state_of new)))) same h

-- a service was done, and told
pub served : (k mid new : Kept) (e n : ℕ) (s : Service) (place : Place) (event : Event) (f : Option Failure) → IsKept k → k.stopped ≡ false → e < entities_of k.app → f ≡ None → mid ≡ record k { points = slice_set k.points e n } → Changes (λ app beh. effect app beh e s) mid new → event ≡ happened e (Told.Service s) place (next_of new.stopped (actor (setting_of new.app) (state_of new))) → IsDeed (serve s (record { state = n; globals = bits k.cells }) f) e place k (answer.Event event) new
served k mid new e n s place event f inv up known none is change same =
    subst (λ o. IsDeed (serve s (record { state = n; globals = bits k.cells }) o) e place k (answer.Event event) new) (sym none)
    (record { state = whole.state; told = (told_over k.app new.app e (Told.Service s) place event new whole.app same, ap (λ (st : State ℕ Bits). st.is_stopped) whole.state ∙ effect_stopped (setting_of k.app) (behaviour_of k.code) e s (move e (record { state = n; globals = bits k.cells }) (state_of k)) ∙ up); app = whole.app; code = whole.code })
  where
    first : Changes (λ app beh. move e (record { state = n; globals = bits k.cells })) k mid
    first = exact (λ app beh. move e (record { state = n; globals = bits k.cells })) k mid (record k { points = slice_set k.points e n }) is (ap (λ st. record (state_of k) { state = st }) (index_set k.points e n (omega (arith, known, inv.points)))) refl refl

    whole : Changes (λ app beh st. effect app beh e s (move e (record { state = n; globals = bits k.cells }) st)) k new
    whole = then_change (λ app beh. move e (record { state = n; globals = bits k.cells })) (λ app beh. effect app beh e s) k mid new first change

-- a service's error was done
pub faulted : (k new : Kept) (e : ℕ) (s : Service) (after : After ℕ Bits) (place : Place) (failure : Failure) (f : Option Failure) (result : Outcome) → f ≡ Some failure → IsDeed (Stops failure (Some s)) e place k result new → IsDeed (serve s after f) e place k result new
faulted k new e s after place failure f result is h = subst (λ o. IsDeed (serve s after o) e place k result new) (sym is) h

-- the failure of a body's end was done
pub ended_failed : (k new : Kept) (e : ℕ) (d : Deed ℕ Bits) (place : Place) (failure : Failure) (f : Option Failure) (result : Outcome) → d ≡ ended_by f → f ≡ Some failure → IsDeed (Stops failure None) e place k result new → IsDeed d e place k result new
ended_failed k new e d place failure f result deed is h = subst (λ o. IsDeed o e place k result new) (sym (deed ∙ ap ended_by is)) h

-- the end of a routine was done, and told
pub ended_left : (k new : Kept) (e : ℕ) (d : Deed ℕ Bits) (place : Place) (f : Option Failure) (event : Event) → d ≡ ended_by f → f ≡ None → k.stopped ≡ false → Changes (λ app beh st. leave app beh (record st { active = without_routine e st.active })) k new → event ≡ happened e Told.End place (next_of new.stopped (actor (setting_of new.app) (state_of new))) → IsDeed d e place k (answer.Event event) new
ended_left k new e d place f event deed is up change same =
    subst (λ o. IsDeed o e place k (answer.Event event) new) (sym (deed ∙ ap ended_by is))
    (record { state = change.state; told = (told_over k.app new.app e Told.End place event new change.app same, ap (λ (st : State ℕ Bits). st.is_stopped) change.state ∙ leave_stopped (setting_of k.app) (behaviour_of k.code) (without_routine e k.active) k.running (record (state_of k) { active = without_routine e k.active }) ∙ up); app = change.app; code = change.code })

-- a body whose end is no failure is that of no task
pub no_task : (k : Kept) (e : ℕ) (f : Option Failure) → end_of (setting_of k.app) (scene (setting_of k.app) (state_of k) e) ≡ ended_by f → f ≡ None → (setting_of k.app).is_task e ≡ false
no_task k e f is none = chosen ((setting_of k.app).is_task e) refl
  where
    chosen : (b : Bool) → (setting_of k.app).is_task e ≡ b → (setting_of k.app).is_task e ≡ false
    chosen true h =
        let all : ◌≡◌ {A = Deed ℕ Bits} (end_of (setting_of k.app) (scene (setting_of k.app) (state_of k) e)) Leaves = is ∙ ap ended_by none in
        let task : ◌≡◌ {A = Deed ℕ Bits} (end_of (setting_of k.app) (scene (setting_of k.app) (state_of k) e)) (Stops (record { number = 7; code = 0 }) None) = ap (λ b. if b then Stops (record { number = 7; code = 0 }) None else (if is_empty k.sections && is_empty (held_by k.held e) then Leaves else Stops (record { number = 9; code = 0 }) None)) h in
        absurd (let x : ◌≡◌ {A = Deed ℕ Bits} (Stops (record { number = 7; code = 0 }) None) Leaves = sym task ∙ all in cc)
    chosen false h = h

-- a routine whose level is above those of others is not among them
without_absent : (app : App) (e l : ℕ) (rs : List ℕ) → l ≤ (setting_of app).level e → AreDescending app l rs → without_routine e rs ≡ rs
without_absent app e l [] low h = refl
without_absent app e l (r ∷ rs) low h =
    let ih = without_absent app e ((setting_of app).level r) rs (omega (arith, h.1, low)) h.2 in
    let lower = h.1 in
    chosen (r == e) refl ih
  where
    chosen : (b : Bool) → (r == e) ≡ b → without_routine e rs ≡ rs → (if b then without_routine e rs else r ∷ without_routine e rs) ≡ r ∷ rs
    chosen true is ih = let same : r ≡ e = grind (arith, nat_tests) in let x : (setting_of app).level r ≡ (setting_of app).level e = ap (setting_of app).level same in let y = h.1 in absurd (omega arith)
    chosen false is ih = ap (λ xs. r ∷ xs) ih

-- taking out the first active routine takes out the one that ends
pub left : (k mid new : Kept) (e : ℕ) → IsKept k → actor (setting_of k.app) (state_of k) ≡ Some e → (setting_of k.app).is_task e ≡ false → mid ≡ record k { active = tail k.active } → Changes (λ app beh. leave app beh) mid new → Changes (λ app beh st. leave app beh (record st { active = without_routine e st.active })) k new
left k mid new e inv acts other is change =
    then_change (λ app beh st. record st { active = without_routine e st.active }) (λ app beh. leave app beh) k mid new
    (exact (λ app beh st. record st { active = without_routine e st.active }) k mid (record k { active = tail k.active }) is (ap (λ rs. record (state_of k) { active = rs }) (gone k.active inv.active (sym (actor_first k.app 81 k.active k.running inv.active) ∙ acts))) refl refl)
    change
  where
    same_first : (r : ℕ) (rs : List ℕ) → r ≡ e → AreDescending k.app ((setting_of k.app).level r) rs → rs ≡ (if r == e then without_routine e rs else r ∷ without_routine e rs)
    same_first r rs same h =
        let x : (setting_of k.app).level r ≡ (setting_of k.app).level e = ap (setting_of k.app).level same in
        let ih = without_absent k.app e ((setting_of k.app).level r) rs (omega arith) h in
        let yes : (r == e) ≡ true = grind (arith, nat_tests) in
        sym (ap (λ b. if b then without_routine e rs else r ∷ without_routine e rs) yes ∙ ih)

    gone : (rs : List ℕ) → AreDescending k.app 81 rs → first_or rs k.running ≡ Some e → tail rs ≡ without_routine e rs
    gone [] h is = refl
    gone (r ∷ rs) h is = same_first r rs (let x : ◌≡◌ (Some r) (Some e) = is in cc) h.2

-- falling levels stay below a greater one
descending_more : (app : App) (l m : ℕ) (rs : List ℕ) → l ≤ m → AreDescending app l rs → AreDescending app m rs
descending_more app l m [] low h = tt
descending_more app l m (r ∷ rs) low h = (h.0, omega (arith, h.1, low), h.2)

-- all but the first have falling levels
descending_tail : (app : App) (rs : List ℕ) → AreDescending app 81 rs → ((r : ℕ) → (setting_of app).level r ≤ 80) → AreDescending app 81 (tail rs)
descending_tail app [] h low = tt
descending_tail app (r ∷ rs) h low = descending_more app ((setting_of app).level r) 81 rs (omega (arith, low r)) h.2

-- no level is above 80
pub levels_low : (k : Kept) → IsKept k → (r : ℕ) → (setting_of k.app).level r ≤ 80
unfolding highest_level
levels_low k inv r = let s = inv.fixed.sound in omega (arith, s.runs_above r, s.run_levels r)

-- what holds of a machine holds after the first active routine has gone
pub dropped_kept : (k : Kept) (active : List ℕ) → active ≡ tail k.active → IsKept k → IsKept (record k { active = active })
dropped_kept k active is inv =
    subst (λ rs. IsKept (record k { active = rs })) (sym is)
    (record {
      fixed = inv.fixed;
      over = inv.over;
      points = inv.points;
      queued = inv.queued;
      held = inv.held;
      active = descending_tail k.app k.active inv.active (levels_low k inv);
      sections = inv.sections;
    })
