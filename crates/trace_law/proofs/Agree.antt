-- The two schedulers agree: what they keep, and that a reschedule and a settling keep it.
use Rattle.std.proofs.Common.{◌≡◌, ℕ, ◌+◌, ◌<◌, ◌≤◌, Bool, true, false, List, [], ◌∷◌, ◌++◌, Option, Some, None, refl, sym, ap, ap₂, subst, ◌∙◌, arith, nat_lt, if◌then◌else◌}
use Rattle.std.proofs.lemmas.Bool.Decides.{nat_tests}
use Rattle.step_ir.proofs.Lists.{AreTasks-without, foremost_some, foremost_none, highest_is, highest_none, put_same, put_other}
use Rattle.step_ir.proofs.Stacks.{rises_below, preempted_none, preempted_here, matches_elsewhere, standing_in_range, standing_above}
use Rattle.step_ir.specs.Agreement.{fresh_at, preempted_at, Rises, Matches, IsAgreed, Agrees, IsForemost, AllBelow}
use Rattle.step_ir.specs.EntityStep.{Behaviour}
use Rattle.step_ir.specs.Numbers.{times, put}
use Rattle.step_ir.specs.OneStackMachine.{Stacked, Frame, standing, standing_of_top, without, whos, begun, run_on, settle, settle_with}
use Rattle.step_ir.specs.Reschedule.{highest, dispatch, take_from, take_first}
use Rattle.step_ir.specs.SchedulerState.{State, Entry, Fresh, Preempted}
use Rattle.step_ir.specs.Setting.{Setting, foremost, IsSound, AreTasks}

-- the two states agree, but that each task of the stack waits in the list of its standing level
pub record IsLoose {S G : Type 0} (app : Setting) (st : State S G) (m : Stacked S G) : Type 0 where
  pub globals : st.globals ≡ m.globals
  pub sections : st.sections ≡ m.sections
  pub stopped : st.is_stopped ≡ m.is_stopped
  pub active : st.active ≡ []
  pub rises : Rises app m.stack
  pub matches : Matches st.state st.held m.stack
  pub tasks : AreTasks app (whos m.stack)
  pub fresh : AreTasks app m.fresh
  pub ready : (l : ℕ) → st.ready l ≡ preempted_at app l m.stack ++ fresh_at app l m.fresh
  pub requests : (t : ℕ) → st.requests t ≡ times t (whos m.stack) + times t m.fresh
  pub unheld : (e : ℕ) → times e (whos m.stack) ≡ 0 → st.held e ≡ []

module _ {S G : Type 0} (app : Setting) (ok : IsSound app) (beh : Behaviour S G) where
  -- where the highest list is known, its first entry runs
  dispatch_is : (st : State S G) (l : ℕ) (e : Entry) (es : List Entry) → highest st.ready app.top ≡ Some l → st.ready l ≡ e ∷ es → dispatch app beh st ≡ take_first beh l (e ∷ es) st
  dispatch_is st l e es h k = ap (λ o. take_from beh o st) h ∙ ap (λ es. take_first beh l es st) k

  -- the preempted task of the highest list runs on
  resumes : (st : State S G) (m : Stacked S G) (f : Frame S) (fs : List (Frame S)) → IsLoose app st (record m { stack = f ∷ fs }) → ((l : ℕ) → standing app f < l → fresh_at app l m.fresh ≡ []) → IsAgreed app (dispatch app beh st) (record m { stack = record f { yielded = false } ∷ fs }) [] (record f { yielded = false } ∷ fs)
  resumes st m f fs loose low =
      subst (λ s. IsAgreed app s (record m { stack = record f { yielded = false } ∷ fs }) [] (record f { yielded = false } ∷ fs)) (sym is)
      (record {
        stack = refl;
        globals = loose.globals;
        sections = loose.sections;
        stopped = loose.stopped;
        active = loose.active;
        running = refl;
        rises = loose.rises;
        matches = loose.matches;
        routines = tt;
        tasks = loose.tasks;
        fresh = loose.fresh;
        ready = after;
        requests = loose.requests;
        unheld = loose.unheld;
        awake = tt;
        top_awake = refl;
      })
    where
      here : st.ready (standing app f) ≡ Preempted f.who ∷ fresh_at app (standing app f) m.fresh
      here = loose.ready (standing app f) ∙ ap (λ es. es ++ fresh_at app (standing app f) m.fresh) (preempted_here app ok f fs loose.rises)

      above : (k : ℕ) → standing app f < k → st.ready k ≡ []
      above k up = loose.ready k ∙ ap₂ (λ a b. a ++ b) (preempted_none app ok k (f ∷ fs) up loose.rises) (low k up)

      is : dispatch app beh st ≡ take_first beh (standing app f) (Preempted f.who ∷ fresh_at app (standing app f) m.fresh) st
      is = dispatch_is st (standing app f) (Preempted f.who) (fresh_at app (standing app f) m.fresh) (highest_is st.ready app.top (standing app f) _ _ (standing_in_range app ok f) here above) here

      after : (l : ℕ) → put st.ready (standing app f) (fresh_at app (standing app f) m.fresh) l ≡ preempted_at app l fs ++ fresh_at app l m.fresh
      after l =
          let lower : standing_of_top app fs < standing app f = omega (arith, standing_above app ok f, loose.rises.0) in
          let none : preempted_at app (standing app f) fs ≡ [] = preempted_none app ok (standing app f) fs lower loose.rises.1 in
          grind (arith, nat_tests, loose.ready l)

  -- the first fresh request of the highest list begins
  begins : (st : State S G) (m : Stacked S G) (fs : List (Frame S)) (t : ℕ) → IsLoose app st (record m { stack = fs }) → IsForemost app m.fresh t → standing_of_top app fs < app.level t → IsAgreed app (dispatch app beh st) (record m { stack = begun beh t ∷ fs; fresh = without t m.fresh }) [] (begun beh t ∷ fs)
  begins st m fs t loose fo up =
      subst (λ s. IsAgreed app s (record m { stack = begun beh t ∷ fs; fresh = without t m.fresh }) [] (begun beh t ∷ fs)) (sym is)
      (record {
        stack = refl;
        globals = loose.globals;
        sections = loose.sections;
        stopped = loose.stopped;
        active = loose.active;
        running = refl;
        rises = (up, loose.rises);
        matches = (put_same st.state t (beh.start t), put_same st.held t [], matches_elsewhere app t st.state _ st.held _ fs (put_other st.state t (beh.start t)) (put_other st.held t []) low loose.matches);
        routines = tt;
        tasks = (fo.task loose.fresh, loose.tasks);
        fresh = AreTasks-without app t m.fresh loose.fresh;
        ready = after;
        requests = λ q. grind (arith, nat_tests, loose.requests q, fo.counts q);
        unheld = λ e none. grind (arith, nat_tests, loose.unheld e);
        awake = tt;
        top_awake = refl;
      })
    where
      low : AllBelow app (app.level t) fs
      low = rises_below app ok (app.level t) fs up loose.rises

      none : preempted_at app (app.level t) fs ≡ []
      none = preempted_none app ok (app.level t) fs up loose.rises

      here : st.ready (app.level t) ≡ Fresh t ∷ fresh_at app (app.level t) (without t m.fresh)
      here = loose.ready (app.level t) ∙ ap₂ (λ a b. a ++ b) none fo.same

      above : (k : ℕ) → app.level t < k → st.ready k ≡ []
      above k more = loose.ready k ∙ ap₂ (λ a b. a ++ b) (preempted_none app ok k fs (omega arith) loose.rises) (fo.above k more)

      is : dispatch app beh st ≡ take_first beh (app.level t) (Fresh t ∷ fresh_at app (app.level t) (without t m.fresh)) st
      is = dispatch_is st (app.level t) (Fresh t) _ (highest_is st.ready app.top (app.level t) _ _ (omega (arith, ok.runs_above t, ok.run_levels t)) here above) here

      after : (l : ℕ) → put st.ready (app.level t) (fresh_at app (app.level t) (without t m.fresh)) l ≡ preempted_at app l fs ++ fresh_at app l (without t m.fresh)
      after l = grind (arith, nat_tests, loose.ready l, fo.others l, none)

  -- nothing runs
  idles : (st : State S G) (m : Stacked S G) → IsLoose app st (record m { stack = [] }) → m.fresh ≡ [] → IsAgreed app (dispatch app beh st) (record m { stack = [] }) [] []
  idles st m loose empty =
      subst (λ s. IsAgreed app s (record m { stack = [] }) [] []) (sym is)
      (record {
        stack = refl;
        globals = loose.globals;
        sections = loose.sections;
        stopped = loose.stopped;
        active = loose.active;
        running = refl;
        rises = tt;
        matches = tt;
        routines = tt;
        tasks = tt;
        fresh = loose.fresh;
        ready = loose.ready;
        requests = loose.requests;
        unheld = loose.unheld;
        awake = tt;
        top_awake = tt;
      })
    where
      none : (l : ℕ) → st.ready l ≡ []
      none l = loose.ready l ∙ ap (fresh_at app l) empty

      is : dispatch app beh st ≡ record st { running = None }
      is = ap (λ o. take_from beh o st) (highest_none st.ready app.top none)

  -- what has a top agrees whatever is left
  pub with_task : {st : State S G} {m : Stacked S G} (f : Frame S) (fs : List (Frame S)) → IsAgreed app st m [] (f ∷ fs) → Agrees app st m
  with_task f fs a = record { over = []; under = f ∷ fs; agreed = a; idle = λ e. cc }

  -- the same with a routine on top
  pub with_routine : {st : State S G} {m : Stacked S G} (f : Frame S) (fs under : List (Frame S)) → IsAgreed app st m (f ∷ fs) under → Agrees app st m
  with_routine f fs under a = record { over = f ∷ fs; under = under; agreed = a; idle = λ e. cc }

  -- a reschedule and a settling lead from what waits to agreement
  pub settled : (st : State S G) (m : Stacked S G) (fs : List (Frame S)) → IsLoose app st (record m { stack = fs }) → Agrees app (dispatch app beh st) (settle app beh (record m { stack = fs }))
  settled st m fs loose = go fs (foremost app m.fresh) refl loose
    where
      begun_or : (fs : List (Frame S)) (t : ℕ) → foremost app m.fresh ≡ Some t → IsLoose app st (record m { stack = fs }) → (b : Bool) → nat_lt (standing_of_top app fs) (app.level t) ≡ b → Agrees app (dispatch app beh st) (if b then record m { stack = begun beh t ∷ fs; fresh = without t m.fresh } else record m { stack = run_on fs })
      begun_or fs t is loose true up = with_task (begun beh t) fs (begins st m fs t loose (foremost_some app m.fresh t is) (grind (arith, nat_tests)))
      begun_or [] t is loose false up =
          let fo = foremost_some app m.fresh t is in
          let some : 0 < app.level t = ok.above_idle t (fo.task loose.fresh) in
          absurd (grind (arith, nat_tests))
      begun_or (f ∷ fs) t is loose false up =
          let fo = foremost_some app m.fresh t is in
          let low : app.level t ≤ standing app f = grind (arith, nat_tests) in
          with_task (record f { yielded = false }) fs (resumes st m f fs loose (λ l h. fo.above l (omega arith)))

      go : (fs : List (Frame S)) (o : Option ℕ) → foremost app m.fresh ≡ o → IsLoose app st (record m { stack = fs }) → Agrees app (dispatch app beh st) (settle_with app beh o (record m { stack = fs }))
      go [] None is loose =
          record { over = []; under = []; agreed = idles st m loose (foremost_none app m.fresh is); idle = λ e. foremost_none app m.fresh is }
      go (f ∷ fs) None is loose = with_task (record f { yielded = false }) fs (resumes st m f fs loose (λ l h. ap (fresh_at app l) (foremost_none app m.fresh is)))
      go fs (Some t) is loose = begun_or fs t is loose (nat_lt (standing_of_top app fs) (app.level t)) refl
