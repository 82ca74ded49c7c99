-- Each kind of deed keeps the agreement.
use Rattle.std.proofs.Common.{◌≡◌, ℕ, ◌<◌, Bool, true, false, ◌&&◌, List, [], ◌∷◌, ◌++◌, None, refl, sym, ap, ap₂, subst, ◌∙◌, arith, if◌then◌else◌}
use Rattle.std.proofs.lemmas.Bool.Decides.{nat_tests}
use Rattle.trace_law.proofs.Agree.{IsLoose, settled, with_task, with_routine}
use Rattle.step_ir.proofs.Lists.{put_same, put_other}
use Rattle.step_ir.proofs.Stacks.{rises_below, matches_elsewhere, times_below}
use Rattle.trace_law.proofs.Steps.{queue_loose, queue_agreed, retop_under, retop_over, put_back_loose, ended_loose}
use Rattle.step_ir.specs.declared.event.Section.{Section}
use Rattle.step_ir.specs.declared.event.Service.{Service}
use Rattle.step_ir.specs.declared.event.Service.TheVariants.{Activate, Terminate, Chain, Schedule, Get, Release}
use Rattle.step_ir.specs.Agreement.{IsAgreed, Agrees}
use Rattle.step_ir.specs.Deeds.{Deed, Moves, Serves, Leaves, Stops}
use Rattle.step_ir.specs.EntityStep.{Behaviour, After}
use Rattle.step_ir.specs.Numbers.{times, tail, put}
use Rattle.step_ir.specs.OneStackMachine
use Rattle.step_ir.specs.OneStackMachine.{Stacked, Frame, standing, standing_of_top, whos, begun, settle, settle_after, request}
use Rattle.step_ir.specs.Reschedule.{dispatch, put_back, give_back, reschedule, reschedule_after}
use Rattle.step_ir.specs.SchedulerState.{State}
use Rattle.step_ir.specs.SchedulerStep
use Rattle.step_ir.specs.SchedulerStep.{queue, end_request, without_routine, arrive}
use Rattle.step_ir.specs.Services.{Scene, fault_of, sections_after}
use Rattle.step_ir.specs.Setting.{Setting, current, gives_way, IsSound}
use Rattle.step_ir.proofs.Served.{activated_task, chained_task, leaving_none}

module _ {S G : Type 0} (app : Setting) (ok : IsSound app) (beh : Behaviour S G) where
  -- the same with the stack written out
  restacked : (st : State S G) (m : Stacked S G) (over under : List (Frame S)) → IsAgreed app st m over under → IsAgreed app st (record m { stack = over ++ under }) over under
  restacked st m over under a =
      record {
        stack = refl;
        globals = a.globals;
        sections = a.sections;
        stopped = a.stopped;
        active = a.active;
        running = a.running;
        rises = a.rises;
        matches = a.matches;
        routines = a.routines;
        tasks = a.tasks;
        fresh = a.fresh;
        ready = a.ready;
        requests = a.requests;
        unheld = a.unheld;
        awake = a.awake;
        top_awake = a.top_awake;
      }

  reschedule_under : (st : State S G) (m : Stacked S G) (f : Frame S) (fs : List (Frame S)) → IsAgreed app st m [] (f ∷ fs) → Agrees app (reschedule app beh st) (settle app beh (record m { stack = f ∷ fs }))
  reschedule_under st m f fs a =
      subst (λ s. Agrees app (dispatch app beh s) (settle app beh (record m { stack = f ∷ fs }))) (sym back)
      (settled app ok beh (put_back (current app f.who (st.held f.who)) f.who st) m (f ∷ fs)
      (put_back_loose app ok beh st m f fs (current app f.who (st.held f.who)) f.yielded stands a))
    where
      back : give_back app st.running st ≡ put_back (current app f.who (st.held f.who)) f.who st
      back = ap (λ o. give_back app o st) a.running

      stands : standing app f ≡ current app f.who (st.held f.who)
      stands = ap₂ (λ b h. if b then app.level f.who else current app f.who h) a.top_awake (sym a.matches.1)

  reschedule_after_under : (st : State S G) (m : Stacked S G) (f : Frame S) (fs : List (Frame S)) → IsAgreed app st m [] (f ∷ fs) → Agrees app (reschedule_after app beh f.who st) (settle_after app beh f.who (record m { stack = f ∷ fs }))
  reschedule_after_under st m f fs a = go (gives_way app f.who)
    where
      go : (b : Bool) → Agrees app (if b then reschedule app beh st else st) (if b then settle app beh (record m { stack = f ∷ fs }) else record m { stack = f ∷ fs })
      go true = reschedule_under st m f fs a
      go false = with_task app ok beh f fs (restacked st m [] (f ∷ fs) a)

  sections_agreed : (st : State S G) (m : Stacked S G) (over under : List (Frame S)) (ss ss' : List Section) → ss ≡ ss' → IsAgreed app st m over under → IsAgreed app (record st { sections = ss }) (record m { stack = over ++ under; sections = ss' }) over under
  sections_agreed st m over under ss ss' same a =
      record {
        stack = refl;
        globals = a.globals;
        sections = same;
        stopped = a.stopped;
        active = a.active;
        running = a.running;
        rises = a.rises;
        matches = a.matches;
        routines = a.routines;
        tasks = a.tasks;
        fresh = a.fresh;
        ready = a.ready;
        requests = a.requests;
        unheld = a.unheld;
        awake = a.awake;
        top_awake = a.top_awake;
      }

  hold_under : (st : State S G) (m : Stacked S G) (f : Frame S) (fs : List (Frame S)) (change : List ℕ → List ℕ) → IsAgreed app st m [] (f ∷ fs) → IsAgreed app (record st { held = put st.held f.who (change (st.held f.who)) }) (record m { stack = record f { held = change f.held } ∷ fs }) [] (record f { held = change f.held } ∷ fs)
  hold_under st m f fs change a =
      retop_under app ok beh st m f fs st.globals m.globals f.state (change f.held) st.state (put st.held f.who (change (st.held f.who))) a.globals a.matches.0
      (put_same st.held f.who (change (st.held f.who)) ∙ ap change a.matches.1) (λ q h. refl) (put_other st.held f.who (change (st.held f.who))) a

  hold_over : (st : State S G) (m : Stacked S G) (f : Frame S) (fs under : List (Frame S)) (change : List ℕ → List ℕ) → IsAgreed app st m (f ∷ fs) under → IsAgreed app (record st { held = put st.held f.who (change (st.held f.who)) }) (record m { stack = record f { held = change f.held } ∷ (fs ++ under) }) (record f { held = change f.held } ∷ fs) under
  hold_over st m f fs under change a =
      retop_over app ok beh st m f fs under st.globals m.globals f.state (change f.held) st.state (put st.held f.who (change (st.held f.who))) a.globals a.matches.0
      (put_same st.held f.who (change (st.held f.who)) ∙ ap change a.matches.1) (λ q h. refl) (put_other st.held f.who (change (st.held f.who))) a

  -- a service of the running task
  effect_under : (st : State S G) (m : Stacked S G) (f : Frame S) (fs : List (Frame S)) (c : Scene) (service : Service) → fault_of app c service ≡ None → c.caller ≡ f.who → c.held ≡ f.held → IsAgreed app st m [] (f ∷ fs) → Agrees app (SchedulerStep.effect app beh f.who service st) (OneStackMachine.effect app beh f fs service m)
  effect_under st m f fs c (Activate t) none who held a =
      reschedule_after_under (queue app t.0 st) (request t.0 m) f fs
      (queue_agreed app ok beh st m [] (f ∷ fs) t.0 (activated_task app ok c t none) a)
  effect_under st m f fs c Terminate none who held a =
      let free = leaving_none app c None none in
      settled app ok beh (end_request f.who st) m fs (ended_loose app ok beh st m f fs (sym held ∙ free.1) a)
  effect_under st m f fs c (Chain t) none who held a =
      let free = leaving_none app c _ none in
      settled app ok beh (queue app t.0 (end_request f.who st)) (request t.0 m) fs
      (queue_loose app ok beh (end_request f.who st) (record m { stack = fs }) t.0 (chained_task app ok c t none)
      (ended_loose app ok beh st m f fs (sym held ∙ free.1) a))
  effect_under st m f fs c Schedule none who held a =
      settled app ok beh (put_back (app.level f.who) f.who st) m (record f { yielded = true } ∷ fs)
      (put_back_loose app ok beh st m f fs (app.level f.who) true refl a)
  effect_under st m f fs c (Get r) none who held a = with_task app ok beh (record f { held = r ∷ f.held }) fs (hold_under st m f fs (λ h. r ∷ h) a)
  effect_under st m f fs c (Release r) none who held a =
      reschedule_after_under (record st { held = put st.held f.who (tail (st.held f.who)) }) (record m { stack = record f { held = tail f.held } ∷ fs }) (record f { held = tail f.held }) fs
      (hold_under st m f fs tail a)
  effect_under st m f fs c service none who held a =
      with_task app ok beh f fs (sections_agreed st m [] (f ∷ fs) _ _ (ap (sections_after service) a.sections) a)

  -- a routine's service is followed by no reschedule
  no_reschedule : (st : State S G) (m : Stacked S G) (e : ℕ) → app.is_task e ≡ false → Agrees app st m → Agrees app (reschedule_after app beh e st) (settle_after app beh e m)
  no_reschedule st m e other a =
      subst (λ b. Agrees app (if b then reschedule app beh st else st) (if b then settle app beh m else m)) (sym (ap (λ b. b && app.is_preemptive e) other)) a

  -- a service of the routine on top
  effect_over : (st : State S G) (m : Stacked S G) (f : Frame S) (fs under : List (Frame S)) (c : Scene) (service : Service) → fault_of app c service ≡ None → c.caller ≡ f.who → IsAgreed app st m (f ∷ fs) under → Agrees app (SchedulerStep.effect app beh f.who service st) (OneStackMachine.effect app beh f (fs ++ under) service m)
  effect_over st m f fs under c (Activate t) none who a =
      no_reschedule (queue app t.0 st) (request t.0 (record m { stack = f ∷ (fs ++ under) })) f.who (ok.routines f.who a.routines.0)
      (with_routine app ok beh f fs under (queue_agreed app ok beh st (record m { stack = f ∷ (fs ++ under) }) (f ∷ fs) under t.0 (activated_task app ok c t none) (restacked st m (f ∷ fs) under a)))
  effect_over st m f fs under c Terminate none who a =
      let free = leaving_none app c None none in
      let no = ok.routines f.who a.routines.0 in
      let yes = free.0 in
      absurd (let e : true ≡ false = sym yes ∙ (ap app.is_task who ∙ no) in cc)
  effect_over st m f fs under c (Chain t) none who a =
      let free = leaving_none app c _ none in
      let no = ok.routines f.who a.routines.0 in
      let yes = free.0 in
      absurd (let e : true ≡ false = sym yes ∙ (ap app.is_task who ∙ no) in cc)
  effect_over st m f fs under c Schedule none who a =
      let free = leaving_none app c None none in
      let no = ok.routines f.who a.routines.0 in
      let yes = free.0 in
      absurd (let e : true ≡ false = sym yes ∙ (ap app.is_task who ∙ no) in cc)
  effect_over st m f fs under c (Get r) none who a = with_routine app ok beh (record f { held = r ∷ f.held }) fs under (hold_over st m f fs under (λ h. r ∷ h) a)
  effect_over st m f fs under c (Release r) none who a =
      no_reschedule (record st { held = put st.held f.who (tail (st.held f.who)) }) (record m { stack = record f { held = tail f.held } ∷ (fs ++ under) }) f.who (ok.routines f.who a.routines.0)
      (with_routine app ok beh (record f { held = tail f.held }) fs under (hold_over st m f fs under tail a))
  effect_over st m f fs under c service none who a =
      with_routine app ok beh f fs under (sections_agreed st m (f ∷ fs) under _ _ (ap (sections_after service) a.sections) a)

  -- taking out a routine that is not there changes nothing
  without_absent : (e : ℕ) (es : List ℕ) → times e es ≡ 0 → without_routine e es ≡ es
  without_absent e [] none = refl
  without_absent e (x ∷ xs) none = grind (arith, nat_tests, without_absent e xs)

  -- the routine on top is gone
  popped : (st : State S G) (m : Stacked S G) (f : Frame S) (fs under : List (Frame S)) (active : List ℕ) → active ≡ whos fs → f.held ≡ [] → IsAgreed app st m (f ∷ fs) under → IsAgreed app (record st { active = active }) (record m { stack = fs ++ under }) fs under
  popped st m f fs under active left free a =
      record {
        stack = refl;
        globals = a.globals;
        sections = a.sections;
        stopped = a.stopped;
        active = left;
        running = a.running;
        rises = a.rises.1;
        matches = a.matches.2;
        routines = a.routines.1;
        tasks = a.tasks;
        fresh = a.fresh;
        ready = a.ready;
        requests = a.requests;
        unheld = λ e none. grind (arith, nat_tests, a.unheld e, a.matches.1, free);
        awake = a.awake.1;
        top_awake = a.top_awake;
      }

  -- who is on two stacks, one on the other
  whos-append : (fs gs : List (Frame S)) → whos (fs ++ gs) ≡ whos fs ++ whos gs
  whos-append [] gs = refl
  whos-append (f ∷ fs) gs = ap (λ ws. f.who ∷ ws) (whos-append fs gs)

  -- what is not in two lists is not in the first
  times-left : (q : ℕ) (xs ys : List ℕ) → times q (xs ++ ys) ≡ 0 → times q xs ≡ 0
  times-left q [] ys h = refl
  times-left q (x ∷ xs) ys h = grind (arith, nat_tests, times-left q xs ys)

  idle_loose : (st : State S G) (m : Stacked S G) → IsAgreed app st m [] [] → IsLoose app st (record m { stack = [] })
  idle_loose st m a =
      record {
        globals = a.globals;
        sections = a.sections;
        stopped = a.stopped;
        active = a.active;
        rises = tt;
        matches = tt;
        tasks = tt;
        fresh = a.fresh;
        ready = a.ready;
        requests = a.requests;
        unheld = a.unheld;
      }

  -- after a routine has left
  left_agreed : (st : State S G) (m : Stacked S G) (fs under : List (Frame S)) → IsAgreed app st m fs under → Agrees app (SchedulerStep.leave app beh st) (OneStackMachine.after_routine app beh (fs ++ under) (record m { stack = fs ++ under }))
  left_agreed st m (g ∷ gs) under a =
      let stays : SchedulerStep.leave app beh st ≡ st = ap (λ rs. SchedulerStep.after_routine app beh rs st.running st) a.active in
      let other = ok.routines g.who a.routines.0 in
      subst (λ s. Agrees app s (settle_after app beh g.who (record m { stack = g ∷ (gs ++ under) }))) (sym stays)
      (subst (λ b. Agrees app st (if b then settle app beh (record m { stack = g ∷ (gs ++ under) }) else record m { stack = g ∷ (gs ++ under) })) (sym (ap (λ b. b && app.is_preemptive g.who) other))
      (with_routine app ok beh g gs under (restacked st m (g ∷ gs) under a)))
  left_agreed st m [] [] a =
      let goes : SchedulerStep.leave app beh st ≡ dispatch app beh st = ap₂ (λ rs r. SchedulerStep.after_routine app beh rs r st) a.active a.running in
      subst (λ s. Agrees app s (settle app beh (record m { stack = [] }))) (sym goes) (settled app ok beh st m [] (idle_loose st m a))
  left_agreed st m [] (g ∷ gs) a =
      let goes : SchedulerStep.leave app beh st ≡ reschedule_after app beh g.who st = ap₂ (λ rs r. SchedulerStep.after_routine app beh rs r st) a.active a.running in
      subst (λ s. Agrees app s (settle_after app beh g.who (record m { stack = g ∷ gs }))) (sym goes) (reschedule_after_under st m g gs a)

  -- a routine ends
  leave_over : (st : State S G) (m : Stacked S G) (f : Frame S) (fs under : List (Frame S)) → f.held ≡ [] → IsAgreed app st m (f ∷ fs) under → Agrees app (SchedulerStep.leave app beh (record st { active = without_routine f.who st.active })) (OneStackMachine.after_routine app beh (fs ++ under) (record m { stack = fs ++ under }))
  leave_over st m f fs under free a =
      left_agreed (record st { active = without_routine f.who st.active }) (record m { stack = fs ++ under }) fs under
      (popped st m f fs under (without_routine f.who st.active) left free a)
    where
      absent : times f.who (whos fs) ≡ 0
      absent =
          let low = rises_below app ok (app.level f.who) (fs ++ under) a.rises.0 a.rises.1 in
          let none = times_below app f.who (fs ++ under) low in
          times-left f.who (whos fs) (whos under) (ap (times f.who) (sym (whos-append fs under)) ∙ none)

      left : without_routine f.who st.active ≡ whos fs
      left =
          let here : without_routine f.who (f.who ∷ whos fs) ≡ without_routine f.who (whos fs) = grind (arith, nat_tests) in
          ap (without_routine f.who) a.active ∙ (here ∙ without_absent f.who (whos fs) absent)

  -- a failure
  stopped_agreed : (st : State S G) (m : Stacked S G) (over under : List (Frame S)) → IsAgreed app st m over under → IsAgreed app (record st { is_stopped = true }) (record m { is_stopped = true }) over under
  stopped_agreed st m over under a =
      record {
        stack = a.stack;
        globals = a.globals;
        sections = a.sections;
        stopped = refl;
        active = a.active;
        running = a.running;
        rises = a.rises;
        matches = a.matches;
        routines = a.routines;
        tasks = a.tasks;
        fresh = a.fresh;
        ready = a.ready;
        requests = a.requests;
        unheld = a.unheld;
        awake = a.awake;
        top_awake = a.top_awake;
      }

  -- a routine arrives
  pub arrived : (st : State S G) (m : Stacked S G) (over under : List (Frame S)) (r : ℕ) → app.is_routine r ≡ true → standing_of_top app (over ++ under) < app.level r → IsAgreed app st m over under → IsAgreed app (arrive beh r st) (record m { stack = begun beh r ∷ m.stack }) (begun beh r ∷ over) under
  arrived st m over under r routine up a =
      record {
        stack = ap (λ fs. begun beh r ∷ fs) a.stack;
        globals = a.globals;
        sections = a.sections;
        stopped = a.stopped;
        active = ap (λ es. r ∷ es) a.active;
        running = a.running;
        rises = (up, a.rises);
        matches = (put_same st.state r (beh.start r), put_same st.held r [], matches_elsewhere app r st.state _ st.held _ (over ++ under) (put_other st.state r (beh.start r)) (put_other st.held r []) (rises_below app ok (app.level r) (over ++ under) up a.rises) a.matches);
        routines = (routine, a.routines);
        tasks = a.tasks;
        fresh = a.fresh;
        ready = a.ready;
        requests = a.requests;
        unheld = λ e none. grind (arith, nat_tests, a.unheld e);
        awake = (refl, a.awake);
        top_awake = a.top_awake;
      }

  -- what a deed comes from
  abbrev pub IsAllowed : Scene → Deed S G → Type 0
  IsAllowed c (Moves action after) = Unit {0}
  IsAllowed c (Serves service after) = fault_of app c service ≡ None
  IsAllowed c Leaves = (app.is_task c.caller ≡ false) × (c.held ≡ [])
  IsAllowed c (Stops failure service) = Unit {0}

  move_under : (st : State S G) (m : Stacked S G) (f : Frame S) (fs : List (Frame S)) (after : After S G) → IsAgreed app st m [] (f ∷ fs) → IsAgreed app (SchedulerStep.move f.who after st) (record m { globals = after.globals; stack = record f { state = after.state } ∷ fs }) [] (record f { state = after.state } ∷ fs)
  move_under st m f fs after a =
      retop_under app ok beh st m f fs after.globals after.globals after.state f.held (put st.state f.who after.state) st.held refl
      (put_same st.state f.who after.state) a.matches.1 (put_other st.state f.who after.state) (λ q h. refl) a

  move_over : (st : State S G) (m : Stacked S G) (f : Frame S) (fs under : List (Frame S)) (after : After S G) → IsAgreed app st m (f ∷ fs) under → IsAgreed app (SchedulerStep.move f.who after st) (record m { globals = after.globals; stack = record f { state = after.state } ∷ (fs ++ under) }) (record f { state = after.state } ∷ fs) under
  move_over st m f fs under after a =
      retop_over app ok beh st m f fs under after.globals after.globals after.state f.held (put st.state f.who after.state) st.held refl
      (put_same st.state f.who after.state) a.matches.1 (put_other st.state f.who after.state) (λ q h. refl) a

  -- what is done for the running task keeps the agreement
  pub act_under : (st : State S G) (m : Stacked S G) (f : Frame S) (fs : List (Frame S)) (d : Deed S G) → IsAllowed (OneStackMachine.scene m f) d → IsAgreed app st m [] (f ∷ fs) → Agrees app (SchedulerStep.act app beh f.who d st) (OneStackMachine.act app beh f fs d m)
  act_under st m f fs (Moves action after) allowed a = with_task app ok beh (record f { state = after.state }) fs (move_under st m f fs after a)
  act_under st m f fs (Serves service after) allowed a =
      effect_under (SchedulerStep.move f.who after st) (record m { globals = after.globals; stack = record f { state = after.state } ∷ fs }) (record f { state = after.state }) fs (OneStackMachine.scene m f) service allowed refl refl
      (move_under st m f fs after a)
  act_under st m f fs Leaves allowed a =
      let yes = a.tasks.0 in
      let other = allowed.0 in
      absurd (let e : true ≡ false = sym yes ∙ other in cc)
  act_under st m f fs (Stops failure service) allowed a = with_task app ok beh f fs (stopped_agreed st m [] (f ∷ fs) a)

  -- what is done for the routine on top keeps the agreement
  pub act_over : (st : State S G) (m : Stacked S G) (f : Frame S) (fs under : List (Frame S)) (d : Deed S G) → IsAllowed (OneStackMachine.scene m f) d → IsAgreed app st m (f ∷ fs) under → Agrees app (SchedulerStep.act app beh f.who d st) (OneStackMachine.act app beh f (fs ++ under) d m)
  act_over st m f fs under (Moves action after) allowed a = with_routine app ok beh (record f { state = after.state }) fs under (move_over st m f fs under after a)
  act_over st m f fs under (Serves service after) allowed a =
      effect_over (SchedulerStep.move f.who after st) (record m { globals = after.globals; stack = record f { state = after.state } ∷ (fs ++ under) }) (record f { state = after.state }) fs under (OneStackMachine.scene m f) service allowed refl
      (move_over st m f fs under after a)
  act_over st m f fs under Leaves allowed a = leave_over st m f fs under allowed.1 a
  act_over st m f fs under (Stops failure service) allowed a = with_routine app ok beh f fs under (stopped_agreed st m (f ∷ fs) under a)
