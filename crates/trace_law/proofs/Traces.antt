-- The two schedulers have the same traces.
use Rattle.std.proofs.Common.{◌≡◌, ℕ, ◌<◌, Bool, true, false, ◌&&◌, List, [], ◌∷◌, ◌++◌, Option, Some, None, refl, sym, ap, ap₂, subst, ◌∙◌, arith, nat_lt, if◌then◌else◌, append_assoc, append-nil, option_map, ◌↔◌}
use Rattle.std.proofs.lemmas.Bool.Decides.{nat_tests}
use Rattle.application.specs.declared.app.Entity.{Entity}
use Rattle.chk_base.specs.declared.place.Place.{Place}
use Rattle.trace_law.proofs.Agree.{IsLoose, settled, with_routine}
use Rattle.trace_law.proofs.Deeds.{IsAllowed, act_under, act_over, arrived}
use Rattle.trace_law.proofs.Scenes.{scene_same, deed_same, deed_allowed, IsAllowedIf}
use Rattle.step_ir.proofs.Stacks.{rises_below}
use Rattle.trace_law.proofs.Steps.{queue_loose}
use Rattle.step_ir.specs.declared.event.Choice.{Choice}
use Rattle.step_ir.specs.declared.event.Choice.TheVariants.{Go, GoWith, Arrive}
use Rattle.step_ir.specs.declared.event.Event.{Event}
use Rattle.step_ir.specs.declared.event.EventAction.{EventAction}
use Rattle.step_ir.specs.declared.event.EventAction.TheVariants as Action
use Rattle.step_ir.specs.Agreement.{AreAwake, IsTopAwake, IsAgreed, Agrees, HaveSame, AllBelow}
use Rattle.step_ir.specs.Deeds.{Deed, action_of, deed_of, next_of, happened}
use Rattle.step_ir.specs.EntityStep.{Behaviour}
use Rattle.step_ir.specs.Numbers.{is_empty}
use Rattle.step_ir.specs.OneStackMachine
use Rattle.step_ir.specs.OneStackMachine.{Stacked, Frame, whos, top_of, standing, standing_of_top, level_of_top, settle, IsStackRun}
use Rattle.step_ir.specs.PermittedSchedule
use Rattle.step_ir.specs.PermittedSchedule.{follow, prepend, events_of, IsSchedule}
use Rattle.step_ir.specs.Reschedule.{give_back, dispatch}
use Rattle.step_ir.specs.SchedulerState
use Rattle.step_ir.specs.SchedulerState.{State}
use Rattle.step_ir.specs.SchedulerStep
use Rattle.step_ir.specs.SchedulerStep.{queue, queue_all}
use Rattle.step_ir.specs.Services.{Scene}
use Rattle.step_ir.specs.Setting.{Setting, foremost, earlier, current, IsSound, AreTasks}

module _ {S G : Type 0} (app : Setting) (ok : IsSound app) (beh : Behaviour S G) where
  -- the first of greatest level is below what all are below
  foremost_low : (fs : List (Frame S)) (l u : ℕ) → AllBelow app l fs → foremost app (whos fs) ≡ Some u → app.level u < l
  foremost_low [] l u low h = absurd (let e : ◌≡◌ {A = Option ℕ} None (Some u) = h in cc)
  foremost_low (g ∷ gs) l u low h = go (foremost app (whos gs)) refl h (λ v e. foremost_low gs l v low.1 e)
    where
      go : (o : Option ℕ) → foremost app (whos gs) ≡ o → earlier app g.who o ≡ Some u → ((v : ℕ) → foremost app (whos gs) ≡ Some v → app.level v < l) → app.level u < l
      go None e k ih =
          let same : g.who ≡ u = cc in
          subst (λ x. app.level x < l) same low.0
      go (Some v) e k ih = split (nat_lt (app.level g.who) (app.level v)) k
        where
          split : (b : Bool) → (if b then Some v else Some g.who) ≡ Some u → app.level u < l
          split true k =
              let same : v ≡ u = cc in
              subst (λ x. app.level x < l) same (ih v e)
          split false k =
              let same : g.who ≡ u = cc in
              subst (λ x. app.level x < l) same low.0

  -- the top of a stack that rises is the first of greatest level
  foremost_top : (f : Frame S) (fs : List (Frame S)) → AllBelow app (app.level f.who) fs → foremost app (whos (f ∷ fs)) ≡ Some f.who
  foremost_top f fs low = go (foremost app (whos fs)) refl
    where
      go : (o : Option ℕ) → foremost app (whos fs) ≡ o → earlier app f.who o ≡ Some f.who
      go None e = refl
      go (Some v) e =
          let less : app.level v < app.level f.who = foremost_low fs (app.level f.who) v low e in
          grind (arith, nat_tests)

  -- what all are below, the upper ones are below
  AllBelow-left : (l : ℕ) (fs gs : List (Frame S)) → AllBelow app l (fs ++ gs) → AllBelow app l fs
  AllBelow-left l [] gs h = tt
  AllBelow-left l (f ∷ fs) gs h = (h.0, AllBelow-left l fs gs h.1)

  -- the actor is the top
  actor_is : (st : State S G) (m : Stacked S G) (over under : List (Frame S)) → IsAgreed app st m over under → SchedulerState.actor app st ≡ top_of (over ++ under)
  actor_is st m [] under a = ap₂ (SchedulerState.actor_of app) a.active a.running
  actor_is st m (f ∷ fs) under a =
      ap₂ (SchedulerState.actor_of app) a.active a.running
      ∙ foremost_top f fs (AllBelow-left (app.level f.who) fs under (rises_below app ok (app.level f.who) (fs ++ under) a.rises.0 a.rises.1))

  -- both tell the same event
  told : (e : ℕ) (action : EventAction) (p q : Place) (st : State S G) (m : Stacked S G) → p ≡ q → Agrees app st m → HaveSame app (Some (SchedulerStep.tell app e action p st)) (Some (OneStackMachine.tell e action q m))
  told e action p q st m place agrees = (
    ap₂ (happened e action) place
        (ap₂ next_of agrees.agreed.stopped (actor_is st m agrees.over agrees.under agrees.agreed ∙ ap top_of (sym agrees.agreed.stack))),
    agrees,
  )

  -- both do the same, or nothing
  map_follows : (c : Scene) (e : ℕ) (p q : Place) (F : Deed S G → State S G) (H : Deed S G → Stacked S G) (d : Option (Deed S G)) → p ≡ q → IsAllowedIf app ok beh c d → ((x : Deed S G) → IsAllowed app ok beh c x → Agrees app (F x) (H x)) → HaveSame app (option_map (λ x. SchedulerStep.tell app e (action_of x) p (F x)) d) (option_map (λ x. OneStackMachine.tell e (action_of x) q (H x)) d)
  map_follows c e p q F H None place allowed acts = tt
  map_follows c e p q F H (Some x) place allowed acts = told e (action_of x) p q (F x) (H x) place (acts x allowed)

  -- the step of the top
  go_top : (st : State S G) (m : Stacked S G) (over under : List (Frame S)) (f : Frame S) (rest : List (Frame S)) (choice : Choice) → st.state f.who ≡ f.state → st.held f.who ≡ f.held → ((x : Deed S G) → IsAllowed app ok beh (OneStackMachine.scene m f) x → Agrees app (SchedulerStep.act app beh f.who x st) (OneStackMachine.act app beh f rest x m)) → IsAgreed app st m over under → HaveSame app (SchedulerStep.go app beh st choice (Some f.who)) (OneStackMachine.go app beh m choice (f ∷ rest))
  go_top st m over under f rest choice state held acts a =
      subst (λ d. HaveSame app (option_map (λ x. SchedulerStep.tell app f.who (action_of x) (beh.place f.who (st.state f.who)) (SchedulerStep.act app beh f.who x st)) d) (OneStackMachine.go app beh m choice (f ∷ rest))) (sym same)
      (map_follows (OneStackMachine.scene m f) f.who _ _ (λ x. SchedulerStep.act app beh f.who x st) (λ x. OneStackMachine.act app beh f rest x m) _ (ap (beh.place f.who) state)
      (deed_allowed app ok beh (OneStackMachine.scene m f) (beh.wants f.who f.state m.globals) choice) acts)
    where
      same : deed_of app (SchedulerState.scene app st f.who) (beh.wants f.who (st.state f.who) st.globals) choice ≡ deed_of app (OneStackMachine.scene m f) (beh.wants f.who f.state m.globals) choice
      same =
          deed_same app ok beh (SchedulerState.scene app st f.who) (OneStackMachine.scene m f) (scene_same app ok beh st m over under f held a) (beh.wants f.who (st.state f.who) st.globals) choice
          ∙ ap₂ (λ s g. deed_of app (OneStackMachine.scene m f) (beh.wants f.who s g) choice) state a.globals

  -- the step of whoever is on top
  go_core : (st : State S G) (m : Stacked S G) (over under : List (Frame S)) (choice : Choice) → IsAgreed app st m over under → HaveSame app (SchedulerStep.go app beh st choice (top_of (over ++ under))) (OneStackMachine.go app beh m choice (over ++ under))
  go_core st m [] [] choice a = tt
  go_core st m [] (f ∷ fs) choice a =
      go_top st m [] (f ∷ fs) f fs choice a.matches.0 a.matches.1 (λ x allowed. act_under app ok beh st m f fs x allowed a) a
  go_core st m (f ∷ fs) under choice a =
      go_top st m (f ∷ fs) under f (fs ++ under) choice a.matches.0 a.matches.1 (λ x allowed. act_over app ok beh st m f fs under x allowed a) a

  -- the step of the actor
  goes : (st : State S G) (m : Stacked S G) (over under : List (Frame S)) (choice : Choice) → IsAgreed app st m over under → HaveSame app (SchedulerStep.go app beh st choice (SchedulerState.actor app st)) (OneStackMachine.go app beh m choice m.stack)
  goes st m over under choice a =
      subst (λ o. HaveSame app (SchedulerStep.go app beh st choice o) (OneStackMachine.go app beh m choice m.stack)) (sym (actor_is st m over under a))
      (subst (λ fs. HaveSame app (SchedulerStep.go app beh st choice (top_of (over ++ under))) (OneStackMachine.go app beh m choice fs)) (sym a.stack)
      (go_core st m over under choice a))

  -- the top stands at its current level
  top_stands : (over under : List (Frame S)) → AreAwake over → IsTopAwake under → standing_of_top app (over ++ under) ≡ level_of_top app (over ++ under)
  top_stands [] [] a b = refl
  top_stands [] (f ∷ fs) a b = ap (λ y. if y then app.level f.who else current app f.who f.held) b
  top_stands (f ∷ fs) under a b = ap (λ y. if y then app.level f.who else current app f.who f.held) a.0

  -- the current level of the top
  level_core : (st : State S G) (m : Stacked S G) (over under : List (Frame S)) → IsAgreed app st m over under → SchedulerState.level_at app st (top_of (over ++ under)) ≡ level_of_top app (over ++ under)
  level_core st m [] [] a = refl
  level_core st m [] (f ∷ fs) a = ap (current app f.who) a.matches.1
  level_core st m (f ∷ fs) under a = ap (current app f.who) a.matches.1

  -- the current levels are the same
  level_same : (st : State S G) (m : Stacked S G) (over under : List (Frame S)) → IsAgreed app st m over under → SchedulerState.level_at app st (SchedulerState.actor app st) ≡ level_of_top app m.stack
  level_same st m over under a =
      ap (SchedulerState.level_at app st) (actor_is st m over under a) ∙ (level_core st m over under a ∙ ap (level_of_top app) (sym a.stack))

  -- both of two hold
  and_true : (a b : Bool) → (a && b) ≡ true → (a ≡ true) × (b ≡ true)
  and_true true b h = (refl, h)
  and_true false b h = absurd (let e : false ≡ true = h in cc)

  -- an arrival
  arrives : (st : State S G) (m : Stacked S G) (over under : List (Frame S)) (r : Entity) → IsAgreed app st m over under → HaveSame app (SchedulerStep.step_on app beh st (Arrive r)) (OneStackMachine.step_on app beh m (Arrive r))
  arrives st m over under r a =
      subst (λ b. HaveSame app (if b then Some (SchedulerStep.tell app r.0 Action.Arrive (beh.place r.0 (beh.start r.0)) (SchedulerStep.arrive beh r.0 st)) else None) (OneStackMachine.step_on app beh m (Arrive r))) (sym may)
      (go (OneStackMachine.may_arrive app m r.0) refl)
    where
      may : SchedulerStep.may_arrive app st r.0 ≡ OneStackMachine.may_arrive app m r.0
      may = ap₂ (λ l ss. app.is_routine r.0 && (nat_lt l (app.level r.0) && is_empty ss)) (level_same st m over under a) a.sections

      go : (b : Bool) → OneStackMachine.may_arrive app m r.0 ≡ b → HaveSame app (if b then Some (SchedulerStep.tell app r.0 Action.Arrive (beh.place r.0 (beh.start r.0)) (SchedulerStep.arrive beh r.0 st)) else None) (if b then Some (OneStackMachine.tell r.0 Action.Arrive (beh.place r.0 (beh.start r.0)) (record m { stack = OneStackMachine.begun beh r.0 ∷ m.stack })) else None)
      go true e =
          let x = and_true (app.is_routine r.0) (nat_lt (level_of_top app m.stack) (app.level r.0) && is_empty m.sections) e in
          let y = and_true (nat_lt (level_of_top app m.stack) (app.level r.0)) (is_empty m.sections) x.1 in
          let less : level_of_top app m.stack < app.level r.0 = grind (arith, nat_tests, y.0) in
          let up : standing_of_top app (over ++ under) < app.level r.0 = omega (arith, top_stands over under a.awake a.top_awake, ap (level_of_top app) a.stack) in
          told r.0 Action.Arrive _ _ _ _ refl (with_routine app ok beh (OneStackMachine.begun beh r.0) over under (arrived app ok beh st m over under r.0 x.0 up a))
      go false e = tt

  -- a step where nothing has stopped
  steps_on : (st : State S G) (m : Stacked S G) (over under : List (Frame S)) (choice : Choice) → IsAgreed app st m over under → HaveSame app (SchedulerStep.step_on app beh st choice) (OneStackMachine.step_on app beh m choice)
  steps_on st m over under (Arrive r) a = arrives st m over under r a
  steps_on st m over under Go a = goes st m over under Go a
  steps_on st m over under (GoWith w) a = goes st m over under (GoWith w) a

  -- a step keeps the agreement
  pub steps : (st : State S G) (m : Stacked S G) (choice : Choice) → Agrees app st m → HaveSame app (SchedulerStep.step app beh st choice) (OneStackMachine.step app beh m choice)
  steps st m choice agrees =
      subst (λ b. HaveSame app (if b then None else SchedulerStep.step_on app beh st choice) (OneStackMachine.step app beh m choice)) (sym agrees.agreed.stopped) (go m.is_stopped)
    where
      go : (b : Bool) → HaveSame app (if b then None else SchedulerStep.step_on app beh st choice) (if b then None else OneStackMachine.step_on app beh m choice)
      go true = tt
      go false = steps_on st m agrees.over agrees.under choice agrees.agreed

  -- the same event before runs that agree
  prepend_same : (e e' : Event) (o : Option (List Event × State S G)) (p : Option (List Event × Stacked S G)) → e ≡ e' → HaveSame app o p → HaveSame app (prepend e o) (prepend e' p)
  prepend_same e e' None None same h = tt
  prepend_same e e' (Some x) (Some y) same h = (ap₂ (λ a b. a ∷ b) same h.0, h.1)
  prepend_same e e' None (Some y) same h = h
  prepend_same e e' (Some x) None same h = h

  -- a step and a rest that agree
  follow_same : (o : Option (Event × State S G)) (p : Option (Event × Stacked S G)) (F : State S G → Option (List Event × State S G)) (H : Stacked S G → Option (List Event × Stacked S G)) → HaveSame app o p → ((st : State S G) (m : Stacked S G) → Agrees app st m → HaveSame app (F st) (H m)) → HaveSame app (follow o F) (follow p H)
  follow_same None None F H f h = tt
  follow_same (Some x) (Some y) F H f h = prepend_same x.0 y.0 (F x.1) (H y.1) f.0 (h x.1 y.1 f.1)
  follow_same None (Some y) F H f h = absurd f
  follow_same (Some x) None F H f h = absurd f

  -- every list of choices keeps the agreement
  runs_same : (choices : List Choice) (st : State S G) (m : Stacked S G) → Agrees app st m → HaveSame app (PermittedSchedule.run app beh choices st) (OneStackMachine.run app beh choices m)
  runs_same [] st m agrees = (refl, agrees)
  runs_same (c ∷ cs) st m agrees =
      follow_same (SchedulerStep.step app beh st c) (OneStackMachine.step app beh m c) (PermittedSchedule.run app beh cs) (OneStackMachine.run app beh cs) (steps st m c agrees) (λ st' m' h. runs_same cs st' m' h)

  queued_loose : (ts : List ℕ) (st : State S G) (m : Stacked S G) → AreTasks app ts → IsLoose app st m → IsLoose app (queue_all app ts st) (record m { fresh = m.fresh ++ ts })
  queued_loose [] st m tasks loose = subst (λ fresh. IsLoose app st (record m { fresh = fresh })) (sym (append-nil m.fresh)) loose
  queued_loose (t ∷ ts) st m tasks loose =
      subst (λ fresh. IsLoose app (queue_all app ts (queue app t st)) (record m { fresh = fresh })) (append_assoc m.fresh (t ∷ []) ts)
      (queued_loose ts (queue app t st) (OneStackMachine.request t m) tasks.1 (queue_loose app ok beh st m t tasks.0 loose))

  -- requests do not change who runs
  queued_idle : (ts : List ℕ) (st : State S G) → (queue_all app ts st).running ≡ st.running
  queued_idle [] st = refl
  queued_idle (t ∷ ts) st = queued_idle ts (queue app t st)

  -- the states agree at the start
  pub starts : (globals : G) → Agrees app (SchedulerStep.start app beh globals) (OneStackMachine.start app beh globals)
  starts globals =
      subst (λ o. Agrees app (dispatch app beh (give_back app o (queue_all app app.autostart (SchedulerState.nothing_yet beh globals)))) (OneStackMachine.start app beh globals)) (sym (queued_idle app.autostart (SchedulerState.nothing_yet beh globals)))
      (settled app ok beh (queue_all app app.autostart (SchedulerState.nothing_yet beh globals)) (record { globals = globals; stack = []; fresh = app.autostart; sections = []; is_stopped = false }) []
      (queued_loose app.autostart (SchedulerState.nothing_yet beh globals) (record { globals = globals; stack = []; fresh = []; sections = []; is_stopped = false }) ok.started none))
    where
      none : IsLoose app (SchedulerState.nothing_yet {S = S} beh globals) (record { globals = globals; stack = []; fresh = []; sections = []; is_stopped = false })
      none =
          record {
            globals = refl;
            sections = refl;
            stopped = refl;
            active = refl;
            rises = tt;
            matches = tt;
            tasks = tt;
            fresh = tt;
            ready = λ l. refl;
            requests = λ t. refl;
            unheld = λ e h. refl;
          }

  -- the two runs of a list of choices
  pub same_runs_lem : (globals : G) (choices : List Choice) → HaveSame app (PermittedSchedule.run app beh choices (SchedulerStep.start app beh globals)) (OneStackMachine.run app beh choices (OneStackMachine.start app beh globals))
  same_runs_lem globals choices = runs_same choices (SchedulerStep.start app beh globals) (OneStackMachine.start app beh globals) (starts globals)

  -- runs that agree have the same events
  events_same : (o : Option (List Event × State S G)) (p : Option (List Event × Stacked S G)) → HaveSame app o p → events_of o ≡ events_of p
  events_same None None h = refl
  events_same (Some x) (Some y) h = ap Some h.0
  events_same None (Some y) h = absurd h
  events_same (Some x) None h = absurd h

  -- all lists of choices have the same events in both
  all_events_same : (globals : G) (choices : List Choice) → PermittedSchedule.events_from app beh choices (SchedulerStep.start app beh globals) ≡ OneStackMachine.events_from app beh choices (OneStackMachine.start app beh globals)
  all_events_same globals choices = events_same _ _ (same_runs_lem globals choices)

  -- within any bounds the events are the same, both ways
  pub same_traces_lem : (globals : G) (k m : ℕ) (events : List Event) → IsSchedule app beh globals k m events ↔ IsStackRun app beh globals k m events
  same_traces_lem globals k m events = (
    λ s. record { choices = s.choices; permitted = sym (all_events_same globals s.choices) ∙ s.permitted; short = s.short; few = s.few },
    λ s. record { choices = s.choices; permitted = all_events_same globals s.choices ∙ s.permitted; short = s.short; few = s.few },
  )
