-- A schedule fails exactly where a failure has stopped the schedulers.
use Rattle.std.proofs.Common.{◌≡◌, ℕ, Bool, true, false, ◌&&◌, List, [], ◌∷◌, Option, Some, None, refl, sym, ap, subst, ◌∙◌, nat_lt, if◌then◌else◌, option_map}
use Rattle.chk_base.specs.declared.place.Place.{Place}
use Rattle.trace_law.proofs.Traces.{same_runs_lem}
use Rattle.step_ir.specs.declared.event.Choice.{Choice}
use Rattle.step_ir.specs.declared.event.Choice.TheVariants.{Go, GoWith, Arrive}
use Rattle.step_ir.specs.declared.event.Event.{Event}
use Rattle.step_ir.specs.declared.event.EventAction.TheVariants as Action
use Rattle.step_ir.specs.declared.event.Failure.{Failure}
use Rattle.step_ir.specs.declared.event.Service.{Service}
use Rattle.step_ir.specs.declared.event.Service.TheVariants.{Activate, Terminate, Chain, Schedule, Get, Release}
use Rattle.step_ir.specs.Agreement.{HaveSame}
use Rattle.step_ir.specs.Deeds.{Deed, Moves, Serves, Leaves, Stops, action_of, deed_of, end_of, serve, same_width}
use Rattle.step_ir.specs.EntityStep.{After, Behaviour, TellsNoFailures, TellsNoFailure, Want, Does, Inputs, Calls, Ends, Fails, InputFails, is_failure}
use Rattle.step_ir.specs.Numbers.{is_empty, tail}
use Rattle.step_ir.specs.OneStackMachine.{Frame, Stacked, act, after_routine, begun, effect, go, may_arrive, move, request, run, run_on, scene, settle, settle_after, settle_with, standing_of_top, start, step, step_on, tell, without}
use Rattle.step_ir.specs.PermittedSchedule
use Rattle.step_ir.specs.PermittedSchedule.{fails, follow, prepend}
use Rattle.step_ir.specs.SchedulerState.{State}
use Rattle.step_ir.specs.SchedulerStep
use Rattle.step_ir.specs.Services.{Scene, fault, fault_of}
use Rattle.step_ir.specs.Setting.{IsSound, Setting, foremost, gives_way}

-- whether the last of these events is a failure, or else this
ends : Bool → List Event → Bool
ends b [] = b
ends b (e ∷ es) = ends (is_failure e.action) es

-- the last event decides, where there is one
ends-fails : (e : Event) (es : List Event) → fails (e ∷ es) ≡ ends (is_failure e.action) es
unfolding ends
ends-fails e [] = refl
ends-fails e (f ∷ es) = ends-fails f es

-- a schedule fails where its last event is a failure
fails_ends : (events : List Event) → fails events ≡ ends false events
unfolding ends
fails_ends [] = refl
fails_ends (e ∷ es) = ends-fails e es

module _ {S G : Type 0} (app : Setting) (beh : Behaviour S G) where
  -- to settle stops nothing
  settle_with_keeps : (o : Option ℕ) (m : Stacked S G) → (settle_with app beh o m).is_stopped ≡ m.is_stopped
  settle_with_keeps None m = refl
  settle_with_keeps (Some t) m = go (nat_lt (standing_of_top app m.stack) (app.level t))
    where
      go : (b : Bool) → (if b then record m { stack = begun beh t ∷ m.stack; fresh = without t m.fresh } else record m { stack = run_on m.stack }).is_stopped ≡ m.is_stopped
      go true = refl
      go false = refl

  -- to settle stops nothing, whatever the fresh requests are
  settle_keeps : (m : Stacked S G) → (settle app beh m).is_stopped ≡ m.is_stopped
  settle_keeps m = settle_with_keeps (foremost app m.fresh) m

  -- nor does it where it follows only for a preemptive task
  settle_after_keeps : (e : ℕ) (m : Stacked S G) → (settle_after app beh e m).is_stopped ≡ m.is_stopped
  settle_after_keeps e m = go (gives_way app e)
    where
      go : (b : Bool) → (if b then settle app beh m else m).is_stopped ≡ m.is_stopped
      go true = settle_keeps m
      go false = refl

  -- a service stops nothing
  effect_keeps : (f : Frame S) (below : List (Frame S)) (service : Service) (m : Stacked S G) → (effect app beh f below service m).is_stopped ≡ m.is_stopped
  effect_keeps f below (Activate t) m = settle_after_keeps f.who (request t.0 (record m { stack = f ∷ below }))
  effect_keeps f below Terminate m = settle_keeps (record m { stack = below })
  effect_keeps f below (Chain t) m = settle_keeps (request t.0 (record m { stack = below }))
  effect_keeps f below Schedule m = settle_keeps (record m { stack = record f { yielded = true } ∷ below })
  effect_keeps f below (Get r) m = refl
  effect_keeps f below (Release r) m = settle_after_keeps f.who (record m { stack = record f { held = tail f.held } ∷ below })
  effect_keeps f below _ m = refl

  -- the end of a routine stops nothing
  after_routine_keeps : (below : List (Frame S)) (m : Stacked S G) → (after_routine app beh below m).is_stopped ≡ m.is_stopped
  after_routine_keeps [] m = settle_keeps m
  after_routine_keeps (f ∷ fs) m = settle_after_keeps f.who m

  -- what is done is told as a failure exactly where it stops the machine
  abbrev IsTold : Deed S G → Type 0
  IsTold (Moves action after) = is_failure action ≡ false
  IsTold _ = Unit {0}

  -- the action that an event tells is a failure exactly where it stops the machine
  act_told : (f : Frame S) (below : List (Frame S)) (d : Deed S G) (m : Stacked S G) → m.is_stopped ≡ false → IsTold d → is_failure (action_of d) ≡ (act app beh f below d m).is_stopped
  act_told f below (Moves action after) m up h = h ∙ sym up
  act_told f below (Serves service after) m up h =
      sym (effect_keeps (record f { state = after.state }) below service (move f below after m) ∙ up)
  act_told f below Leaves m up h = sym (after_routine_keeps below (record m { stack = below }) ∙ up)
  act_told f below (Stops failure service) m up h = refl

  abbrev IsToldIf : Option (Deed S G) → Type 0
  IsToldIf None = Unit {0}
  IsToldIf (Some d) = IsTold d

  -- a service tells no failure of its own
  serve_told : (service : Service) (after : After S G) (failure : Option Failure) → IsTold (serve service after failure)
  serve_told service after None = tt
  serve_told service after (Some failure) = tt

  -- nor does the end of a body
  end_told : (c : Scene) → IsTold (end_of app c)
  end_told c = go (app.is_task c.caller) (is_empty c.sections && is_empty c.held)
    where
      go : (task free : Bool) → IsTold (if task then Stops (fault 7) None else (if free then Leaves else Stops (fault 9) None))
      go true free = tt
      go false true = tt
      go false false = tt

  -- nor does what is permitted at one width alone
  width_told : (b : Bool) (d : Deed S G) → IsTold d → IsToldIf (if b then Some d else None)
  width_told true d h = h
  width_told false d h = tt

  -- nor does whatever an entity wants
  deed_told : (c : Scene) (want : Want S G) (choice : Choice) → TellsNoFailure want → IsToldIf (deed_of app c want choice)
  deed_told c (Does action after) Go h = h
  deed_told c (Inputs width action after) (GoWith w) h = width_told (same_width w.width width) (Moves (action w) (after w)) (h w)
  deed_told c (Calls service after) Go h = serve_told service after (fault_of app c service)
  deed_told c Ends Go h = end_told c
  deed_told c (Fails failure) Go h = tt
  deed_told c (InputFails width failure) (GoWith w) h = width_told (same_width w.width width) (Stops failure None) tt
  deed_told c _ _ h = tt

  -- a step's event is a failure exactly where the machine is stopped after it
  abbrev TellsStop : Option (Event × Stacked S G) → Type 0
  TellsStop None = Unit {0}
  TellsStop (Some next) = is_failure next.0.action ≡ next.1.is_stopped

  -- the event of what is done
  map_tells : (f : Frame S) (below : List (Frame S)) (place : Place) (o : Option (Deed S G)) (m : Stacked S G) → m.is_stopped ≡ false → IsToldIf o → TellsStop (option_map (λ d. tell f.who (action_of d) place (act app beh f below d m)) o)
  map_tells f below place None m up h = tt
  map_tells f below place (Some d) m up h = act_told f below d m up h

  module _ (tells : TellsNoFailures beh) where
    go_tells : (choice : Choice) (stack : List (Frame S)) (m : Stacked S G) → m.is_stopped ≡ false → TellsStop (go app beh m choice stack)
    go_tells choice [] m up = tt
    go_tells choice (f ∷ below) m up =
        map_tells f below (beh.place f.who f.state) (deed_of app (scene m f) (beh.wants f.who f.state m.globals) choice) m up
        (deed_told (scene m f) (beh.wants f.who f.state m.globals) choice (tells f.who f.state m.globals))

    step_on_tells : (choice : Choice) (m : Stacked S G) → m.is_stopped ≡ false → TellsStop (step_on app beh m choice)
    step_on_tells Go m up = go_tells Go m.stack m up
    step_on_tells (GoWith w) m up = go_tells (GoWith w) m.stack m up
    step_on_tells (Arrive r) m up = arrives (may_arrive app m r.0)
      where
        arrives : (b : Bool) → TellsStop (if b then Some (tell r.0 Action.Arrive (beh.place r.0 (beh.start r.0)) (record m { stack = begun beh r.0 ∷ m.stack })) else None)
        arrives true = sym up
        arrives false = tt

    step_tells : (choice : Choice) (m : Stacked S G) → TellsStop (step app beh m choice)
    step_tells choice m = at m.is_stopped refl
      where
        at : (b : Bool) → m.is_stopped ≡ b → TellsStop (if b then None else step_on app beh m choice)
        at true is = tt
        at false is = step_on_tells choice m is

    -- the last event of a run is a failure exactly where the machine is stopped after it
    abbrev EndsAs : Bool → Option (List Event × Stacked S G) → Type 0
    EndsAs b None = Unit {0}
    EndsAs b (Some r) = ends b r.0 ≡ r.1.is_stopped

    prepend_ends : (b : Bool) (e : Event) (o : Option (List Event × Stacked S G)) → EndsAs (is_failure e.action) o → EndsAs b (prepend e o)
    unfolding ends
    prepend_ends b e None h = tt
    prepend_ends b e (Some r) h = h

    follow_ends : (b : Bool) (o : Option (Event × Stacked S G)) (rest : Stacked S G → Option (List Event × Stacked S G)) → TellsStop o → ((m : Stacked S G) → EndsAs m.is_stopped (rest m)) → EndsAs b (follow o rest)
    follow_ends b None rest told h = tt
    follow_ends b (Some next) rest told h = prepend_ends b next.0 (rest next.1) (subst (λ c. EndsAs c (rest next.1)) (sym told) (h next.1))

    run_ends : (choices : List Choice) (m : Stacked S G) → EndsAs m.is_stopped (run app beh choices m)
    unfolding ends
    run_ends [] m = refl
    run_ends (c ∷ cs) m = follow_ends m.is_stopped (step app beh m c) (run app beh cs) (step_tells c m) (λ n. run_ends cs n)

    pub machine_stopped_lem : (globals : G) (choices : List Choice) (events : List Event) (m : Stacked S G) → run app beh choices (start app beh globals) ≡ Some (events, m) → fails events ≡ m.is_stopped
    machine_stopped_lem globals choices events m is =
        fails_ends events
        ∙ subst (EndsAs false) is (subst (λ b. EndsAs b (run app beh choices (start app beh globals))) (settle_keeps (record { globals = globals; stack = []; fresh = app.autostart; sections = []; is_stopped = false })) (run_ends choices (start app beh globals)))

    pub stopped_lem : IsSound app → (globals : G) (choices : List Choice) (events : List Event) (st : State S G) → PermittedSchedule.run app beh choices (SchedulerStep.start app beh globals) ≡ Some (events, st) → fails events ≡ st.is_stopped
    stopped_lem ok globals choices events st is =
        from (run app beh choices (start app beh globals)) refl (subst (λ o. HaveSame app o (run app beh choices (start app beh globals))) is (same_runs_lem app ok beh globals choices))
      where
        from : (o : Option (List Event × Stacked S G)) → run app beh choices (start app beh globals) ≡ o → HaveSame app (Some (events, st)) o → fails events ≡ st.is_stopped
        from None at h = absurd h
        from (Some y) at h =
            ap fails h.0 ∙ machine_stopped_lem globals choices y.0 y.1 at ∙ sym h.1.agreed.stopped
