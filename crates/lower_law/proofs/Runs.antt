-- Where entities do the same over two kinds of state, the standard's scheduler has the same events over both.
use Rattle.std.proofs.Common.{◌≡◌, ℕ, Bool, true, false, ◌&&◌, if◌then◌else◌, ◌==◌, List, [], ◌∷◌, Option, Some, None, refl, sym, ap, ◌∙◌, subst, arith}
use Rattle.std.specs.Prelude.{option_map}
use Rattle.std.proofs.lemmas.Bool.Decides.{nat_tests}
use Rattle.chk_base.specs.declared.place.Place.{Place}
use Rattle.step_ir.specs.declared.event.Choice.{Choice}
use Rattle.step_ir.specs.declared.event.Choice.TheVariants.{Go, GoWith, Arrive}
use Rattle.step_ir.specs.declared.event.Event.{Event}
use Rattle.step_ir.specs.declared.event.EventAction.{EventAction}
use Rattle.step_ir.specs.declared.event.EventAction.TheVariants as Action
use Rattle.step_ir.specs.declared.event.Failure.{Failure}
use Rattle.step_ir.specs.declared.event.Service.{Service}
use Rattle.step_ir.specs.declared.event.Service.TheVariants.{Activate, Terminate, Chain, Schedule, Get, Release, DisableAll, EnableAll, SuspendAll, ResumeAll, SuspendOs, ResumeOs}
use Rattle.step_ir.specs.Deeds.{Deed, Moves, Serves, Leaves, Stops, action_of, deed_of, serve, end_of, same_width, next_of, happened}
use Rattle.step_ir.specs.EntityStep.{After, Behaviour, Want, Does, Inputs, Calls, Ends, Fails, InputFails}
use Rattle.step_ir.specs.Numbers.{is_empty, put, tail}
use Rattle.step_ir.specs.PermittedSchedule.{prepend, follow, events_of, run, events_from}
use Rattle.step_ir.specs.PointStep.{Bits}
use Rattle.step_ir.specs.Reschedule.{highest, take_first, take_from, dispatch, put_back, give_back, reschedule, reschedule_after}
use Rattle.step_ir.specs.SchedulerState.{State, Entry, Fresh, Preempted, actor, scene, nothing_yet}
use Rattle.step_ir.specs.SchedulerStep.{queue, queue_all, end_request, effect, without_routine, after_routine, leave, move, act, tell, may_arrive, arrive, go, step_on, step, start}
use Rattle.step_ir.specs.Services.{Scene, fault, fault_of, sections_after}
use Rattle.step_ir.specs.Setting.{Setting, gives_way}
use Rattle.lower_law.specs.Exact.{SameWant}
use Rattle.lower_law.proofs.Lowering.{same_map}

-- the same scheduler over other states of entities
abbrev over : {S T : Type 0} → State S Bits → (ℕ → T) → Bits → State T Bits
over st f h =
    record {
      globals = h;
      state = f;
      held = st.held;
      ready = st.ready;
      running = st.running;
      active = st.active;
      sections = st.sections;
      requests = st.requests;
      arrivals = st.arrivals;
      is_stopped = st.is_stopped;
    }

module _ {S T : Type 0} (app : Setting) (a : Behaviour S Bits) (b : Behaviour T Bits) (Shares : Bits → Bits → Type 0) (R : ℕ → S → T → Bits → Type 0) (starts : (e : ℕ) (h : Bits) → R e (a.start e) (b.start e) h) where
  -- two states that differ in nothing but globals and states of entities, which are alike
  pub record Like (st : State S Bits) (st' : State T Bits) : Type 0 where
    pub f : ℕ → T
    pub h : Bits
    pub is : st' ≡ over st f h
    pub shares : Shares st.globals h
    pub states : (e : ℕ) → R e (st.state e) (f e) h

  -- it is enough to look at a state that is made over
  like_by : (st : State S Bits) (st' : State T Bits) (P : State T Bits → Type 0) → (l : Like st st') → P (over st l.f l.h) → P st'
  like_by st st' P l p = subst P (sym l.is) p

  put_states : (s : ℕ → S) (f : ℕ → T) (h : Bits) (e : ℕ) (x : S) (y : T) → ((q : ℕ) → R q (s q) (f q) h) → R e x y h → (q : ℕ) → R q (put s e x q) (put f e y q) h
  put_states s f h e x y r p q = go (q == e) refl where
    go : (d : Bool) → (q == e) ≡ d → R q (if d then x else s q) (if d then y else f q) h
    go true t = let w : e ≡ q = grind (arith, nat_tests) in subst (λ k. R k x y h) w p
    go false t = r q

  -- what keeps globals and states
  here : (st : State S Bits) (f : ℕ → T) (h : Bits) (now : State S Bits) → now.globals ≡ st.globals → now.state ≡ st.state → Shares st.globals h → ((e : ℕ) → R e (st.state e) (f e) h) → Like now (over now f h)
  here st f h now eg es sh r = record { f = f; h = h; is = refl; shares = subst (λ g. Shares g h) (sym eg) sh; states = subst (λ (s : ℕ → S). (e : ℕ) → R e (s e) (f e) h) (sym es) r }

  take_like : (l : ℕ) (es : List Entry) (st : State S Bits) (f : ℕ → T) (h : Bits) → Shares st.globals h → ((e : ℕ) → R e (st.state e) (f e) h) → Like (take_first a l es st) (take_first b l es (over st f h))
  take_like l [] st f h sh r = here st f h (take_first a l [] st) refl refl sh r
  take_like l (Fresh t ∷ es) st f h sh r =
      record { f = put f t (b.start t); h = h; is = refl; shares = sh; states = put_states st.state f h t (a.start t) (b.start t) r (starts t h) }
  take_like l (Preempted t ∷ es) st f h sh r = here st f h (take_first a l (Preempted t ∷ es) st) refl refl sh r

  from_like : (o : Option ℕ) (st : State S Bits) (f : ℕ → T) (h : Bits) → Shares st.globals h → ((e : ℕ) → R e (st.state e) (f e) h) → Like (take_from a o st) (take_from b o (over st f h))
  from_like None st f h sh r = here st f h (take_from a None st) refl refl sh r
  from_like (Some l) st f h sh r = take_like l (st.ready l) st f h sh r

  dispatch_like : (st : State S Bits) (st' : State T Bits) → Like st st' → Like (dispatch app a st) (dispatch app b st')
  dispatch_like st st' l = like_by st st' (λ s. Like (dispatch app a st) (dispatch app b s)) l (from_like (highest st.ready app.top) st l.f l.h l.shares l.states)

  back_like : (l t : ℕ) (st : State S Bits) (st' : State T Bits) → Like st st' → Like (put_back l t st) (put_back l t st')
  back_like n t st st' l = like_by st st' (λ s. Like (put_back n t st) (put_back n t s)) l (here st l.f l.h (put_back n t st) refl refl l.shares l.states)

  give_like : (st : State S Bits) (st' : State T Bits) → Like st st' → Like (give_back app st.running st) (give_back app st'.running st')
  give_like st st' l = like_by st st' (λ s. Like (give_back app st.running st) (give_back app s.running s)) l (go st.running) where
    go : (o : Option ℕ) → Like (give_back app o st) (give_back app o (over st l.f l.h))
    go None = here st l.f l.h st refl refl l.shares l.states
    go (Some t) = here st l.f l.h (give_back app (Some t) st) refl refl l.shares l.states

  reschedule_like : (st : State S Bits) (st' : State T Bits) → Like st st' → Like (reschedule app a st) (reschedule app b st')
  reschedule_like st st' l = dispatch_like (give_back app st.running st) (give_back app st'.running st') (give_like st st' l)

  after_like : (e : ℕ) (st : State S Bits) (st' : State T Bits) → Like st st' → Like (reschedule_after app a e st) (reschedule_after app b e st')
  after_like e st st' l = go (gives_way app e) where
    go : (d : Bool) → Like (if d then reschedule app a st else st) (if d then reschedule app b st' else st')
    go true = reschedule_like st st' l
    go false = l

  queue_like : (t : ℕ) (st : State S Bits) (st' : State T Bits) → Like st st' → Like (queue app t st) (queue app t st')
  queue_like t st st' l = like_by st st' (λ s. Like (queue app t st) (queue app t s)) l (here st l.f l.h (queue app t st) refl refl l.shares l.states)

  queues_like : (ts : List ℕ) (st : State S Bits) (st' : State T Bits) → Like st st' → Like (queue_all app ts st) (queue_all app ts st')
  queues_like [] st st' l = l
  queues_like (t ∷ ts) st st' l = queues_like ts (queue app t st) (queue app t st') (queue_like t st st' l)

  end_like : (t : ℕ) (st : State S Bits) (st' : State T Bits) → Like st st' → Like (end_request t st) (end_request t st')
  end_like t st st' l = like_by st st' (λ s. Like (end_request t st) (end_request t s)) l (here st l.f l.h (end_request t st) refl refl l.shares l.states)

  hold_like : (e : ℕ) (change : List ℕ → List ℕ) (st : State S Bits) (st' : State T Bits) → Like st st' → Like (record st { held = put st.held e (change (st.held e)) }) (record st' { held = put st'.held e (change (st'.held e)) })
  hold_like e change st st' l = like_by st st' (λ s. Like (record st { held = put st.held e (change (st.held e)) }) (record s { held = put s.held e (change (s.held e)) })) l (here st l.f l.h (record st { held = put st.held e (change (st.held e)) }) refl refl l.shares l.states)

  section_like : (service : Service) (st : State S Bits) (st' : State T Bits) → Like st st' → Like (record st { sections = sections_after service st.sections }) (record st' { sections = sections_after service st'.sections })
  section_like service st st' l = like_by st st' (λ s. Like (record st { sections = sections_after service st.sections }) (record s { sections = sections_after service s.sections })) l (here st l.f l.h (record st { sections = sections_after service st.sections }) refl refl l.shares l.states)

  effect_like : (e : ℕ) (service : Service) (st : State S Bits) (st' : State T Bits) → Like st st' → Like (effect app a e service st) (effect app b e service st')
  effect_like e (Activate t) st st' l = after_like e (queue app t.0 st) (queue app t.0 st') (queue_like t.0 st st' l)
  effect_like e Terminate st st' l = dispatch_like (end_request e st) (end_request e st') (end_like e st st' l)
  effect_like e (Chain t) st st' l =
      dispatch_like (queue app t.0 (end_request e st)) (queue app t.0 (end_request e st')) (queue_like t.0 (end_request e st) (end_request e st') (end_like e st st' l))
  effect_like e Schedule st st' l = dispatch_like (put_back (app.level e) e st) (put_back (app.level e) e st') (back_like (app.level e) e st st' l)
  effect_like e (Get r) st st' l = hold_like e (λ rs. r ∷ rs) st st' l
  effect_like e (Release r) st st' l =
      after_like e (record st { held = put st.held e (tail (st.held e)) }) (record st' { held = put st'.held e (tail (st'.held e)) }) (hold_like e tail st st' l)
  effect_like e DisableAll st st' l = section_like DisableAll st st' l
  effect_like e EnableAll st st' l = section_like EnableAll st st' l
  effect_like e SuspendAll st st' l = section_like SuspendAll st st' l
  effect_like e ResumeAll st st' l = section_like ResumeAll st st' l
  effect_like e SuspendOs st st' l = section_like SuspendOs st st' l
  effect_like e ResumeOs st st' l = section_like ResumeOs st st' l

  routine_like : (rs : List ℕ) (running : Option ℕ) (st : State S Bits) (st' : State T Bits) → Like st st' → Like (after_routine app a rs running st) (after_routine app b rs running st')
  routine_like (r ∷ rs) running st st' l = l
  routine_like [] None st st' l = dispatch_like st st' l
  routine_like [] (Some t) st st' l = after_like t st st' l

  leave_like : (st : State S Bits) (st' : State T Bits) → Like st st' → Like (leave app a st) (leave app b st')
  leave_like st st' l = like_by st st' (λ s. Like (leave app a st) (leave app b s)) l (routine_like st.active st.running st (over st l.f l.h) (here st l.f l.h st refl refl l.shares l.states))

  -- the own state and the globals after a step are alike, and the others' states stay so
  pub record Moved (e : ℕ) (st : State S Bits) (f : ℕ → T) (x : After S Bits) (y : After T Bits) : Type 0 where
    pub shares : Shares x.globals y.globals
    pub own : R e x.state y.state y.globals
    pub others : (q : ℕ) → (q == e) ≡ false → R q (st.state q) (f q) y.globals

  move_like : (e : ℕ) (x : After S Bits) (y : After T Bits) (st : State S Bits) (st' : State T Bits) → (l : Like st st') → Moved e st l.f x y → Like (move e x st) (move e y st')
  move_like e x y st st' l m = like_by st st' (λ s. Like (move e x st) (move e y s)) l (record { f = put l.f e y.state; h = y.globals; is = refl; shares = m.shares; states = λ q. go q (q == e) refl }) where
    go : (q : ℕ) (d : Bool) → (q == e) ≡ d → R q (if d then x.state else st.state q) (if d then y.state else l.f q) y.globals
    go q true t = let w : e ≡ q = grind (arith, nat_tests) in subst (λ k. R k x.state y.state y.globals) w m.own
    go q false t = m.others q t

  -- the same is to be done
  abbrev pub SameDeed : (After S Bits → After T Bits → Type 0) → Deed S Bits → Deed T Bits → Type 0
  SameDeed Q (Moves p x) (Moves q y) = (p ≡ q) × Q x y
  SameDeed Q (Serves p x) (Serves q y) = (p ≡ q) × Q x y
  SameDeed Q Leaves Leaves = Unit {0}
  SameDeed Q (Stops p s) (Stops q t) = (p ≡ q) × (s ≡ t)
  SameDeed Q _ _ = ⊥

  abbrev pub SameDeeds : (After S Bits → After T Bits → Type 0) → Option (Deed S Bits) → Option (Deed T Bits) → Type 0
  SameDeeds Q None None = Unit {0}
  SameDeeds Q (Some d) (Some e) = SameDeed Q d e
  SameDeeds Q _ _ = ⊥

  serve_same : (Q : After S Bits → After T Bits → Type 0) (p : Service) (x : After S Bits) (y : After T Bits) (o : Option Failure) → Q x y → SameDeed Q (serve p x o) (serve p y o)
  serve_same Q p x y None q = (refl, q)
  serve_same Q p x y (Some f) q = (refl, refl)

  end_same : (Q : After S Bits → After T Bits → Type 0) (c : Scene) → SameDeed Q (end_of app c) (end_of app c)
  end_same Q c = go (app.is_task c.caller) (is_empty c.sections && is_empty c.held) where
    go : (t d : Bool) → SameDeed Q (if t then Stops (fault 7) None else (if d then Leaves else Stops (fault 9) None)) (if t then Stops (fault 7) None else (if d then Leaves else Stops (fault 9) None))
    go true d = (refl, refl)
    go false true = tt
    go false false = (refl, refl)

  same_deeds : (Q : After S Bits → After T Bits → Type 0) (c : Scene) (w : Want S Bits) (w' : Want T Bits) (choice : Choice) → SameWant Q w w' → SameDeeds Q (deed_of app c w choice) (deed_of app c w' choice)
  same_deeds Q c (Does p x) (Does q y) Go h = h
  same_deeds Q c (Does p x) (Does q y) (GoWith k) h = tt
  same_deeds Q c (Does p x) (Does q y) (Arrive r) h = tt
  same_deeds Q c (Inputs v p x) (Inputs w q y) Go h = tt
  same_deeds Q c (Inputs v p x) (Inputs w q y) (Arrive r) h = tt
  same_deeds Q c (Inputs v p x) (Inputs w q y) (GoWith k) h =
      subst (λ u. SameDeeds Q (if same_width k.width v then Some (Moves (p k) (x k)) else None) (if same_width k.width u then Some (Moves (q k) (y k)) else None)) h.0 (go (same_width k.width v))
    where
      go : (d : Bool) → SameDeeds Q (if d then Some (Moves (p k) (x k)) else None) (if d then Some (Moves (q k) (y k)) else None)
      go true = h.1 k
      go false = tt
  same_deeds Q c (Calls p x) (Calls q y) Go h =
      subst (λ s. SameDeed Q (serve p x (fault_of app c p)) (serve s y (fault_of app c s))) h.0 (serve_same Q p x y (fault_of app c p) h.1)
  same_deeds Q c (Calls p x) (Calls q y) (GoWith k) h = tt
  same_deeds Q c (Calls p x) (Calls q y) (Arrive r) h = tt
  same_deeds Q c Ends Ends Go h = end_same Q c
  same_deeds Q c Ends Ends (GoWith k) h = tt
  same_deeds Q c Ends Ends (Arrive r) h = tt
  same_deeds Q c (Fails p) (Fails q) Go h = (h, refl)
  same_deeds Q c (Fails p) (Fails q) (GoWith k) h = tt
  same_deeds Q c (Fails p) (Fails q) (Arrive r) h = tt
  same_deeds Q c (InputFails v p) (InputFails w q) Go h = tt
  same_deeds Q c (InputFails v p) (InputFails w q) (Arrive r) h = tt
  same_deeds Q c (InputFails v p) (InputFails w q) (GoWith k) h =
      subst (λ u. SameDeeds Q (if same_width k.width v then Some (Stops p None) else None) (if same_width k.width u then Some (Stops q None) else None)) h.0 (go (same_width k.width v))
    where
      go : (d : Bool) → SameDeeds Q (if d then Some (Stops p None) else None) (if d then Some (Stops q None) else None)
      go true = (h.1, refl)
      go false = tt
  same_deeds Q c _ _ choice h = absurd h

  active_like : (e : ℕ) (st : State S Bits) (st' : State T Bits) → Like st st' → Like (record st { active = without_routine e st.active }) (record st' { active = without_routine e st'.active })
  active_like e st st' l = like_by st st' (λ s. Like (record st { active = without_routine e st.active }) (record s { active = without_routine e s.active })) l (here st l.f l.h (record st { active = without_routine e st.active }) refl refl l.shares l.states)

  stop_like : (st : State S Bits) (st' : State T Bits) → Like st st' → Like (record st { is_stopped = true }) (record st' { is_stopped = true })
  stop_like st st' l = like_by st st' (λ s. Like (record st { is_stopped = true }) (record s { is_stopped = true })) l (here st l.f l.h (record st { is_stopped = true }) refl refl l.shares l.states)

  act_like : (e : ℕ) (d : Deed S Bits) (d' : Deed T Bits) (st : State S Bits) (st' : State T Bits) → (l : Like st st') → SameDeed (Moved e st l.f) d d' → Like (act app a e d st) (act app b e d' st')
  act_like e (Moves p x) (Moves q y) st st' l h = move_like e x y st st' l h.1
  act_like e (Serves p x) (Serves q y) st st' l h =
      subst (λ s. Like (effect app a e p (move e x st)) (effect app b e s (move e y st'))) h.0 (effect_like e p (move e x st) (move e y st') (move_like e x y st st' l h.1))
  act_like e Leaves Leaves st st' l h = leave_like (record st { active = without_routine e st.active }) (record st' { active = without_routine e st'.active }) (active_like e st st' l)
  act_like e (Stops p s) (Stops q t) st st' l h = stop_like st st' l
  act_like e _ _ st st' l h = absurd h

  same_action : (Q : After S Bits → After T Bits → Type 0) (d : Deed S Bits) (d' : Deed T Bits) → SameDeed Q d d' → action_of d ≡ action_of d'
  same_action Q (Moves p x) (Moves q y) h = h.0
  same_action Q (Serves p x) (Serves q y) h = ap Action.Service h.0
  same_action Q Leaves Leaves h = refl
  same_action Q (Stops p s) (Stops q t) h = ap (λ f. Action.Fail f s) h.0 ∙ ap (Action.Fail q) h.1
  same_action Q _ _ h = absurd h

  -- a step has the same event, or isn't permitted in either
  abbrev pub SameStep : Option (Event × State S Bits) → Option (Event × State T Bits) → Type 0
  SameStep None None = Unit {0}
  SameStep (Some x) (Some y) = (x.0 ≡ y.0) × Like x.1 y.1
  SameStep _ _ = ⊥

  tell_like : (e : ℕ) (p q : EventAction) (u v : Place) (st : State S Bits) (st' : State T Bits) → p ≡ q → u ≡ v → Like st st' → SameStep (Some (tell app e p u st)) (Some (tell app e q v st'))
  tell_like e p q u v st st' ep eu l =
      (ap (λ k. happened e k u (next_of st.is_stopped (actor app st))) ep ∙ ap (λ k. happened e q k (next_of st.is_stopped (actor app st))) eu ∙ like_by st st' (λ s. happened e q v (next_of st.is_stopped (actor app st)) ≡ happened e q v (next_of s.is_stopped (actor app s))) l refl, l)

  module _ (Keeps : ℕ → Bits → Bits → Type 0) (steps : (e : ℕ) (s : S) (t : T) (g h : Bits) → R e s t h → Shares g h → (a.place e s ≡ b.place e t) × SameWant (λ x y. Shares x.globals y.globals × R e x.state y.state y.globals × Keeps e h y.globals) (a.wants e s g) (b.wants e t h)) (keeps : (e q : ℕ) (s : S) (t : T) (h h' : Bits) → (q == e) ≡ false → Keeps e h h' → R q s t h → R q s t h') where
    go_like : (choice : Choice) (o : Option ℕ) (st : State S Bits) (f : ℕ → T) (h : Bits) → Shares st.globals h → ((e : ℕ) → R e (st.state e) (f e) h) → SameStep (go app a st choice o) (go app b (over st f h) choice o)
    go_like choice None st f h sh r = tt
    go_like choice (Some e) st f h sh r =
        let k = steps e (st.state e) (f e) st.globals h (r e) sh in
        let l : Like st (over st f h) = record { f = f; h = h; is = refl; shares = sh; states = r } in
        let w = same_map _ (Moved e st f) (a.wants e (st.state e) st.globals) (b.wants e (f e) h) (λ x y m. record { shares = m.0; own = m.1; others = λ q n. keeps e q (st.state q) (f q) h y.globals n m.2 (r q) }) k.1 in
        told (deed_of app (scene app st e) (a.wants e (st.state e) st.globals) choice) (deed_of app (scene app st e) (b.wants e (f e) h) choice) k.0 l (same_deeds (Moved e st f) (scene app st e) (a.wants e (st.state e) st.globals) (b.wants e (f e) h) choice w)
      where
        told : (d : Option (Deed S Bits)) (d' : Option (Deed T Bits)) → a.place e (st.state e) ≡ b.place e (f e) → Like st (over st f h) → SameDeeds (Moved e st f) d d' → SameStep (option_map (λ d. tell app e (action_of d) (a.place e (st.state e)) (act app a e d st)) d) (option_map (λ d. tell app e (action_of d) (b.place e (f e)) (act app b e d (over st f h))) d')
        told None None p l m = tt
        told (Some d) (Some d') p l m =
            tell_like e (action_of d) (action_of d') (a.place e (st.state e)) (b.place e (f e)) (act app a e d st) (act app b e d' (over st f h)) (same_action (Moved e st f) d d' m) p (act_like e d d' st (over st f h) (record { f = f; h = h; is = refl; shares = sh; states = r }) m)
        told None (Some d') p l m = absurd m
        told (Some d) None p l m = absurd m

    arrive_like : (q : ℕ) (st : State S Bits) (f : ℕ → T) (h : Bits) → Shares st.globals h → ((e : ℕ) → R e (st.state e) (f e) h) → Like (arrive a q st) (arrive b q (over st f h))
    arrive_like q st f h sh r =
        record { f = put f q (b.start q); h = h; is = refl; shares = sh; states = put_states st.state f h q (a.start q) (b.start q) r (starts q h) }

    -- an entity's first place is the same
    first_place : (q : ℕ) (g h : Bits) → Shares g h → a.place q (a.start q) ≡ b.place q (b.start q)
    first_place q g h sh = (steps q (a.start q) (b.start q) g h (starts q h) sh).0

    on_like : (choice : Choice) (st : State S Bits) (f : ℕ → T) (h : Bits) → Shares st.globals h → ((e : ℕ) → R e (st.state e) (f e) h) → SameStep (step_on app a st choice) (step_on app b (over st f h) choice)
    on_like Go st f h sh r = go_like Go (actor app st) st f h sh r
    on_like (GoWith w) st f h sh r = go_like (GoWith w) (actor app st) st f h sh r
    on_like (Arrive q) st f h sh r = arrives (may_arrive app st q.0) where
      arrives : (d : Bool) → SameStep (if d then Some (tell app q.0 Action.Arrive (a.place q.0 (a.start q.0)) (arrive a q.0 st)) else None) (if d then Some (tell app q.0 Action.Arrive (b.place q.0 (b.start q.0)) (arrive b q.0 (over st f h))) else None)
      arrives true = tell_like q.0 Action.Arrive Action.Arrive _ _ (arrive a q.0 st) (arrive b q.0 (over st f h)) refl (first_place q.0 st.globals h sh) (arrive_like q.0 st f h sh r)
      arrives false = tt

    step_like : (choice : Choice) (st : State S Bits) (st' : State T Bits) → Like st st' → SameStep (step app a st choice) (step app b st' choice)
    step_like choice st st' l = like_by st st' (λ s. SameStep (step app a st choice) (step app b s choice)) l (stopped st.is_stopped) where
      stopped : (d : Bool) → SameStep (if d then None else step_on app a st choice) (if d then None else step_on app b (over st l.f l.h) choice)
      stopped true = tt
      stopped false = on_like choice st l.f l.h l.shares l.states

    -- a list of choices has the same events
    pub runs_like : (choices : List Choice) (st : State S Bits) (st' : State T Bits) → Like st st' → events_of (run app a choices st) ≡ events_of (run app b choices st')
    runs_like [] st st' l = refl
    runs_like (c ∷ cs) st st' l = after (step app a st c) (step app b st' c) (step_like c st st' l) (runs_like cs) where
      events_follow : (e : Event) (x : Option (List Event × State S Bits)) (y : Option (List Event × State T Bits)) → events_of x ≡ events_of y → events_of (prepend e x) ≡ events_of (prepend e y)
      events_follow e None None h = refl
      events_follow e (Some x) (Some y) h = ap (option_map (λ es. e ∷ es)) h
      events_follow e None (Some y) h = absurd (cc)
      events_follow e (Some x) None h = absurd (cc)

      after : (x : Option (Event × State S Bits)) (y : Option (Event × State T Bits)) → SameStep x y → ((s : State S Bits) (s' : State T Bits) → Like s s' → events_of (run app a cs s) ≡ events_of (run app b cs s')) → events_of (follow x (run app a cs)) ≡ events_of (follow y (run app b cs))
      after None None m ih = refl
      after (Some x) (Some y) m ih = events_follow x.0 (run app a cs x.1) (run app b cs y.1) (ih x.1 y.1 m.1) ∙ ap (λ e. events_of (prepend e (run app b cs y.1))) m.0
      after None (Some y) m ih = absurd m
      after (Some x) None m ih = absurd m

    -- so it is from the start on
    pub same_events : (g h : Bits) → Shares g h → (choices : List Choice) → events_from app a choices (start app a g) ≡ events_from app b choices (start app b h)
    same_events g h sh choices =
        let l : Like (nothing_yet a g) (nothing_yet b h) = record { f = b.start; h = h; is = refl; shares = sh; states = λ e. starts e h } in
        runs_like choices (start app a g) (start app b h) (reschedule_like (queue_all app app.autostart (nothing_yet a g)) (queue_all app app.autostart (nothing_yet b h)) (queues_like app.autostart (nothing_yet a g) (nothing_yet b h) l))
