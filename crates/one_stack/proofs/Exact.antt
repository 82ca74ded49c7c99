-- The runs of the program are the choice lists of the one-stack machine.
use Rattle.std.proofs.Common.{◌≡◌, ◌≢◌, ℕ, ◌<◌, ◌≤◌, Bool, true, false, ◌&&◌, List, [], ◌∷◌, length, Option, Some, None, refl, sym, ap, ap₂, subst, ◌∙◌, arith, nat_lt, ◌==◌, if◌then◌else◌, option_map}
use Rattle.std.proofs.lemmas.Bool.Decides.{nat_tests}
use Rattle.std.specs.Prelude.{reverse}
use Rattle.application.specs.declared.app.Entity.{Entity}
use Rattle.chk_base.specs.Term.{Const}
use Rattle.chk_base.specs.Widths.{limit_of}
use Rattle.guard_prog.specs.GuardedRun.{Program, State as Standing, PlainAlternative, stack_after, enabled_of, alternative_with, alternatives_at, turn_by, state_after, turn, run_on as turns_from, start_of, run}
use Rattle.one_stack.proofs.Activates.{length-places}
use Rattle.one_stack.proofs.Choosing.{IsOpen, opens}
use Rattle.one_stack.proofs.Meeting.{IsProgram, IsReached, IsShaped, Meets, after_rule}
use Rattle.one_stack.proofs.Slots.{IsValid}
use Rattle.one_stack.proofs.Top.{IsGone, tops}
use Rattle.one_stack.specs.BuildExact.{choices_of, IsAlike, IsExact}
use Rattle.one_stack.specs.Built.{view, places}
use Rattle.one_stack.specs.PlainCode.{PlainCode, steps_of}
use Rattle.one_stack.specs.Rules.{Plan, Rule, Slot, point_alternatives, point_rules}
use Rattle.one_stack.specs.TaskForm.{IsTaskForm}
use Rattle.step_ir.proofs.Lists.{foremost_some, foremost_none}
use Rattle.trace_law.proofs.Traces.{steps, same_runs_lem}
use Rattle.step_ir.specs.Agreement.{HaveSame, Agrees, fresh_at}
use Rattle.step_ir.specs.Deeds.{Deed, deed_of, action_of}
use Rattle.step_ir.specs.EntityStep.{Want, Does, Inputs, Calls, Ends, Fails, InputFails}
use Rattle.step_ir.specs.Numbers.{times, is_empty}
use Rattle.step_ir.specs.OneStackMachine as machine
use Rattle.step_ir.specs.OneStackMachine.{Stacked, Frame, whos, scene, act, tell, standing_of_top, level_of_top, settle_with, begun, without}
use Rattle.step_ir.specs.PermittedSchedule.{follow, prepend, arrivals_in}
use Rattle.step_ir.specs.PointStep as points
use Rattle.step_ir.specs.PointStep.{Bits, first, unless}
use Rattle.step_ir.specs.Points.{PlainPoint}
use Rattle.step_ir.specs.SchedulerState.{State}
use Rattle.step_ir.specs.SchedulerStep as standard
use Rattle.step_ir.specs.Services.{Scene}
use Rattle.step_ir.specs.Setting.{Setting, foremost, IsSound}
use Rattle.step_ir.specs.declared.event.Choice.TheVariants.{Go, GoWith, Arrive}
use Rattle.step_ir.specs.declared.event.Choice.{Choice}
use Rattle.step_ir.specs.declared.event.Event.{Event}

-- where going on is permitted, no word is asked for
no_word : (app : Setting) (c : Scene) (want : Want ℕ Bits) (d : Deed ℕ Bits) → deed_of app c want Go ≡ Some d → (w : Rattle.chk_base.specs.Widths.PlainWord) → deed_of app c want (GoWith w) ≡ None
no_word app c (Does action after) d h w = refl
no_word app c (Inputs width action after) d h w = absurd (let z : ◌≡◌ {A = Option (Deed ℕ Bits)} None (Some d) = h in cc)
no_word app c (Calls service after) d h w = refl
no_word app c Ends d h w = refl
no_word app c (Fails failure) d h w = refl
no_word app c (InputFails width failure) d h w = absurd (let z : ◌≡◌ {A = Option (Deed ℕ Bits)} None (Some d) = h in cc)

-- what the program starts from
pub record IsStarting (app : Setting) (code : PlainCode) (plan : Plan) (p : Program) : Type 0 where
  pub low : (q : ℕ) → q < code.cells → p.starts q ≡ code.start q
  pub fits : (q : ℕ) → q < code.cells → p.starts q < limit_of (p.width q)
  pub holds : (slot : Slot) → IsValid app plan slot → p.starts (plan.place slot) ≡ view app plan (machine.start app (steps_of code) code.start) slot
  pub first : reverse p.first ≡ places plan (machine.start app (steps_of code) code.start).stack
  pub few : (t : ℕ) → t < plan.tasks → times t app.autostart ≤ app.limit t

-- the label is one of the entity that acts in the event
pub record IsOf (app : Setting) (plan : Plan) (label : ℕ) (e : Event) : Type 0 where
  pub known : e.actor.0 < app.entities
  pub number : ℕ
  pub is : label ≡ plan.label e.actor.0 number

-- and so is each label of a run
abbrev pub AreOf : Setting → Plan → List (ℕ × ℕ) → List Event → Type 0
AreOf app plan [] [] = Unit {0}
AreOf app plan [] (e ∷ es) = ⊥
AreOf app plan (x ∷ xs) [] = ⊥
AreOf app plan (x ∷ xs) (e ∷ es) = IsOf app plan x.0 e × AreOf app plan xs es

-- in each run of the program
pub record AreActing (app : Setting) (code : PlainCode) (plan : Plan) (p : Program) (chosen : ℕ → ℕ → Choice) : Type 0 where
  pub each : (pairs : List (ℕ × ℕ)) (s : Standing) → run p pairs (start_of p) ≡ Some s → (events : List Event) (m : Stacked ℕ Bits) → machine.run app (steps_of code) (choices_of chosen pairs) (machine.start app (steps_of code) code.start) ≡ Some (events, m) → AreOf app plan pairs events

module _ (app : Setting) (sound : IsSound app) (code : PlainCode) {resources : ℕ} (form : IsTaskForm app resources code) (plan : Plan) (p : Program) (chosen : ℕ → ℕ → Choice) (made : IsProgram app code plan p chosen) where
  -- one step of both: either neither goes on, or exactly one pair of label and word is taken, and exactly Go is permitted
  data Stepping (s : Standing) (m : Stacked ℕ Bits) : Type 0 where
    Dead : ((x : ℕ × ℕ) → turn p s x ≡ None) → ((c : Choice) → machine.step app (steps_of code) m c ≡ None) → Stepping s m
    Live : (x : ℕ × ℕ) (t : Standing) (e : Event) (n : Stacked ℕ Bits) → turn p s x ≡ Some t → ((y : ℕ × ℕ) (u : Standing) → turn p s y ≡ Some u → y ≡ x) → chosen x.0 x.1 ≡ Go → machine.step app (steps_of code) m Go ≡ Some (e, n) → IsOf app plan x.0 e → ((c : Choice) (z : Event × Stacked ℕ Bits) → machine.step app (steps_of code) m c ≡ Some z → c ≡ Go) → Meets app code plan p t n → Stepping s m

  reached_by : (o : Option (Event × State ℕ Bits)) (e : Event) (n : Stacked ℕ Bits) → HaveSame app o (Some (e, n)) → IsReached app n
  reached_by None e n h = absurd h
  reached_by (Some y) e n h = record { state = y.1; agrees = h.1 }

  no_arrival : (m : Stacked ℕ Bits) (r : Entity) → machine.step_on app (steps_of code) m (Arrive r) ≡ None
  no_arrival m r =
      ap (λ b. if b && (nat_lt (level_of_top app m.stack) (app.level r.0) && is_empty m.sections) then Some (tell r.0 Rattle.step_ir.specs.declared.event.EventAction.TheVariants.Arrive ((steps_of code).place r.0 0) (record m { stack = begun (steps_of code) r.0 ∷ m.stack })) else None) (form.routines r.0)

  -- no turn is taken where none is open
  shut : (s : Standing) → enabled_of p.width s.cells (alternatives_at p s.stack) ≡ [] → (x : ℕ × ℕ) → turn p s x ≡ None
  shut s h x = go s.is_failed
    where
      go : (b : Bool) → (if b then None else turn_by p s x.1 (alternative_with x.0 (enabled_of p.width s.cells (alternatives_at p s.stack)))) ≡ None
      go true = refl
      go false = ap (λ others'. turn_by p s x.1 (alternative_with x.0 others')) h

  -- where the stack is empty
  idle : (s : Standing) (m : Stacked ℕ Bits) → Meets app code plan p s (record m { stack = [] }) → m.is_stopped ≡ false → Stepping s (record m { stack = [] })
  idle s m meets runs =
      Dead
      (shut s (ap (λ st. enabled_of p.width s.cells (alternatives_at p st)) meets.stack ∙ ap (enabled_of p.width s.cells) made.idle))
      (λ c. ap (λ b. if b then None else machine.step_on app (steps_of code) (record m { stack = [] }) c) runs ∙ go c)
    where
      go : (c : Choice) → machine.step_on app (steps_of code) (record m { stack = [] }) c ≡ None
      go Go = refl
      go (GoWith w) = refl
      go (Arrive r) = no_arrival (record m { stack = [] }) r

  -- exactly one pair is taken
  taken : (s : Standing) (label : ℕ → ℕ) (r : Rule) (stack : List ℕ) (o : IsOpen label r (enabled_of p.width s.cells (alternatives_at p s.stack))) → s.is_failed ≡ false → r.input ≡ None → stack_after p.depth r.control s.stack ≡ Some stack → turn p s (label o.number, 0) ≡ Some (after_rule p s r stack)
  taken s label r stack o runs plainly leads =
      let here : (label o.number == label o.number) ≡ true = grind (arith, nat_tests) in
      ap (λ b. if b then None else turn_by p s 0 (alternative_with (label o.number) (enabled_of p.width s.cells (alternatives_at p s.stack)))) runs
      ∙ (ap (λ others'. turn_by p s 0 (alternative_with (label o.number) others')) o.alone
      ∙ (ap (λ b. turn_by p s 0 (if b then Some (record { label = label o.number; guard = o.guard; sets = r.sets; control = r.control; input = r.input }) else None)) here
      ∙ (ap (λ i. turn_by p s 0 (Some (record { label = label o.number; guard = o.guard; sets = r.sets; control = r.control; input = i }))) plainly
      ∙ ap (state_after p s (record { label = label o.number; guard = o.guard; sets = r.sets; control = r.control; input = None }) 0) leads)))

  alone : (s : Standing) (label : ℕ → ℕ) (r : Rule) (o : IsOpen label r (enabled_of p.width s.cells (alternatives_at p s.stack))) → s.is_failed ≡ false → r.input ≡ None → (y : ℕ × ℕ) (u : Standing) → turn p s y ≡ Some u → y ≡ (label o.number, 0)
  alone s label r o runs plainly y u h = go (label o.number == y.0) refl (y.1 == 0) refl (sym opened ∙ h)
    where
      the : PlainAlternative
      the = record { label = label o.number; guard = o.guard; sets = r.sets; control = r.control; input = None }

      opened : turn p s y ≡ turn_by p s y.1 (if label o.number == y.0 then Some (record { label = label o.number; guard = o.guard; sets = r.sets; control = r.control; input = None }) else None)
      opened =
          ap (λ b. if b then None else turn_by p s y.1 (alternative_with y.0 (enabled_of p.width s.cells (alternatives_at p s.stack)))) runs
          ∙ (ap (λ others'. turn_by p s y.1 (alternative_with y.0 others')) o.alone
          ∙ ap (λ i. turn_by p s y.1 (if label o.number == y.0 then Some (record { label = label o.number; guard = o.guard; sets = r.sets; control = r.control; input = i }) else None)) plainly)

      go : (a : Bool) → (label o.number == y.0) ≡ a → (b : Bool) → (y.1 == 0) ≡ b → turn_by p s y.1 (if label o.number == y.0 then Some (record { label = label o.number; guard = o.guard; sets = r.sets; control = r.control; input = None }) else None) ≡ Some u → y ≡ (label o.number, 0)
      go true e true f k =
          let one : y.0 ≡ label o.number = grind (arith, nat_tests) in
          let two : y.1 ≡ 0 = grind (arith, nat_tests) in
          ap₂ (λ (a : ℕ) (b : ℕ). (a, b)) one two
      go true e false f k =
          let none : ◌≡◌ {A = Option Standing} None (Some u) =
          sym (ap (λ a. turn_by p s y.1 (if a then Some (record { label = label o.number; guard = o.guard; sets = r.sets; control = r.control; input = None }) else None)) e
          ∙ ap (λ b. if b then state_after p s (record { label = label o.number; guard = o.guard; sets = r.sets; control = r.control; input = None }) y.1 (stack_after p.depth r.control s.stack) else None) f) ∙ k in
          absurd (cc)
      go false e b f k =
          let none : ◌≡◌ {A = Option Standing} None (Some u) =
          sym (ap (λ a. turn_by p s y.1 (if a then Some (record { label = label o.number; guard = o.guard; sets = r.sets; control = r.control; input = None }) else None)) e) ∙ k in
          absurd (cc)

  -- where an entity is on top
  top : (s : Standing) (m : Stacked ℕ Bits) (f : Frame ℕ) (below : List (Frame ℕ)) → Meets app code plan p s (record m { stack = f ∷ below }) → m.is_stopped ≡ false → Stepping s (record m { stack = f ∷ below })
  top s m f below meets runs =
      Live (plan.label f.who o.number, 0) (after_rule p s gone.fired.rule gone.fired.led.stack) _ _
      (taken s (plan.label f.who) gone.fired.rule gone.fired.led.stack o runs' gone.fired.led.plainly gone.fired.led.leads)
      (alone s (plan.label f.who) gone.fired.rule o runs' gone.fired.led.plainly)
      (made.labels f.who o.number)
      (stepped gone.deed gone.is)
      (record { known = form.entities f.who f.state point meets.shaped.known.0.is; number = o.number; is = refl })
      only
      gone.fired.led.meets
    where
      point : PlainPoint
      point = meets.shaped.known.0.point

      runs' : s.is_failed ≡ false
      runs' = meets.failed ∙ runs

      want : Want ℕ Bits
      want = unless code.width (first (points.val code.width m.globals) point.traps) point m.globals

      wants : (steps_of code).wants f.who f.state m.globals ≡ want
      wants = ap (λ o. points.step code.width o m.globals) meets.shaped.known.0.is

      stepped : (d : Deed ℕ Bits) → deed_of app (scene (record m { stack = f ∷ below }) f) want Go ≡ Some d → machine.step app (steps_of code) (record m { stack = f ∷ below }) Go ≡ Some (tell f.who (action_of d) ((steps_of code).place f.who f.state) (act app (steps_of code) f below d (record m { stack = f ∷ below })))
      stepped d is =
          ap (λ b. if b then None else machine.step_on app (steps_of code) (record m { stack = f ∷ below }) Go) runs
          ∙ ap (option_map (λ d. tell f.who (action_of d) ((steps_of code).place f.who f.state) (act app (steps_of code) f below d (record m { stack = f ∷ below })))) (ap (λ w. deed_of app (scene (record m { stack = f ∷ below }) f) w Go) wants ∙ is)

      reaches : (d : Deed ℕ Bits) → deed_of app (scene (record m { stack = f ∷ below }) f) want Go ≡ Some d → IsReached app (act app (steps_of code) f below d (record m { stack = f ∷ below }))
      reaches d is =
          reached_by _ _ _ (subst (λ o. HaveSame app (standard.step app (steps_of code) meets.shaped.reached.state Go) o) (stepped d is)
          (steps app sound (steps_of code) meets.shaped.reached.state (record m { stack = f ∷ below }) Go meets.shaped.reached.agrees))

      gone : IsGone app sound code form plan p chosen made s m f below meets runs want (point_rules app plan p.width f.who point)
      gone =
          tops app sound code form plan p chosen made s m f below meets runs point (λ q e. made.resources f.who f.state point q meets.shaped.known.0.is e) (form.points f.who f.state point meets.shaped.known.0.is) reaches

      choices : enabled_of p.width s.cells (alternatives_at p s.stack) ≡ enabled_of p.width s.cells (point_alternatives app plan p.width f.who point)
      choices =
          ap (λ st. enabled_of p.width s.cells (alternatives_at p st)) meets.stack
          ∙ ap (enabled_of p.width s.cells) (made.at f.who f.state point meets.shaped.known.0.is)

      o : IsOpen (plan.label f.who) gone.fired.rule (enabled_of p.width s.cells (alternatives_at p s.stack))
      o =
          subst (λ others'. IsOpen (plan.label f.who) gone.fired.rule others') (sym choices)
          (opens p.width s.cells (plan.label f.who) (Const 1) 0 (point_rules app plan p.width f.who point) gone.fired.rule refl gone.fired.first)

      only : (c : Choice) (z : Event × Stacked ℕ Bits) → machine.step app (steps_of code) (record m { stack = f ∷ below }) c ≡ Some z → c ≡ Go
      only Go z h = refl
      only (GoWith w) z h =
          let none : ◌≡◌ {A = Option (Event × Stacked ℕ Bits)} None (Some z) =
          sym (ap (λ b. if b then None else machine.step_on app (steps_of code) (record m { stack = f ∷ below }) (GoWith w)) runs
          ∙ ap (option_map (λ d. tell f.who (action_of d) ((steps_of code).place f.who f.state) (act app (steps_of code) f below d (record m { stack = f ∷ below })))) (ap (λ x. deed_of app (scene (record m { stack = f ∷ below }) f) x (GoWith w)) wants ∙ no_word app (scene (record m { stack = f ∷ below }) f) want gone.deed gone.is w)) ∙ h in
          absurd (cc)
      only (Arrive r) z h =
          let none : ◌≡◌ {A = Option (Event × Stacked ℕ Bits)} None (Some z) =
          sym (ap (λ b. if b then None else machine.step_on app (steps_of code) (record m { stack = f ∷ below }) (Arrive r)) runs ∙ no_arrival (record m { stack = f ∷ below }) r) ∙ h in
          absurd (cc)

  steps_alike : (s : Standing) (m : Stacked ℕ Bits) → Meets app code plan p s m → Stepping s m
  steps_alike s m meets = go m.is_stopped refl
    where
      stacks : (fs : List (Frame ℕ)) → Meets app code plan p s (record m { stack = fs }) → m.is_stopped ≡ false → Stepping s (record m { stack = fs })
      stacks [] h runs = idle s m h runs
      stacks (f ∷ below) h runs = top s m f below h runs

      go : (b : Bool) → m.is_stopped ≡ b → Stepping s m
      go true e =
          Dead
          (λ x. ap (λ b. if b then None else turn_by p s x.1 (alternative_with x.0 (enabled_of p.width s.cells (alternatives_at p s.stack)))) (meets.failed ∙ e))
          (λ c. ap (λ b. if b then None else machine.step_on app (steps_of code) m c) e)
      go false e = stacks m.stack meets e

  -- a run of the program, and the choices that it makes
  record IsForward (xs : List (ℕ × ℕ)) (m : Stacked ℕ Bits) (t : Standing) : Type 0 where
    pub events : List Event
    pub state : Stacked ℕ Bits
    pub permitted : machine.run app (steps_of code) (choices_of chosen xs) m ≡ Some (events, state)
    pub none : arrivals_in (choices_of chosen xs) ≡ 0
    pub acts : AreOf app plan xs events
    pub meets : Meets app code plan p t state

  forward : (xs : List (ℕ × ℕ)) (s : Standing) (m : Stacked ℕ Bits) (t : Standing) → Meets app code plan p s m → run p xs s ≡ Some t → IsForward xs m t
  forward [] s m t meets h =
      let same : s ≡ t = cc in
      record { events = []; state = m; permitted = refl; none = refl; acts = tt; meets = subst (λ u. Meets app code plan p u m) same meets }
  forward (y ∷ ys) s m t meets h = go (steps_alike s m meets) (λ u n k j. forward ys u n t k j)
    where
      go : Stepping s m → ((u : Standing) (n : Stacked ℕ Bits) → Meets app code plan p u n → run p ys u ≡ Some t → IsForward ys n t) → IsForward (y ∷ ys) m t
      go (Dead turns steps) ih =
          let none : ◌≡◌ {A = Option Standing} None (Some t) = sym (ap (turns_from (run p ys)) (turns y)) ∙ h in
          absurd (cc)
      go (Live x u e n taken alone is_go step who only next) ih = found (turn p s y) refl
        where
          found : (o : Option Standing) → turn p s y ≡ o → IsForward (y ∷ ys) m t
          found None k =
              let none : ◌≡◌ {A = Option Standing} None (Some t) = sym (ap (turns_from (run p ys)) k) ∙ h in
              absurd (cc)
          found (Some w) k =
              let same : y ≡ x = alone y w k in
              let there : turn p s y ≡ Some u = ap (turn p s) same ∙ taken in
              let rest : IsForward ys n t = ih u n next (sym (ap (turns_from (run p ys)) there) ∙ h) in
              let choice : chosen y.0 y.1 ≡ Go = ap (λ (z : ℕ × ℕ). chosen z.0 z.1) same ∙ is_go in
              record {
                events = e ∷ rest.events;
                state = rest.state;
                permitted =
                    ap (λ c. follow (machine.step app (steps_of code) m c) (machine.run app (steps_of code) (choices_of chosen ys))) choice
                    ∙ (ap (λ o. follow o (machine.run app (steps_of code) (choices_of chosen ys))) step ∙ ap (prepend e) rest.permitted);
                none = ap (λ c. arrivals_in (c ∷ choices_of chosen ys)) choice ∙ rest.none;
                acts = (subst (λ (z : ℕ × ℕ). IsOf app plan z.0 e) (sym same) who, rest.acts);
                meets = rest.meets;
              }

  -- a list of choices, and the run that makes them
  record IsBackward (cs : List Choice) (s : Standing) : Type 0 where
    pub pairs : List (ℕ × ℕ)
    pub state : Standing
    pub runs : run p pairs s ≡ Some state
    pub same : choices_of chosen pairs ≡ cs

  backward : (cs : List Choice) (s : Standing) (m : Stacked ℕ Bits) (r : List Event × Stacked ℕ Bits) → Meets app code plan p s m → machine.run app (steps_of code) cs m ≡ Some r → IsBackward cs s
  backward [] s m r meets h = record { pairs = []; state = s; runs = refl; same = refl }
  backward (c ∷ cs) s m r meets h = go (steps_alike s m meets) (λ u n q k j. backward cs u n q k j)
    where
      go : Stepping s m → ((u : Standing) (n : Stacked ℕ Bits) (q : List Event × Stacked ℕ Bits) → Meets app code plan p u n → machine.run app (steps_of code) cs n ≡ Some q → IsBackward cs u) → IsBackward (c ∷ cs) s
      go (Dead turns steps) ih =
          let none : ◌≡◌ {A = Option (List Event × Stacked ℕ Bits)} None (Some r) = sym (ap (λ o. follow o (machine.run app (steps_of code) cs)) (steps c)) ∙ h in
          absurd (cc)
      go (Live x u e n taken alone is_go step who only next) ih = found (machine.step app (steps_of code) m c) refl
        where
          found : (o : Option (Event × Stacked ℕ Bits)) → machine.step app (steps_of code) m c ≡ o → IsBackward (c ∷ cs) s
          found None k =
              let none : ◌≡◌ {A = Option (List Event × Stacked ℕ Bits)} None (Some r) = sym (ap (λ o. follow o (machine.run app (steps_of code) cs)) k) ∙ h in
              absurd (cc)
          found (Some z) k = rest (machine.run app (steps_of code) cs n) refl
            where
              goes : c ≡ Go
              goes = only c z k

              whole : prepend e (machine.run app (steps_of code) cs n) ≡ Some r
              whole =
                  sym (ap (λ d. follow (machine.step app (steps_of code) m d) (machine.run app (steps_of code) cs)) goes ∙ ap (λ o. follow o (machine.run app (steps_of code) cs)) step) ∙ h

              rest : (o : Option (List Event × Stacked ℕ Bits)) → machine.run app (steps_of code) cs n ≡ o → IsBackward (c ∷ cs) s
              rest None j =
                  let none : ◌≡◌ {A = Option (List Event × Stacked ℕ Bits)} None (Some r) = sym (ap (prepend e) j) ∙ whole in
                  absurd (cc)
              rest (Some q) j =
                  let b : IsBackward cs u = ih u n q next j in
                  record {
                    pairs = x ∷ b.pairs;
                    state = b.state;
                    runs = ap (turns_from (run p b.pairs)) taken ∙ b.runs;
                    same = ap₂ (λ (d : Choice) (ds : List Choice). d ∷ ds) (is_go ∙ sym goes) b.same;
                  }

  -- one run alone makes these choices
  single : (xs ys : List (ℕ × ℕ)) (s : Standing) (m : Stacked ℕ Bits) (t u : Standing) → Meets app code plan p s m → run p xs s ≡ Some t → run p ys s ≡ Some u → choices_of chosen xs ≡ choices_of chosen ys → xs ≡ ys
  single [] [] s m t u meets h k same = refl
  single [] (y ∷ ys) s m t u meets h k same = absurd (let z : ◌≡◌ {A = List Choice} [] (chosen y.0 y.1 ∷ choices_of chosen ys) = same in cc)
  single (x ∷ xs) [] s m t u meets h k same = absurd (let z : ◌≡◌ {A = List Choice} (chosen x.0 x.1 ∷ choices_of chosen xs) [] = same in cc)
  single (x ∷ xs) (y ∷ ys) s m t u meets h k same = go (steps_alike s m meets) (λ a n mm hh kk. single xs ys a n t u mm hh kk tails)
    where
      tails : choices_of chosen xs ≡ choices_of chosen ys
      tails = let z : ◌≡◌ {A = List Choice} (chosen x.0 x.1 ∷ choices_of chosen xs) (chosen y.0 y.1 ∷ choices_of chosen ys) = same in cc

      go : Stepping s m → ((a : Standing) (n : Stacked ℕ Bits) → Meets app code plan p a n → run p xs a ≡ Some t → run p ys a ≡ Some u → xs ≡ ys) → x ∷ xs ≡ y ∷ ys
      go (Dead turns steps) ih =
          let none : ◌≡◌ {A = Option Standing} None (Some t) = sym (ap (turns_from (run p xs)) (turns x)) ∙ h in
          absurd (cc)
      go (Live z a e n taken alone is_go step who only next) ih = found (turn p s x) refl (turn p s y) refl
        where
          found : (o : Option Standing) → turn p s x ≡ o → (q : Option Standing) → turn p s y ≡ q → x ∷ xs ≡ y ∷ ys
          found None e q f =
              let none : ◌≡◌ {A = Option Standing} None (Some t) = sym (ap (turns_from (run p xs)) e) ∙ h in
              absurd (cc)
          found (Some b) e None f =
              let none : ◌≡◌ {A = Option Standing} None (Some u) = sym (ap (turns_from (run p ys)) f) ∙ k in
              absurd (cc)
          found (Some b) e (Some d) f =
              let one : x ≡ z = alone x b e in
              let two : y ≡ z = alone y d f in
              ap₂ (λ (w : ℕ × ℕ) (ws : List (ℕ × ℕ)). w ∷ ws) (one ∙ sym two)
              (ih a n next (sym (ap (turns_from (run p xs)) (ap (turn p s) one ∙ taken)) ∙ h) (sym (ap (turns_from (run p ys)) (ap (turn p s) two ∙ taken)) ∙ k))

  -- what the machine starts from
  pub start_shaped : IsStarting app code plan p → IsShaped app code plan (machine.start app (steps_of code) code.start)
  start_shaped init = go (foremost app app.autostart) refl reached
    where
      reached : IsReached app (machine.start app (steps_of code) code.start)
      reached =
          record {
            state = standard.start app (steps_of code) code.start;
            agrees = (same_runs_lem app sound (steps_of code) code.start []).1;
          }

      first_of : Stacked ℕ Bits
      first_of = record { globals = code.start; stack = []; fresh = app.autostart; sections = []; is_stopped = false }

      go : (o : Option ℕ) → foremost app app.autostart ≡ o → IsReached app (settle_with app (steps_of code) o (record { globals = code.start; stack = []; fresh = app.autostart; sections = []; is_stopped = false })) → IsShaped app code plan (settle_with app (steps_of code) o (record { globals = code.start; stack = []; fresh = app.autostart; sections = []; is_stopped = false }))
      go None e r =
          record {
            limits = λ t lt. let h = init.few t lt in omega arith;
            plain = tt;
            single = λ q. omega arith;
            sections = refl;
            calm = λ l up. ap (fresh_at app l) (foremost_none app app.autostart e);
            known = tt;
            reached = r;
          }
      go (Some t) e r = test (nat_lt 0 (app.level t)) refl r
        where
          most : Rattle.step_ir.specs.Agreement.IsForemost app app.autostart t
          most = foremost_some app app.autostart t e

          test : (b : Bool) → nat_lt 0 (app.level t) ≡ b → IsReached app (if b then record { globals = code.start; stack = begun (steps_of code) t ∷ []; fresh = without t app.autostart; sections = []; is_stopped = false } else record { globals = code.start; stack = []; fresh = app.autostart; sections = []; is_stopped = false }) → IsShaped app code plan (if b then record { globals = code.start; stack = begun (steps_of code) t ∷ []; fresh = without t app.autostart; sections = []; is_stopped = false } else record { globals = code.start; stack = []; fresh = app.autostart; sections = []; is_stopped = false })
          test true k r =
              record {
                limits = λ u lt. let h = init.few u lt in let c = most.counts u in grind (arith, nat_tests);
                plain = (refl, tt, tt);
                single = λ q. omega arith;
                sections = refl;
                calm =
                    λ l above.
                    let higher : app.level t < l = omega (arith, sound.runs_above t) in
                    let differ : l ≢ app.level t = λ z. absurd (omega arith) in
                    sym (most.others l differ) ∙ most.above l higher;
                known = (form.begins t (most.task sound.started), tt);
                reached = r;
              }
          test false k r =
              let positive = sound.above_idle t (most.task sound.started) in
              absurd (grind (arith, nat_tests))

  begins_alike : IsStarting app code plan p → Meets app code plan p (start_of p) (machine.start app (steps_of code) code.start)
  begins_alike init =
      record {
        failed = sym (running (foremost app app.autostart));
        stack = init.first;
        low = λ q lt. init.low q lt ∙ sym (globals q (foremost app app.autostart));
        fits = init.fits;
        holds = init.holds;
        shaped = start_shaped init;
      }
    where
      running : (o : Option ℕ) → (settle_with app (steps_of code) o (record { globals = code.start; stack = []; fresh = app.autostart; sections = []; is_stopped = false })).is_stopped ≡ false
      running None = refl
      running (Some t) = pick (nat_lt 0 (app.level t))
        where
          pick : (b : Bool) → (let z : Stacked ℕ Bits = if b then record { globals = code.start; stack = begun (steps_of code) t ∷ []; fresh = without t app.autostart; sections = []; is_stopped = false } else record { globals = code.start; stack = []; fresh = app.autostart; sections = []; is_stopped = false } in z.is_stopped ≡ false)
          pick true = refl
          pick false = refl

      globals : (q : ℕ) (o : Option ℕ) → (settle_with app (steps_of code) o (record { globals = code.start; stack = []; fresh = app.autostart; sections = []; is_stopped = false })).globals q ≡ code.start q
      globals q None = refl
      globals q (Some t) = pick (nat_lt 0 (app.level t))
        where
          pick : (b : Bool) → (let z : Stacked ℕ Bits = if b then record { globals = code.start; stack = begun (steps_of code) t ∷ []; fresh = without t app.autostart; sections = []; is_stopped = false } else record { globals = code.start; stack = []; fresh = app.autostart; sections = []; is_stopped = false } in z.globals q ≡ code.start q)
          pick true = refl
          pick false = refl

  alike : (s : Standing) (m : Stacked ℕ Bits) → Meets app code plan p s m → IsAlike s m
  alike s m meets =
      record {
        depth = ap length meets.stack ∙ (let e = length-places plan m.stack in omega arith);
        failed = meets.failed;
      }

  -- the runs of the program are the choice lists of the machine
  pub is_exact : IsStarting app code plan p → (arrivals : ℕ) → IsExact app (steps_of code) code.start arrivals p chosen
  is_exact init arrivals =
      record {
        sound =
            λ pairs s h.
            let f : IsForward pairs (machine.start app (steps_of code) code.start) s = forward pairs (start_of p) (machine.start app (steps_of code) code.start) s (begins_alike init) h in
            record {
              events = f.events;
              state = f.state;
              permitted = f.permitted;
              few = (let none = f.none in omega arith);
              alike = alike s f.state f.meets;
            };
        complete =
            λ choices events m h few.
            let b : IsBackward choices (start_of p) = backward choices (start_of p) (machine.start app (steps_of code) code.start) (events, m) (begins_alike init) h in
            record { pairs = b.pairs; state = b.state; runs = b.runs; same = b.same };
        unique = λ xs ys s t h k same. single xs ys (start_of p) (machine.start app (steps_of code) code.start) s t (begins_alike init) h k same;
      }

  -- each label of a run is of the entity that acts
  pub acting : IsStarting app code plan p → AreActing app code plan p chosen
  acting init =
      record {
        each =
            λ pairs s h events m k.
            let f : IsForward pairs (machine.start app (steps_of code) code.start) s = forward pairs (start_of p) (machine.start app (steps_of code) code.start) s (begins_alike init) h in
            subst (AreOf app plan pairs) (same_events f.events events f.state m (sym f.permitted ∙ k)) f.acts;
      }
    where
      same_events : (xs ys : List Event) (n m : Stacked ℕ Bits) → ◌≡◌ {A = Option (List Event × Stacked ℕ Bits)} (Some (xs, n)) (Some (ys, m)) → xs ≡ ys
      same_events xs ys n m e =
          let f : ◌≡◌ {A = List Event × Stacked ℕ Bits} (xs, n) (ys, m) = cc in
          ap (λ (z : List Event × Stacked ℕ Bits). z.0) f
