-- A step counts at most one arrival.
use Rattle.std.proofs.Common.{◌≡◌, ℕ, ◌+◌, ◌≤◌, Bool, true, false, List, [], ◌∷◌, Option, Some, None, option_map, refl, ap, ◌∙◌, arith, if◌then◌else◌}
use Rattle.application.specs.declared.app.App.{App}
use Rattle.chk_base.specs.declared.place.Place.{Place}
use Rattle.osek_machine.proofs.Deeds.{act_arrivals, reschedule_arrivals}
use Rattle.osek_machine.specs.declared.machine.Outcome.{Outcome}
use Rattle.osek_machine.specs.declared.machine.Outcome.TheVariants as answer
use Rattle.osek_machine.specs.Kept.{Kept, state_of}
use Rattle.osek_machine.specs.Steps.{IsOutcome, IsStep, StandsAt, start_of, step_of}
use Rattle.step_ir.specs.declared.code.Code.{Code}
use Rattle.step_ir.specs.declared.event.Choice.{Choice}
use Rattle.step_ir.specs.declared.event.Choice.TheVariants.{Go, GoWith, Arrive}
use Rattle.step_ir.specs.declared.event.Event.{Event}
use Rattle.step_ir.specs.Deeds.{Deed, action_of, deed_of}
use Rattle.step_ir.specs.EntityStep.{Behaviour}
use Rattle.step_ir.specs.Points.{start_bits}
use Rattle.step_ir.specs.PointStep.{Bits, behaviour_of}
use Rattle.step_ir.specs.SchedulerState.{State, actor, nothing_yet, scene}
use Rattle.step_ir.specs.SchedulerStep.{act, arrive, go, may_arrive, queue, queue_all, step_on, tell}
use Rattle.step_ir.specs.Setting.{Setting, setting_of}

-- a step counts at most one arrival
abbrev IsCounted : State ℕ Bits → Option (Event × State ℕ Bits) → Type 0
IsCounted st None = Unit {0}
IsCounted st (Some next) = next.1.arrivals ≤ st.arrivals + 1

module _ (app : Setting) (beh : Behaviour ℕ Bits) (st : State ℕ Bits) where
  deed_counted : (e : ℕ) (place : Place) (o : Option (Deed ℕ Bits)) → IsCounted st (option_map (λ d. tell app e (action_of d) place (act app beh e d st)) o)
  deed_counted e place None = tt
  deed_counted e place (Some d) = omega (arith, act_arrivals app beh e d st)

  go_counted : (choice : Choice) (o : Option ℕ) → IsCounted st (go app beh st choice o)
  go_counted choice None = tt
  go_counted choice (Some e) =
      deed_counted e (beh.place e (st.state e)) (deed_of app (scene app st e) (beh.wants e (st.state e) st.globals) choice)

  arrival_counted : (event : Event) (r : ℕ) (b : Bool) → IsCounted st (if b then Some (event, arrive beh r st) else None)
  arrival_counted event r true = let same : (arrive beh r st).arrivals ≡ st.arrivals + 1 = refl in omega (arith, same)
  arrival_counted event r false = tt

  on_counted : (choice : Choice) → IsCounted st (step_on app beh st choice)
  on_counted (Arrive r) = arrival_counted _ r.0 (may_arrive app st r.0)
  on_counted Go = go_counted Go (actor app st)
  on_counted (GoWith w) = go_counted (GoWith w) (actor app st)

  unless_stopped : (choice : Choice) (b : Bool) → IsCounted st (if b then None else step_on app beh st choice)
  unless_stopped choice true = tt
  unless_stopped choice false = on_counted choice

-- so does the machine
pub one_arrival : (choice : Choice) (old new : Kept) (result : Outcome) → IsStep choice old result new → new.arrivals ≤ old.arrivals + 1
one_arrival choice old new result steps =
    go_out (step_of old.app old.code (state_of old) choice) result (unless_stopped (setting_of old.app) (behaviour_of old.code) (state_of old) choice old.stopped) steps.outcome
  where
    go_out : (o : Option (Event × State ℕ Bits)) (r : Outcome) → IsCounted (state_of old) o → IsOutcome o (state_of old) r (state_of new) → new.arrivals ≤ old.arrivals + 1
    go_out None (answer.Event event) few h = absurd h
    go_out None (answer.Failed event) few h = absurd h
    go_out None answer.Refused few h = let same : new.arrivals ≡ old.arrivals = ap (λ (s : State ℕ Bits). s.arrivals) h in omega (arith, same)
    go_out (Some next) (answer.Event event) few h = let same : new.arrivals ≡ next.1.arrivals = ap (λ (s : State ℕ Bits). s.arrivals) h.state in omega (arith, same, few)
    go_out (Some next) (answer.Failed event) few h = let same : new.arrivals ≡ next.1.arrivals = ap (λ (s : State ℕ Bits). s.arrivals) h.state in omega (arith, same, few)
    go_out (Some next) answer.Refused few h = absurd h

-- queueing counts none
queued_arrivals : (app : Setting) (ts : List ℕ) (st : State ℕ Bits) → (queue_all app ts st).arrivals ≡ st.arrivals
queued_arrivals app [] st = refl
queued_arrivals app (t ∷ ts) st = queued_arrivals app ts (queue app t st)

-- none has arrived at the start
pub start_arrivals : (app : App) (code : Code) (m : Kept) → StandsAt app code (start_of app code) m → m.arrivals ≡ 0
start_arrivals app code m stands =
    ap (λ (s : State ℕ Bits). s.arrivals) stands.state
    ∙ reschedule_arrivals (setting_of app) (behaviour_of code) (queue_all (setting_of app) (setting_of app).autostart (nothing_yet (behaviour_of code) (start_bits code)))
    ∙ queued_arrivals (setting_of app) (setting_of app).autostart (nothing_yet (behaviour_of code) (start_bits code))
