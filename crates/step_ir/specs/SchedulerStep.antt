-- One step of the standard's scheduler: what services, ends and arrivals do (OSEK OS 2.2.3, 4, 6, 8, 13).
use Rattle.std.specs.Prelude.{ℕ, ◌+◌, ◌-◌, true, ◌&&◌, Bool, List, [], ◌∷◌, ◌++◌, Option, Some, None, if◌then◌else◌, nat_lt, ◌==◌, option_map}
use Rattle.chk_base.specs.declared.place.Place.{Place}
use Rattle.step_ir.specs.declared.event.Choice.{Choice}
use Rattle.step_ir.specs.declared.event.Choice.TheVariants.{Go, GoWith, Arrive}
use Rattle.step_ir.specs.declared.event.Event.{Event}
use Rattle.step_ir.specs.declared.event.EventAction.{EventAction}
use Rattle.step_ir.specs.declared.event.EventAction.TheVariants as Action
use Rattle.step_ir.specs.declared.event.Service.{Service}
use Rattle.step_ir.specs.declared.event.Service.TheVariants.{Activate, Terminate, Chain, Schedule, Get, Release}
use Rattle.step_ir.specs.Deeds.{Deed, Moves, Serves, Leaves, Stops, action_of, deed_of, next_of, happened}
use Rattle.step_ir.specs.EntityStep.{After, Behaviour}
use Rattle.step_ir.specs.Numbers.{is_empty, tail, put}
use Rattle.step_ir.specs.Reschedule.{dispatch, put_back, reschedule, reschedule_after}
use Rattle.step_ir.specs.SchedulerState.{State, Fresh, actor, level_at, scene, nothing_yet}
use Rattle.step_ir.specs.Services.{sections_after}
use Rattle.step_ir.specs.Setting.{Setting}

-- a request is queued last at its level
abbrev pub queue : {S G : Type 0} → Setting → ℕ → State S G → State S G
queue app t st =
    record st { ready = put st.ready (app.level t) (st.ready (app.level t) ++ Fresh t ∷ []); requests = put st.requests t (st.requests t + 1) }

-- requests are queued, in order
abbrev pub queue_all : {S G : Type 0} → Setting → List ℕ → State S G → State S G
queue_all app [] st = st
queue_all app (t ∷ ts) st = queue_all app ts (queue app t st)

-- the request of the running task ends
abbrev pub end_request : {S G : Type 0} → ℕ → State S G → State S G
end_request t st = record st { running = None; requests = put st.requests t (st.requests t - 1) }

-- the effect of a service of this entity, with the reschedule that follows
abbrev pub effect : {S G : Type 0} → Setting → Behaviour S G → ℕ → Service → State S G → State S G
effect app beh e (Activate t) st = reschedule_after app beh e (queue app t.0 st)
effect app beh e Terminate st = dispatch app beh (end_request e st)
effect app beh e (Chain t) st = dispatch app beh (queue app t.0 (end_request e st))
effect app beh e Schedule st = dispatch app beh (put_back (app.level e) e st)
effect app beh e (Get r) st = record st { held = put st.held e (r ∷ st.held e) }
effect app beh e (Release r) st = reschedule_after app beh e (record st { held = put st.held e (tail (st.held e)) })
effect app beh e service st = record st { sections = sections_after service st.sections }

-- all but this routine
abbrev pub without_routine : ℕ → List ℕ → List ℕ
without_routine r [] = []
without_routine r (x ∷ xs) = if x == r then without_routine r xs else x ∷ without_routine r xs

-- after the end of a routine: where none is left, a preemptive task reschedules, another goes on, and an idle processor starts the first ready entry
abbrev pub after_routine : {S G : Type 0} → Setting → Behaviour S G → List ℕ → Option ℕ → State S G → State S G
after_routine app beh (r ∷ rs) running st = st
after_routine app beh [] None st = dispatch app beh st
after_routine app beh [] (Some t) st = reschedule_after app beh t st

-- a routine has left
abbrev pub leave : {S G : Type 0} → Setting → Behaviour S G → State S G → State S G
leave app beh st = after_routine app beh st.active st.running st

-- the entity's own state and the globals after its step
abbrev pub move : {S G : Type 0} → ℕ → After S G → State S G → State S G
move e after st = record st { globals = after.globals; state = put st.state e after.state }

-- what is to be done for the step of this entity is done; a failure keeps the state, and stops all
abbrev pub act : {S G : Type 0} → Setting → Behaviour S G → ℕ → Deed S G → State S G → State S G
act app beh e (Moves action after) st = move e after st
act app beh e (Serves service after) st = effect app beh e service (move e after st)
act app beh e Leaves st = leave app beh (record st { active = without_routine e st.active })
act app beh e (Stops failure service) st = record st { is_stopped = true }

-- the event of a step that led to this state
abbrev pub tell : {S G : Type 0} → Setting → ℕ → EventAction → Place → State S G → Event × State S G
tell app e action place st = (happened e action place (next_of st.is_stopped (actor app st)), st)

-- a routine may arrive where its level is above the current one and no section is open
abbrev pub may_arrive : {S G : Type 0} → Setting → State S G → ℕ → Bool
may_arrive app st r =
    app.is_routine r && (nat_lt (level_at app st (actor app st)) (app.level r) && is_empty st.sections)

-- a routine becomes active, at its body's beginning
abbrev pub arrive : {S G : Type 0} → Behaviour S G → ℕ → State S G → State S G
arrive beh r st =
    record st { active = r ∷ st.active; state = put st.state r (beh.start r); held = put st.held r []; arrivals = st.arrivals + 1 }

-- the step of the actor, if there is one
abbrev pub go : {S G : Type 0} → Setting → Behaviour S G → State S G → Choice → Option ℕ → Option (Event × State S G)
go app beh st choice None = None
go app beh st choice (Some e) =
    option_map (λ d. tell app e (action_of d) (beh.place e (st.state e)) (act app beh e d st))
    (deed_of app (scene app st e) (beh.wants e (st.state e) st.globals) choice)

-- one step where nothing has stopped
abbrev pub step_on : {S G : Type 0} → Setting → Behaviour S G → State S G → Choice → Option (Event × State S G)
step_on app beh st (Arrive r) =
    if may_arrive app st r.0 then Some (tell app r.0 Action.Arrive (beh.place r.0 (beh.start r.0)) (arrive beh r.0 st)) else None
step_on app beh st Go = go app beh st Go (actor app st)
step_on app beh st (GoWith w) = go app beh st (GoWith w) (actor app st)

-- one step: an event and a new state, or nothing where the choice isn't permitted; after a failure none is
abbrev pub step : {S G : Type 0} → Setting → Behaviour S G → State S G → Choice → Option (Event × State S G)
step app beh st choice = if st.is_stopped then None else step_on app beh st choice

-- the start: the tasks that are started have one request each, and the scheduler reschedules
abbrev pub start : {S G : Type 0} → Setting → Behaviour S G → G → State S G
start app beh globals = reschedule app beh (queue_all app app.autostart (nothing_yet beh globals))
