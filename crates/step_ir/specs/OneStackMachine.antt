-- The one-stack machine: one stack of entities and a list of fresh requests, with no preempted task to put back (after Kidd, Jagannathan and Vitek).
use Rattle.std.specs.Prelude.{◌≡◌, ℕ, ◌+◌, ◌≤◌, Bool, true, false, ◌&&◌, ◌||◌, List, [], ◌∷◌, ◌++◌, length, Option, Some, None, if◌then◌else◌, nat_lt, ◌==◌, option_map}
use Rattle.application.specs.Levels.{has_number}
use Rattle.chk_base.specs.declared.place.Place.{Place}
use Rattle.step_ir.specs.declared.event.Choice.{Choice}
use Rattle.step_ir.specs.declared.event.Choice.TheVariants.{Go, GoWith, Arrive}
use Rattle.step_ir.specs.declared.event.Event.{Event}
use Rattle.step_ir.specs.declared.event.EventAction.{EventAction}
use Rattle.step_ir.specs.declared.event.EventAction.TheVariants as Action
use Rattle.step_ir.specs.declared.event.Section.{Section}
use Rattle.step_ir.specs.declared.event.Service.{Service}
use Rattle.step_ir.specs.declared.event.Service.TheVariants.{Activate, Terminate, Chain, Schedule, Get, Release}
use Rattle.step_ir.specs.Deeds.{Deed, Moves, Serves, Leaves, Stops, action_of, deed_of, next_of, happened}
use Rattle.step_ir.specs.EntityStep.{After, Behaviour}
use Rattle.step_ir.specs.Numbers.{is_empty, tail, times}
use Rattle.step_ir.specs.PermittedSchedule.{follow, events_of, arrivals_in}
use Rattle.step_ir.specs.Services.{Scene, sections_after}
use Rattle.step_ir.specs.Setting.{Setting, current, gives_way, foremost}

-- an entity on the stack
pub record Frame (S : Type 0) : Type 0 where
  pub who : ℕ
  pub state : S
  -- the last taken first
  pub held : List ℕ
  -- it called `Schedule` and did not run since
  pub yielded : Bool

-- the state of the machine
pub record Stacked (S G : Type 0) : Type 0 where
  pub globals : G
  -- the top first
  pub stack : List (Frame S)
  -- the requests that were not begun, the oldest first
  pub fresh : List ℕ
  -- the open sections, the innermost first
  pub sections : List Section
  -- a failure has stopped all
  pub is_stopped : Bool

-- the standing level of an entity: its current level, but its own level from its yield until it runs again
abbrev pub standing : {S : Type 0} → Setting → Frame S → ℕ
standing app f = if f.yielded then app.level f.who else current app f.who f.held

-- the standing level of the top, and 0 for the empty stack
abbrev pub standing_of_top : {S : Type 0} → Setting → List (Frame S) → ℕ
standing_of_top app [] = 0
standing_of_top app (f ∷ fs) = standing app f

-- without the first of these requests of this task
abbrev pub without : ℕ → List ℕ → List ℕ
without t [] = []
without t (x ∷ xs) = if x == t then xs else x ∷ without t xs

-- an entity at its body's beginning
abbrev pub begun : {S G : Type 0} → Behaviour S G → ℕ → Frame S
begun beh e = record { who = e; state = beh.start e; held = []; yielded = false }

-- the top runs
abbrev pub run_on : {S : Type 0} → List (Frame S) → List (Frame S)
run_on [] = []
run_on (f ∷ fs) = record f { yielded = false } ∷ fs

-- this request, if there is one, is pushed exactly where its level is above the top's standing level; else the top runs on
abbrev pub settle_with : {S G : Type 0} → Setting → Behaviour S G → Option ℕ → Stacked S G → Stacked S G
settle_with app beh None m = record m { stack = run_on m.stack }
settle_with app beh (Some t) m =
    if nat_lt (standing_of_top app m.stack) (app.level t)
    then record m { stack = begun beh t ∷ m.stack; fresh = without t m.fresh }
    else record m { stack = run_on m.stack }

-- to settle is to look at the first of the fresh requests of greatest level
abbrev pub settle : {S G : Type 0} → Setting → Behaviour S G → Stacked S G → Stacked S G
settle app beh m = settle_with app beh (foremost app m.fresh) m

-- the machine settles where this entity is a preemptive task
abbrev pub settle_after : {S G : Type 0} → Setting → Behaviour S G → ℕ → Stacked S G → Stacked S G
settle_after app beh e m = if gives_way app e then settle app beh m else m

-- a request is put last
abbrev pub request : {S G : Type 0} → ℕ → Stacked S G → Stacked S G
request t m = record m { fresh = m.fresh ++ t ∷ [] }

-- the effect of a service of the top, which stands on these, with the settling that follows
abbrev pub effect : {S G : Type 0} → Setting → Behaviour S G → Frame S → List (Frame S) → Service → Stacked S G → Stacked S G
effect app beh f below (Activate t) m = settle_after app beh f.who (request t.0 (record m { stack = f ∷ below }))
effect app beh f below Terminate m = settle app beh (record m { stack = below })
effect app beh f below (Chain t) m = settle app beh (request t.0 (record m { stack = below }))
effect app beh f below Schedule m = settle app beh (record m { stack = record f { yielded = true } ∷ below })
effect app beh f below (Get r) m = record m { stack = record f { held = r ∷ f.held } ∷ below }
effect app beh f below (Release r) m =
    settle_after app beh f.who (record m { stack = record f { held = tail f.held } ∷ below })
effect app beh f below service m = record m { stack = f ∷ below; sections = sections_after service m.sections }

-- after the end of a routine, which stood on these: a preemptive task and an idle processor settle, and every other goes on
abbrev pub after_routine : {S G : Type 0} → Setting → Behaviour S G → List (Frame S) → Stacked S G → Stacked S G
after_routine app beh [] m = settle app beh m
after_routine app beh (f ∷ fs) m = settle_after app beh f.who m

-- the top's own state and the globals after its step
abbrev pub move : {S G : Type 0} → Frame S → List (Frame S) → After S G → Stacked S G → Stacked S G
move f below after m = record m { globals = after.globals; stack = record f { state = after.state } ∷ below }

-- what is to be done for the step of the top is done; a failure keeps the stack, and stops all
abbrev pub act : {S G : Type 0} → Setting → Behaviour S G → Frame S → List (Frame S) → Deed S G → Stacked S G → Stacked S G
act app beh f below (Moves action after) m = move f below after m
act app beh f below (Serves service after) m =
    effect app beh (record f { state = after.state }) below service (move f below after m)
act app beh f below Leaves m = after_routine app beh below (record m { stack = below })
act app beh f below (Stops failure service) m = record m { is_stopped = true }

-- who is on top
abbrev pub top_of : {S : Type 0} → List (Frame S) → Option ℕ
top_of [] = None
top_of (f ∷ fs) = Some f.who

-- the current level of the top, and 0 for the empty stack
abbrev pub level_of_top : {S : Type 0} → Setting → List (Frame S) → ℕ
level_of_top app [] = 0
level_of_top app (f ∷ fs) = current app f.who f.held

-- an entity on the stack holds this resource
abbrev pub any_frame : {S : Type 0} → List (Frame S) → ℕ → Bool
any_frame [] r = false
any_frame (f ∷ fs) r = has_number f.held r || any_frame fs r

-- who is on the stack
abbrev pub whos : {S : Type 0} → List (Frame S) → List ℕ
whos [] = []
whos (f ∷ fs) = f.who ∷ whos fs

-- what a service of the top finds; the requests of a task are its entries on the stack and in the list of fresh requests together
abbrev pub scene : {S G : Type 0} → Stacked S G → Frame S → Scene
scene m f =
    record {
      caller = f.who;
      held = f.held;
      is_held = any_frame m.stack;
      sections = m.sections;
      requests = λ t. times t (whos m.stack) + times t m.fresh;
    }

-- the event of a step that led to this state
abbrev pub tell : {S G : Type 0} → ℕ → EventAction → Place → Stacked S G → Event × Stacked S G
tell e action place m = (happened e action place (next_of m.is_stopped (top_of m.stack)), m)

-- a routine may arrive where its level is above the current one and no section is open
abbrev pub may_arrive : {S G : Type 0} → Setting → Stacked S G → ℕ → Bool
may_arrive app m r =
    app.is_routine r && (nat_lt (level_of_top app m.stack) (app.level r) && is_empty m.sections)

-- the step of the top, if there is one
abbrev pub go : {S G : Type 0} → Setting → Behaviour S G → Stacked S G → Choice → List (Frame S) → Option (Event × Stacked S G)
go app beh m choice [] = None
go app beh m choice (f ∷ below) =
    option_map (λ d. tell f.who (action_of d) (beh.place f.who f.state) (act app beh f below d m))
    (deed_of app (scene m f) (beh.wants f.who f.state m.globals) choice)

-- one step where nothing has stopped; an arrival is a push
abbrev pub step_on : {S G : Type 0} → Setting → Behaviour S G → Stacked S G → Choice → Option (Event × Stacked S G)
step_on app beh m (Arrive r) =
    if may_arrive app m r.0
    then Some (tell r.0 Action.Arrive (beh.place r.0 (beh.start r.0)) (record m { stack = begun beh r.0 ∷ m.stack }))
    else None
step_on app beh m Go = go app beh m Go m.stack
step_on app beh m (GoWith w) = go app beh m (GoWith w) m.stack

-- one step: an event and a new state, or nothing where the choice isn't permitted; after a failure none is
abbrev pub step : {S G : Type 0} → Setting → Behaviour S G → Stacked S G → Choice → Option (Event × Stacked S G)
step app beh m choice = if m.is_stopped then None else step_on app beh m choice

-- the start: the tasks that are started are fresh requests, in order, and the machine settles
abbrev pub start : {S G : Type 0} → Setting → Behaviour S G → G → Stacked S G
start app beh globals =
    settle app beh (record { globals = globals; stack = []; fresh = app.autostart; sections = []; is_stopped = false })

-- the events of a list of choices and the state after them, or nothing where one isn't permitted
abbrev pub run : {S G : Type 0} → Setting → Behaviour S G → List Choice → Stacked S G → Option (List Event × Stacked S G)
run app beh [] m = Some ([], m)
run app beh (c ∷ cs) m = follow (step app beh m c) (run app beh cs)

-- the events of a list of choices from this state
abbrev pub events_from : {S G : Type 0} → Setting → Behaviour S G → List Choice → Stacked S G → Option (List Event)
events_from app beh choices m = events_of (run app beh choices m)

-- these are the events of a list of choices of the one-stack machine, at most k events and at most m arrivals
pub record IsStackRun {S G : Type 0} (app : Setting) (beh : Behaviour S G) (globals : G) (k m : ℕ) (events : List Event) : Type 0 where
  pub choices : List Choice
  pub permitted : events_from app beh choices (start app beh globals) ≡ Some events
  pub short : length events ≤ k
  pub few : arrivals_in choices ≤ m
