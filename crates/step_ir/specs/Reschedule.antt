-- Rescheduling: the running task goes back to the front of a ready list, and the first entry of the highest list runs (OSEK OS 2.2.3, 4.5, 4.6).
use Rattle.std.specs.Prelude.{ℕ, zero, suc, List, [], ◌∷◌, Option, Some, None, if◌then◌else◌}
use Rattle.step_ir.specs.EntityStep.{Behaviour}
use Rattle.step_ir.specs.Numbers.{put}
use Rattle.step_ir.specs.SchedulerState.{State, Entry, Fresh, Preempted}
use Rattle.step_ir.specs.Setting.{Setting, current, gives_way}

-- this level where its list isn't empty, and else one below
abbrev pub first_level : List Entry → ℕ → Option ℕ → Option ℕ
first_level [] l below = below
first_level (e ∷ es) l below = Some l

-- the highest level up to this one whose list isn't empty
abbrev pub highest : (ℕ → List Entry) → ℕ → Option ℕ
highest ready zero = first_level (ready zero) zero None
highest ready (suc n) = first_level (ready (suc n)) (suc n) (highest ready n)

-- the first entry of this level's list is taken out and runs; a fresh one starts at its body's beginning and holds nothing
abbrev pub take_first : {S G : Type 0} → Behaviour S G → ℕ → List Entry → State S G → State S G
take_first beh l [] st = record st { running = None }
take_first beh l (Fresh t ∷ es) st =
    record st { running = Some t; ready = put st.ready l es; state = put st.state t (beh.start t); held = put st.held t [] }
take_first beh l (Preempted t ∷ es) st = record st { running = Some t; ready = put st.ready l es }

-- the first entry of the list of this level, if there is one, runs
abbrev pub take_from : {S G : Type 0} → Behaviour S G → Option ℕ → State S G → State S G
take_from beh None st = record st { running = None }
take_from beh (Some l) st = take_first beh l (st.ready l) st

-- the first entry of the highest list that isn't empty runs; if all are empty, none does
abbrev pub dispatch : {S G : Type 0} → Setting → Behaviour S G → State S G → State S G
dispatch app beh st = take_from beh (highest st.ready app.top) st

-- this task goes to the front of the list of this level
abbrev pub put_back : {S G : Type 0} → ℕ → ℕ → State S G → State S G
put_back l t st = record st { running = None; ready = put st.ready l (Preempted t ∷ st.ready l) }

-- the running task, if there is one, goes to the front of the list of its current level
abbrev pub give_back : {S G : Type 0} → Setting → Option ℕ → State S G → State S G
give_back app None st = st
give_back app (Some t) st = put_back (current app t (st.held t)) t st

-- a reschedule
abbrev pub reschedule : {S G : Type 0} → Setting → Behaviour S G → State S G → State S G
reschedule app beh st = dispatch app beh (give_back app st.running st)

-- a reschedule where this entity is a preemptive task
abbrev pub reschedule_after : {S G : Type 0} → Setting → Behaviour S G → ℕ → State S G → State S G
reschedule_after app beh e st = if gives_way app e then reschedule app beh st else st
