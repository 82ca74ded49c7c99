-- The state of the standard's scheduler: a list of ready entries for each level, and tasks that are put back into it (OSEK OS 2.2.3, 4).
use Rattle.std.specs.Prelude.{ℕ, zero, suc, Bool, false, ◌||◌, List, [], ◌∷◌, Option, Some, None}
use Rattle.application.specs.Levels.{has_number}
use Rattle.step_ir.specs.declared.event.Section.{Section}
use Rattle.step_ir.specs.EntityStep.{Behaviour}
use Rattle.step_ir.specs.Services.{Scene}
use Rattle.step_ir.specs.Setting.{Setting, current, foremost}

-- what waits in a ready list: a request that was not begun, or a task that was begun and lost the processor
pub data Entry : Type 0 where
  Fresh : (task : ℕ) → Entry
  Preempted : (task : ℕ) → Entry

-- the state of the scheduler
pub record State (S G : Type 0) : Type 0 where
  pub globals : G
  -- of each started task and active routine
  pub state : ℕ → S
  -- the resources of each entity, the last taken first; an internal one is not among them
  pub held : ℕ → List ℕ
  -- of each level, the first to run first
  pub ready : ℕ → List Entry
  pub running : Option ℕ
  -- the active routines
  pub active : List ℕ
  -- the open sections, the innermost first
  pub sections : List Section
  -- of each task; the one that runs or was preempted counts
  pub requests : ℕ → ℕ
  -- how many routines have arrived so far
  pub arrivals : ℕ
  -- a failure has stopped all
  pub is_stopped : Bool

-- the active routine of the greatest level, else the running task, else none
abbrev pub actor_of : Setting → List ℕ → Option ℕ → Option ℕ
actor_of app [] running = running
actor_of app (r ∷ rs) running = foremost app (r ∷ rs)

-- who acts next
abbrev pub actor : {S G : Type 0} → Setting → State S G → Option ℕ
actor app st = actor_of app st.active st.running

-- the current level of an actor, and 0 without one
abbrev pub level_at : {S G : Type 0} → Setting → State S G → Option ℕ → ℕ
level_at app st None = 0
level_at app st (Some e) = current app e (st.held e)

-- it holds for a number below this one
abbrev pub any_below : ℕ → (ℕ → Bool) → Bool
any_below zero test = false
any_below (suc n) test = test n || any_below n test

-- what a service of this entity finds
abbrev pub scene : {S G : Type 0} → Setting → State S G → ℕ → Scene
scene app st e =
    record {
      caller = e;
      held = st.held e;
      is_held = λ r. any_below app.entities (λ q. has_number (st.held q) r);
      sections = st.sections;
      requests = st.requests;
    }

-- before anything has started
abbrev pub nothing_yet : {S G : Type 0} → Behaviour S G → G → State S G
nothing_yet beh globals =
    record {
      globals = globals;
      state = beh.start;
      held = λ e. [];
      ready = λ l. [];
      running = None;
      active = [];
      sections = [];
      requests = λ t. 0;
      arrivals = 0;
      is_stopped = false;
    }
