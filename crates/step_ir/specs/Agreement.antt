-- What the two schedulers keep at each step.
use Rattle.std.specs.Prelude.{◌≡◌, ◌≢◌, ℕ, ◌+◌, ◌<◌, true, false, List, [], ◌∷◌, ◌++◌, Option, Some, None, if◌then◌else◌, ◌==◌}
use Rattle.step_ir.specs.Numbers.{times, tail}
use Rattle.step_ir.specs.OneStackMachine.{Stacked, Frame, without, standing, standing_of_top, whos, top_of}
use Rattle.step_ir.specs.SchedulerState.{State, Entry, Fresh, Preempted}
use Rattle.step_ir.specs.Setting.{Setting, AreTasks, AreRoutines}

-- the fresh requests of a level, in order
abbrev pub fresh_at : Setting → ℕ → List ℕ → List Entry
fresh_at app l [] = []
fresh_at app l (t ∷ ts) = if app.level t == l then Fresh t ∷ fresh_at app l ts else fresh_at app l ts

-- of these requests, this one is the first of greatest level
pub record IsForemost (app : Setting) (ts : List ℕ) (t : ℕ) : Type 0 where
  pub same : fresh_at app (app.level t) ts ≡ Fresh t ∷ fresh_at app (app.level t) (without t ts)
  pub others : (l : ℕ) → l ≢ app.level t → fresh_at app l ts ≡ fresh_at app l (without t ts)
  pub above : (l : ℕ) → app.level t < l → fresh_at app l ts ≡ []
  pub counts : (q : ℕ) → times q ts ≡ times q (without t ts) + (if t == q then 1 else 0)
  pub task : AreTasks app ts → app.is_task t ≡ true

-- the preempted entries of a level, of tasks that stand so on the stack
abbrev pub preempted_at : {S : Type 0} → Setting → ℕ → List (Frame S) → List Entry
preempted_at app l [] = []
preempted_at app l (f ∷ fs) =
    if standing app f == l then Preempted f.who ∷ preempted_at app l fs else preempted_at app l fs

-- each one's own level is above the standing level of the one below
abbrev pub Rises : {S : Type 0} → Setting → List (Frame S) → Type 0
Rises app [] = Unit {0}
Rises app (f ∷ fs) = (standing_of_top app fs < app.level f.who) × Rises app fs

-- each one's own level is below this one
abbrev pub AllBelow : {S : Type 0} → Setting → ℕ → List (Frame S) → Type 0
AllBelow app l [] = Unit {0}
AllBelow app l (f ∷ fs) = (app.level f.who < l) × AllBelow app l fs

-- the entities on the stack have these states and hold these resources
abbrev pub Matches : {S : Type 0} → (ℕ → S) → (ℕ → List ℕ) → List (Frame S) → Type 0
Matches state held [] = Unit {0}
Matches state held (f ∷ fs) = (state f.who ≡ f.state) × (held f.who ≡ f.held) × Matches state held fs

-- none of these has yielded
abbrev pub AreAwake : {S : Type 0} → List (Frame S) → Type 0
AreAwake [] = Unit {0}
AreAwake (f ∷ fs) = (f.yielded ≡ false) × AreAwake fs

-- the top, if there is one, hasn't yielded
abbrev pub IsTopAwake : {S : Type 0} → List (Frame S) → Type 0
IsTopAwake [] = Unit {0}
IsTopAwake (f ∷ fs) = f.yielded ≡ false

-- the two states agree, with these routines on top of these tasks
pub record IsAgreed {S G : Type 0} (app : Setting) (st : State S G) (m : Stacked S G) (over under : List (Frame S)) : Type 0 where
  pub stack : m.stack ≡ over ++ under
  pub globals : st.globals ≡ m.globals
  pub sections : st.sections ≡ m.sections
  pub stopped : st.is_stopped ≡ m.is_stopped
  -- from the top: the active routines, then the running task, and then the preempted ones
  pub active : st.active ≡ whos over
  pub running : st.running ≡ top_of under
  pub rises : Rises app (over ++ under)
  pub matches : Matches st.state st.held (over ++ under)
  pub routines : AreRoutines app (whos over)
  pub tasks : AreTasks app (whos under)
  pub fresh : AreTasks app m.fresh
  -- a level's list has in front the one preempted task that stands at the level, if there is one, and then the fresh requests of the level
  pub ready : (l : ℕ) → st.ready l ≡ preempted_at app l (tail under) ++ fresh_at app l m.fresh
  pub requests : (t : ℕ) → st.requests t ≡ times t (whos under) + times t m.fresh
  -- who isn't on the stack holds nothing
  pub unheld : (e : ℕ) → times e (whos (over ++ under)) ≡ 0 → st.held e ≡ []
  pub awake : AreAwake over
  pub top_awake : IsTopAwake under

-- the two states agree; where the stack is empty, no request is left
pub record Agrees {S G : Type 0} (app : Setting) (st : State S G) (m : Stacked S G) : Type 0 where
  pub over : List (Frame S)
  pub under : List (Frame S)
  pub agreed : IsAgreed app st m over under
  pub idle : over ++ under ≡ [] → m.fresh ≡ []

-- both go on, with the same result and to states that agree, or neither does
abbrev pub HaveSame : {S G E : Type 0} → Setting → Option (E × State S G) → Option (E × Stacked S G) → Type 0
HaveSame app None None = Unit {0}
HaveSame app (Some x) (Some y) = (x.0 ≡ y.0) × Agrees app x.1 y.1
HaveSame app _ _ = ⊥
