-- The ready entries of all levels, in one list.
use Rattle.std.specs.Prelude.{◌≡◌, ℕ, ◌+◌, ◌<◌, ◌≤◌, List, [], ◌∷◌, length, Option, Some, None, slice_get, if◌then◌else◌, ◌==◌}
use Rattle.osek_machine.specs.declared.ready.Waiting.{Waiting}
use Rattle.step_ir.specs.Numbers.{times}
use Rattle.step_ir.specs.SchedulerState.{Entry, Fresh, Preempted}
use Rattle.step_ir.specs.Setting.{highest_level}

-- the level of an entry, and 0 without one
abbrev pub level_of : Option Waiting → ℕ
level_of None = 0
level_of (Some w) = w.level

-- the scheduler's entry, without its level
abbrev pub entry_of : Waiting → Entry
entry_of w = if w.begun then Preempted w.task else Fresh w.task

-- the entries of a level, in order
abbrev pub entries_at : List Waiting → ℕ → List Entry
entries_at [] l = []
entries_at (w ∷ ws) l = if w.level == l then entry_of w ∷ entries_at ws l else entries_at ws l

-- here stands the first entry of greatest level
pub record IsHighestAt (ws : List Waiting) (i : ℕ) : Type 0 where
  pub within : i < length ws
  pub before : (k : ℕ) → k < i → level_of (slice_get ws k) < level_of (slice_get ws i)
  pub all : (k : ℕ) → k < length ws → level_of (slice_get ws k) ≤ level_of (slice_get ws i)

-- their tasks are below this number, and their levels are none above the highest
abbrev pub AreBelow : ℕ → List Waiting → Type 0
AreBelow n [] = Unit {0}
AreBelow n (w ∷ ws) = (w.task < n) × (w.level ≤ highest_level) × AreBelow n ws

-- the tasks of entries, in order
abbrev pub tasks_of : List Waiting → List ℕ
tasks_of [] = []
tasks_of (w ∷ ws) = w.task ∷ tasks_of ws

-- the first entry of greatest level was taken out
pub record IsTaken (old : List Waiting) (w : Waiting) (new : List Waiting) : Type 0 where
  pub same : entries_at old w.level ≡ entry_of w ∷ entries_at new w.level
  pub others : (l : ℕ) → (l ≡ w.level → ⊥) → entries_at old l ≡ entries_at new l
  pub above : (l : ℕ) → w.level < l → entries_at old l ≡ []
  pub counts : (t : ℕ) → times t (tasks_of old) ≡ times t (tasks_of new) + (if w.task == t then 1 else 0)
  pub below : (n : ℕ) → AreBelow n old → (w.task < n) × (w.level ≤ highest_level) × AreBelow n new
