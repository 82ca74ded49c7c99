-- The whole guarded program of an application and a code of the task form.
use Rattle.std.specs.Prelude.{◌≡◌, ℕ, zero, suc, ◌+◌, ◌*◌, if◌then◌else◌, ◌==◌, List, [], ◌∷◌, ◌++◌, length, map, reverse, slice_get, unwrap_or}
use Rattle.application.specs.declared.app.App.{App}
use Rattle.chk_base.specs.declared.word.Width.{Width}
use Rattle.chk_base.specs.declared.word.Width.TheVariants.{W1, W8, W32}
use Rattle.guard_prog.specs.declared.draft.Draft.{Draft}
use Rattle.guard_prog.specs.Drafts.{plain_alternatives}
use Rattle.guard_prog.specs.GuardedRun.{Program, PlainAlternative}
use Rattle.one_stack.specs.PlainCode.{PlainCode, plain_code, steps_of}
use Rattle.one_stack.specs.Rules.{Slot, On, Count, Waits, Held, Kept, Plan, point_alternatives}
use Rattle.one_stack.specs.TaskForm.{resource_count}
use Rattle.step_ir.specs.declared.code.Code.{Code}
use Rattle.step_ir.specs.declared.event.Choice.{Choice}
use Rattle.step_ir.specs.declared.event.Choice.TheVariants.{Go}
use Rattle.step_ir.specs.Agreement.{fresh_at}
use Rattle.step_ir.specs.Numbers.{times}
use Rattle.step_ir.specs.OneStackMachine.{Stacked, Frame, whos, start}
use Rattle.step_ir.specs.PointStep.{Bits}
use Rattle.step_ir.specs.SchedulerState.{Entry, Fresh, Preempted}
use Rattle.step_ir.specs.Setting.{Setting, setting_of}

-- the sum of the values at the numbers below n
abbrev pub sum_below : ℕ → (ℕ → ℕ) → ℕ
sum_below zero f = 0
sum_below (suc n) f = sum_below n f + f n

-- the values at the numbers below n, in order
abbrev pub table : {A : Type 0} → ℕ → (ℕ → A) → List A
table zero f = []
table (suc n) f = table n f ++ f n ∷ []

-- the lists at the numbers below n, in order
abbrev pub concat_below : {A : Type 0} → ℕ → (ℕ → List A) → List A
concat_below zero f = []
concat_below (suc n) f = concat_below n f ++ f n

-- the task of an entry
abbrev pub task_of : Entry → ℕ
task_of (Fresh t) = t
task_of (Preempted t) = t

-- the mark at place i of a list of requests, and 0 behind them
abbrev pub mark_at : (ℕ → ℕ) → List Entry → ℕ → ℕ
mark_at mark [] i = 0
mark_at mark (e ∷ es) zero = mark (task_of e)
mark_at mark (e ∷ es) (suc i) = mark_at mark es i

-- how often a resource is held
abbrev pub held_times : ℕ → List (Frame ℕ) → ℕ
held_times r [] = 0
held_times r (f ∷ fs) = times r f.held + held_times r fs

-- the resources of an entity on the stack
abbrev pub held_of : ℕ → List (Frame ℕ) → List ℕ
held_of e [] = []
held_of e (f ∷ fs) = if f.who == e then f.held else held_of e fs

-- the resource at place i of a list, with 1 added, and 0 behind them
abbrev pub kept_at : List ℕ → ℕ → ℕ
kept_at [] i = 0
kept_at (r ∷ rs) zero = r + 1
kept_at (r ∷ rs) (suc i) = kept_at rs i

-- what a slot holds in a state of the machine
abbrev pub view : Setting → Plan → Stacked ℕ Bits → Slot → ℕ
view app plan m (On x) = times x (whos m.stack)
view app plan m (Count t) = times t (whos m.stack) + times t m.fresh
view app plan m (Waits l i) = mark_at plan.mark (fresh_at app l m.fresh) i
view app plan m (Held r) = held_times r m.stack
view app plan m (Kept e i) = kept_at (held_of e m.stack) i

-- the points of a stack, the top first, with the idle point at the bottom
abbrev pub places : Plan → List (Frame ℕ) → List ℕ
places plan [] = 0 ∷ []
places plan (f ∷ fs) = plan.number f.who f.state ∷ places plan fs

-- every step goes on without a word
abbrev pub go_alone : ℕ → ℕ → Choice
go_alone label word = Go

module _ (app : Setting) (code : PlainCode) (resources : ℕ) where
  -- the places of a level: as many as its tasks may have requests
  abbrev pub room_of : ℕ → ℕ
  room_of l = sum_below app.entities (λ t. if app.level t == l then app.limit t else 0)

  -- the points of the entities before this one
  abbrev pub points_before : ℕ → ℕ
  points_before e = sum_below e (λ x. length (code.points x))

  -- the cell of a slot: the code's cells come first, and then the slots, kind after kind
  abbrev pub place_of : Slot → ℕ
  place_of (On x) = code.cells + x
  place_of (Count t) = code.cells + (app.entities + t)
  place_of (Waits l i) = code.cells + (app.entities + (app.entities + (sum_below l room_of + i)))
  place_of (Held r) = code.cells + (app.entities + (app.entities + (sum_below (app.top + 1) room_of + r)))
  place_of (Kept e i) =
      code.cells + (app.entities + (app.entities + (sum_below (app.top + 1) room_of + (resources + (sum_below e (λ x. resources) + i)))))

  -- where things stand: point n of e comes after the idle point and the points of the entities before e, and e has every label that is 1 + e modulo the number of entities
  abbrev pub plan_of : Plan
  plan_of =
      record {
        place = place_of;
        mark = λ t. t + 1;
        room = room_of;
        number = λ e n. 1 + (points_before e + n);
        label = λ e k. 1 + (e + app.entities * k);
        tasks = app.entities;
        resources = resources;
      }

  -- the widths of the cells
  abbrev pub widths_of : List Width
  widths_of =
      table code.cells code.width
      ++ (table app.entities (λ x. W1) ++ (table app.entities (λ t. W8)
      ++ (table (sum_below (app.top + 1) room_of) (λ q. W8) ++ (table resources (λ q. W1) ++ table (sum_below app.entities (λ x. resources)) (λ q. W8)))))

  -- the width of the cell with this number
  abbrev pub width_of : ℕ → Width
  width_of q = unwrap_or (slice_get widths_of q) W32

  -- the machine at the start
  abbrev pub first_state : Stacked ℕ Bits
  first_state = start app (steps_of code) code.start

  -- the start values of the cells
  abbrev pub starts_of : List ℕ
  starts_of =
      table code.cells code.start
      ++ (table app.entities (λ x. view app plan_of first_state (On x))
      ++ (table app.entities (λ t. view app plan_of first_state (Count t))
      ++ (concat_below (app.top + 1) (λ l. table (room_of l) (λ i. view app plan_of first_state (Waits l i)))
      ++ (table resources (λ q. view app plan_of first_state (Held q))
      ++ concat_below app.entities (λ e. table resources (λ i. view app plan_of first_state (Kept e i)))))))

  -- the stack at the start, the bottom first
  abbrev pub first_of : List ℕ
  first_of = reverse (places plan_of first_state.stack)

  -- the points of an entity
  abbrev pub entity_points : ℕ → List (List PlainAlternative)
  entity_points e = map (point_alternatives app plan_of width_of e) (code.points e)

  -- all points: the idle one, at which no turn is taken, and those of the entities in their order
  abbrev pub points_of : List (List PlainAlternative)
  points_of = [] ∷ concat_below app.entities entity_points

  -- the whole program
  abbrev pub built : Program
  built =
      record {
        width = width_of;
        starts = λ q. unwrap_or (slice_get starts_of q) 0;
        first = first_of;
        points = λ i. unwrap_or (slice_get points_of i) [];
        depth = app.entities;
      }

  -- the draft is that program
  pub record IsBuilt (draft : Draft) : Type 0 where
    pub widths : draft.widths ≡ widths_of
    pub starts : draft.starts ≡ starts_of
    pub first : draft.first ≡ first_of
    pub points : map plain_alternatives draft.points ≡ points_of
    pub depth : draft.depth ≡ app.entities

-- the draft is the program of an application and a code
abbrev pub IsBuiltOf : App → Code → Draft → Type 0
IsBuiltOf app code draft = IsBuilt (setting_of app) (plain_code code) (resource_count app) draft
