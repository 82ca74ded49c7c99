-- Where things stand in the program of an application, from tables of a few numbers.
use Rattle.std.specs.Prelude.{ℕ, ◌+◌, ◌*◌, ◌≤◌, List, [], Some, slice_index}
use Rattle.application.specs.declared.app.App.{App}
use Rattle.chk_base.specs.declared.word.Width.{Width}
use Rattle.one_stack.specs.Built.{sum_below}
use Rattle.one_stack.specs.Cells.{width_at}
use Rattle.chk_base.specs.Term.{Term}
use Rattle.guard_prog.specs.declared.draft.Control.TheVariants.{Push}
use Rattle.one_stack.specs.Rules.{Slot, On, Count, Waits, Held, Kept, Plan, Rule, change_sets, guarded, may_push, next_rules, none_held, pushed, released}
use Rattle.step_ir.specs.Setting.{Setting, setting_of}

-- the application, how many cells the code has, how many entities and resources there are, how many places each level has, how many points each entity, and the widths of the program's cells
pub record Tables : Type 0 where
  pub app : App
  pub cells : ℕ
  pub entities : ℕ
  pub resources : ℕ
  pub rooms : List ℕ
  pub counts : List ℕ
  pub widths : List Width

-- the setting of the application; it unfolds only where a proof says so
unfoldable pub seen : Tables → Setting
seen t = setting_of t.app

-- how many places a level has
abbrev pub room_in : Tables → ℕ → ℕ
room_in t l = slice_index t.rooms l

-- how many points an entity has
abbrev pub count_in : Tables → ℕ → ℕ
count_in t e = slice_index t.counts e

-- the width of a cell
abbrev pub width_in : Tables → ℕ → Width
width_in t q = width_at t.widths q

-- the cell of a slot
abbrev pub place_in : Tables → Slot → ℕ
place_in t (On x) = t.cells + x
place_in t (Count x) = t.cells + (t.entities + x)
place_in t (Waits l i) = t.cells + (t.entities + (t.entities + (sum_below l (room_in t) + i)))
place_in t (Held r) = t.cells + (t.entities + (t.entities + (sum_below ((seen t).top + 1) (room_in t) + r)))
place_in t (Kept e i) =
    t.cells + (t.entities + (t.entities + (sum_below ((seen t).top + 1) (room_in t) + (t.resources + (sum_below e (λ x. t.resources) + i)))))

-- where things stand
abbrev pub plan_in : Tables → Plan
plan_in t =
    record {
      place = place_in t;
      mark = λ x. x + 1;
      room = room_in t;
      number = λ e n. 1 + (sum_below e (count_in t) + n);
      label = λ e k. 1 + (e + t.entities * k);
      tasks = t.entities;
      resources = t.resources;
    }

-- the numbers are so small that all places and points have numbers of 16 bits
pub record AreSmall (t : Tables) : Type 0 where
  pub cells : t.cells ≤ 8192
  pub entities : t.entities ≤ 16
  pub resources : t.resources ≤ 17
  pub rooms : (l : ℕ) → room_in t l ≤ 128
  pub counts : (e : ℕ) → sum_below e (count_in t) ≤ 2048

-- the rules of a task x that starts at once where e activates it
abbrev pub pushed_rules : Tables → ℕ → ℕ → List (Term × ℕ) → List Rule
pushed_rules tables e x nexts =
    let app = seen tables in
    let plan = plan_in tables in
    guarded (none_held app plan (app.level x))
    (next_rules app plan (width_in tables) [] (change_sets app plan (pushed x)) (λ n. Push (plan.number e n) (plan.number x 0)) nexts)

-- the rules of a task t that starts where e releases r
abbrev pub released_rules : Tables → ℕ → ℕ → ℕ → List (Term × ℕ) → List Rule
released_rules tables e r t nexts =
    let app = seen tables in
    let plan = plan_in tables in
    guarded (may_push app plan r t)
    (next_rules app plan (width_in tables) [] (change_sets app plan (released e r (Some t))) (λ n. Push (plan.number e n) (plan.number t 0)) nexts)
