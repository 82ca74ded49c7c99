-- Levels, run levels, ceilings and the class of an application (OSEK OS 2.2.3, 3.2, 4.5, 8.5).
use Rattle.std.specs.Prelude.{ℕ, ◌+◌, max, Bool, false, ◌||◌, if◌then◌else◌, nat_lt, ◌==◌, List, [], ◌∷◌, ◌++◌, map, filter, Option, Some, None}
use Rattle.std.specs.List.{list_any}
use Rattle.application.specs.declared.app.Class.{Class}
use Rattle.application.specs.declared.app.Class.TheVariants.{Bcc1, Bcc2}
use Rattle.application.specs.declared.app.Task.{Task}
use Rattle.application.specs.declared.app.Routine.{Routine}
use Rattle.application.specs.declared.app.App.{App}

-- the level of a task of this priority; level 0 is idle
abbrev pub task_level : ℕ → ℕ
task_level priority = priority + 1

-- the level of a routine of this priority, above that of every task
abbrev pub routine_level : ℕ → ℕ
routine_level priority = 64 + priority

-- the greatest number of a list, and 0 for the empty list
abbrev pub greatest : List ℕ → ℕ
greatest [] = 0
greatest (n ∷ ns) = max n (greatest ns)

-- the levels of tasks
abbrev pub levels_of : List Task → List ℕ
levels_of tasks = map (λ t. t.level) tasks

-- the levels of routines
abbrev pub routine_levels_of : List Routine → List ℕ
routine_levels_of routines = map (λ r. r.level) routines

-- the highest level of a task
abbrev pub highest_task_level : App → ℕ
highest_task_level app = greatest (levels_of app.tasks)

-- a number is in a list
abbrev pub has_number : List ℕ → ℕ → Bool
has_number numbers n = list_any (λ m. m == n) numbers

-- it is this number
abbrev pub is_number : Option ℕ → ℕ → Bool
is_number None n = false
is_number (Some m) n = m == n

-- a task declares a resource, as an internal one or another
abbrev pub task_declares : ℕ → Task → Bool
task_declares r t = has_number t.declares r || is_number t.internal r

-- a routine declares a resource
abbrev pub routine_declares : ℕ → Routine → Bool
routine_declares r i = has_number i.declares r

-- the ceiling of a resource: the greatest level of those of these tasks and routines that declare it
abbrev pub ceiling_among : List Task → List Routine → ℕ → ℕ
ceiling_among tasks routines r =
    greatest (levels_of (filter (task_declares r) tasks) ++ routine_levels_of (filter (routine_declares r) routines))

-- the same in an application
abbrev pub ceiling_of : App → ℕ → ℕ
ceiling_of app r = ceiling_among app.tasks app.routines r

-- the greatest level of those of these tasks that declare this internal resource, and the own level without one
abbrev pub internal_among : List Task → ℕ → Option ℕ → ℕ
internal_among tasks own None = own
internal_among tasks own (Some r) = greatest (levels_of (filter (λ t. is_number t.internal r) tasks))

-- the same in an application
abbrev pub internal_level : App → ℕ → Option ℕ → ℕ
internal_level app own internal = internal_among app.tasks own internal

-- the run level of a task among these: a non-preemptive one has the highest of all
abbrev pub run_level_among : List Task → Task → ℕ
run_level_among tasks t = if t.non_preemptive then greatest (levels_of tasks) else internal_among tasks t.level t.internal

-- the same in an application
abbrev pub run_level_of : App → Task → ℕ
run_level_of app t = run_level_among app.tasks t

-- some task may have more than one request
abbrev pub has_many_requests : List Task → Bool
has_many_requests tasks = list_any (λ t. nat_lt 1 t.requests) tasks

-- two tasks have one priority
abbrev pub shares_priority : List Task → Bool
shares_priority [] = false
shares_priority (t ∷ ts) = list_any (λ u. u.priority == t.priority) ts || shares_priority ts

-- the conformance class: the second exactly where some task may have many requests or two tasks have one priority
abbrev pub class_of : List Task → Class
class_of tasks = if has_many_requests tasks || shares_priority tasks then Bcc2 else Bcc1
