-- The rules S1 to S14: the faults that are in a typed unit, for an application.
use Rattle.std.specs.Prelude.{ℕ, ◌+◌, ◌-◌, ◌==◌, nat_lt, Bool, true, false, not, ◌&&◌, ◌||◌, if◌then◌else◌, List, [], ◌∷◌, ◌++◌, length, map, slice_get, Option, Some, None, is_some}
use Rattle.std.specs.List.{list_any, flat_map}
use Rattle.chk_base.specs.declared.text.Name.{Name}
use Rattle.application.specs.declared.app.App.{App}
use Rattle.application.specs.declared.app.Entity.{Entity}
use Rattle.application.specs.declared.app.Resource.{Resource}
use Rattle.application.specs.declared.app.Routine.{Routine}
use Rattle.application.specs.declared.app.Task.{Task}
use Rattle.application.specs.Levels.{task_declares, routine_declares}
use Rattle.c_unit.specs.declared.unit.EntityKind.{EntityKind}
use Rattle.c_unit.specs.declared.unit.EntityKind.TheVariants as kinds
use Rattle.typed_unit.specs.declared.typed.GlobalVar.{GlobalVar}
use Rattle.typed_unit.specs.declared.typed.Local.{Local}
use Rattle.typed_unit.specs.Plain.{PlainFunction, PlainEntity, PlainUnit}
use Rattle.c_rules.specs.declared.first.Fault.{Fault}
use Rattle.c_rules.specs.First.{when}
use Rattle.oil_rules.specs.Names.{repeats}
use Rattle.static_rules.specs.declared.site.Site.{Site}
use Rattle.static_rules.specs.declared.site.Site.TheVariants as sites
use Rattle.static_rules.specs.Sites.{sites_of, function_bodies}
use Rattle.static_rules.specs.Chains.{body, any_below, all_below, called_after, reaches, reached_sites}

-- the rule on the name of a body of this kind that is no object: S1 or S2
abbrev pub nameless_rule : EntityKind → ℕ
nameless_rule kinds.Task = 1
nameless_rule kinds.Isr = 2

-- S1, S2: the name of a body is no object of its kind
abbrev pub nameless_faults : PlainEntity → List Fault
nameless_faults e = when (not (is_some e.entity)) (nameless_rule e.kind) e.name.place

abbrev pub is_kind : EntityKind → EntityKind → Bool
is_kind kinds.Task kinds.Task = true
is_kind kinds.Isr kinds.Isr = true
is_kind _ _ = false

-- the names of the bodies of this kind
abbrev pub names_of : EntityKind → List PlainEntity → List Name
names_of kind [] = []
names_of kind (e ∷ es) = if is_kind kind e.kind then e.name ∷ names_of kind es else names_of kind es

-- faults of one rule at names
abbrev pub at_names : ℕ → List Name → List Fault
at_names rule names = map (λ n. record { rule = rule; place = n.place }) names

-- S3: a body has the kind and the name of an earlier one
abbrev pub repeat_faults : EntityKind → List PlainEntity → List Fault
repeat_faults kind es = at_names 3 (repeats [] (names_of kind es))

-- the body is that of the task or routine with this number
abbrev pub is_body_of : ℕ → PlainEntity → Bool
is_body_of n e = by e.entity
  where
    by : Option Entity → Bool
    by None = false
    by (Some x) = x.0 == n

abbrev pub has_body : List PlainEntity → ℕ → Bool
has_body es n = list_any (is_body_of n) es

-- some of so many tasks or routines, from this number on, has no body
abbrev pub lacks_body : List PlainEntity → ℕ → ℕ → Bool
lacks_body es from count = any_below (λ n. not (has_body es (from + n))) count

-- S4: a task has no body
abbrev pub lacks_task : App → List PlainEntity → Bool
lacks_task app es = lacks_body es 0 (length app.tasks)

-- S5: a routine has no body; routines are numbered after the tasks
abbrev pub lacks_routine : App → List PlainEntity → Bool
lacks_routine app es = lacks_body es (length app.tasks) (length app.routines)

-- a call of this function
unfoldable pub call_faults : ℕ → Site → List Fault
call_faults g (sites.Call f place) = when (f == g) 6 place
call_faults g (sites.Use r place) = []

-- a function is called by itself or by one that it reaches
abbrev pub comes_back : List (List Site) → ℕ → ℕ → Bool
comes_back bodies g f = (f == g) || reaches bodies (body bodies g) f

-- S6 for a function g: a call of it in a function f that it reaches, or that it is
unfoldable pub returning_faults : List (List Site) → ℕ → List Fault
returning_faults bodies g = all_below (λ f. if comes_back bodies g f then flat_map (call_faults g) (body bodies f) else []) (length bodies)

-- S6
unfoldable pub recursion_faults : List (List Site) → List Fault
recursion_faults bodies = all_below (returning_faults bodies) (length bodies)

abbrev pub is_internal : Option Resource → Bool
is_internal None = false
is_internal (Some r) = r.internal

-- the number is that of the scheduler as a resource
abbrev pub is_scheduler : App → ℕ → Bool
is_scheduler app r = r == length app.resources

-- the rules on a resource in any body: S7, it is internal; S10, it is the scheduler and USERESSCHEDULER is FALSE
unfoldable pub use_faults : App → Site → List Fault
use_faults app (sites.Use r place) =
    when (is_internal (slice_get app.resources r)) 7 place ++ when (is_scheduler app r && not app.res_scheduler) 10 place
use_faults app (sites.Call f place) = []

abbrev pub task_declares_it : ℕ → Option Task → Bool
task_declares_it r None = false
task_declares_it r (Some t) = task_declares r t

abbrev pub routine_declares_it : ℕ → Option Routine → Bool
routine_declares_it r None = false
routine_declares_it r (Some i) = routine_declares r i

-- the task or routine with this number is a routine
abbrev pub is_routine : App → ℕ → Bool
is_routine app n = not (nat_lt n (length app.tasks))

-- the task or routine with this number declares the resource
abbrev pub declares : App → ℕ → ℕ → Bool
declares app n r =
    if is_routine app n
    then routine_declares_it r (slice_get app.routines (n - length app.tasks))
    else task_declares_it r (slice_get app.tasks n)

-- the rules on a resource that a task or routine reaches: S8, it doesn't declare it, and it isn't the scheduler; S9, it is a routine, and it
-- is the scheduler
unfoldable pub reached_faults : App → ℕ → Site → List Fault
reached_faults app n (sites.Use r place) =
    when (not (is_scheduler app r) && not (declares app n r)) 8 place ++ when (is_scheduler app r && is_routine app n) 9 place
reached_faults app n (sites.Call f place) = []

-- the same of the body of a task or routine
abbrev pub entity_faults : App → List (List Site) → PlainEntity → List Fault
entity_faults app bodies e = by e.entity
  where
    by : Option Entity → List Fault
    by None = []
    by (Some x) = flat_map (reached_faults app x.0) (reached_sites bodies (sites_of e.body))

-- the sites of the body of a task or routine; a body whose name is no object is none
abbrev pub first_sites : PlainEntity → List Site
first_sites e = if is_some e.entity then sites_of e.body else []

-- a call, of whatever function
unfoldable pub late_faults : Site → List Fault
late_faults (sites.Call f place) = when true 11 place
late_faults (sites.Use r place) = []

-- S11: a call in a function of which the sixteenth call of a chain is one, from the body of a task or routine
unfoldable pub chain_faults : List (List Site) → List Site → List Fault
chain_faults bodies start = all_below (λ f. if called_after bodies start 15 f then flat_map late_faults (body bodies f) else []) (length bodies)

-- these faults, where there are none of the others
abbrev pub unless_any : List Fault → List Fault → List Fault
unless_any [] fs = fs
unless_any (_ ∷ _) fs = []

-- S12: the 257th file-level variable
abbrev pub variable_faults : Option GlobalVar → List Fault
variable_faults None = []
variable_faults (Some g) = when true 12 g.name.place

-- S13: the 65th function
abbrev pub function_faults : Option PlainFunction → List Fault
function_faults None = []
function_faults (Some f) = when true 13 f.name.place

-- S14: the 33rd local or parameter
abbrev pub local_faults : Option Local → List Fault
local_faults None = []
local_faults (Some l) = when true 14 l.name.place

abbrev pub function_local_faults : PlainFunction → List Fault
function_local_faults f = local_faults (slice_get f.locals 32)

abbrev pub entity_local_faults : PlainEntity → List Fault
entity_local_faults e = local_faults (slice_get e.locals 32)

-- the rules on the sizes of a unit: S12, S13 and S14
unfoldable pub size_faults : PlainUnit → List Fault
size_faults u =
    variable_faults (slice_get u.globals 256)
    ++ (function_faults (slice_get u.functions 64)
    ++ (flat_map function_local_faults u.functions
    ++ flat_map entity_local_faults u.entities))

-- the rules on which bodies there are: S1 to S5
unfoldable pub body_faults : App → PlainUnit → List Fault
body_faults app u =
    flat_map nameless_faults u.entities
    ++ (repeat_faults kinds.Task u.entities
    ++ (repeat_faults kinds.Isr u.entities
    ++ (when (lacks_task app u.entities) 4 u.end
    ++ when (lacks_routine app u.entities) 5 u.end)))

-- the same of a body
unfoldable pub all_use_faults : App → List Site → List Fault
all_use_faults app ss = flat_map (use_faults app) ss

-- the rules on the resources of the body of a task or routine: S7 to S10
unfoldable pub body_resource_faults : App → List (List Site) → PlainEntity → List Fault
body_resource_faults app bodies e = all_use_faults app (sites_of e.body) ++ entity_faults app bodies e

-- the rules on resources: S7 to S10
unfoldable pub resource_faults : App → List (List Site) → List PlainEntity → List Fault
resource_faults app bodies es = flat_map (all_use_faults app) bodies ++ flat_map (body_resource_faults app bodies) es

-- the rules on calls: S6, and S11 where S6 is broken nowhere
unfoldable pub calling_faults : List (List Site) → List PlainEntity → List Fault
calling_faults bodies es =
    recursion_faults bodies ++ unless_any (recursion_faults bodies) (chain_faults bodies (flat_map first_sites es))

-- all rules
unfoldable pub faults : PlainUnit → App → List Fault
faults u app =
    calling_faults (function_bodies u.functions) u.entities
    ++ (resource_faults app (function_bodies u.functions) u.entities
    ++ (body_faults app u ++ size_faults u))
