-- The application that the tree of an OIL text describes.
use Rattle.std.specs.Prelude.{ℕ, ◌+◌, Bool, true, false, not, ◌&&◌, ◌||◌, if◌then◌else◌, nat_lt, List, [], ◌∷◌, ◌++◌, map, filter, fold, find, slice_get, unwrap_or, Option, Some, None, codes}
use Rattle.std.specs.List.{list_any, flat_map, position_or_len}
use Rattle.std.specs.Option.{option_map, option_map_or}
use Rattle.std.specs.Str.{bytes_eq}
use Rattle.chk_base.specs.declared.place.Place.{Place}
use Rattle.oil_tree.specs.declared.tree.Attribute.{Attribute}
use Rattle.oil_tree.specs.declared.tree.Item.{Item}
use Rattle.oil_tree.specs.declared.tree.Item.TheVariants as items
use Rattle.oil_tree.specs.declared.tree.OilTree.{OilTree}
use Rattle.oil_tree.specs.Listed.{listed}
use Rattle.oil_rules.specs.declared.kind.Kind.{Kind}
use Rattle.oil_rules.specs.declared.kind.Kind.TheVariants as kinds
use Rattle.oil_rules.specs.declared.role.Role.{Role}
use Rattle.oil_rules.specs.declared.role.Role.TheVariants as roles
use Rattle.oil_rules.specs.declared.known.Known.{Known}
use Rattle.oil_rules.specs.Kinds.{kind_of, is_task, is_routine}
use Rattle.oil_rules.specs.Roles.{is_role}
use Rattle.oil_rules.specs.Values.{is_word, number_of}
use Rattle.oil_rules.specs.Names.{has_name}
use Rattle.oil_rules.specs.Objects.{role_in, has_set, is_resource}
use Rattle.oil_rules.specs.Known.{known_of}
use Rattle.oil_rules.specs.Rules.{names_resource, internal_of, starts, is_mode_attribute, is_passed_over}
use Rattle.application.specs.declared.app.App.{App}
use Rattle.application.specs.declared.app.Note.{Note}
use Rattle.application.specs.declared.app.Resource.{Resource}
use Rattle.application.specs.declared.app.Routine.{Routine}
use Rattle.application.specs.declared.app.Task.{Task}
use Rattle.application.specs.Levels.{task_level, routine_level, has_number, run_level_among, ceiling_among, class_of}

-- the number that the first attribute of this role sets, and 0 without one
abbrev pub number_set : Kind → Role → List Attribute → ℕ
number_set kind role attributes =
    option_map_or (λ a. number_of a.value.text) (find (λ a. is_role (role_in kind a) role) attributes) 0

-- the mode is named inside AUTOSTART
abbrev pub names_mode : List ℕ → Attribute → Bool
names_mode mode a = is_mode_attribute a && bytes_eq a.value.text mode

-- the attribute starts its task in this mode
abbrev pub starts_in : Kind → List ℕ → Attribute → Bool
starts_in kind mode a = starts (role_in kind a) a.value && list_any (names_mode mode) (listed a.nested)

-- the number of a resource: its place among those that count, and how many there are for every other, as for RES_SCHEDULER
abbrev pub resource_number : Known → List ℕ → ℕ
resource_number known name = position_or_len (bytes_eq name) known.resources

-- the attribute names a standard resource or RES_SCHEDULER
abbrev pub names_standard : Known → Kind → Attribute → Bool
names_standard known kind a =
    names_resource (role_in kind a) a.value && not (has_name known.internals a.value.text)

-- the number of the standard resource that the attribute names, if it names one
abbrev pub reference : Known → Kind → Attribute → List ℕ
reference known kind a = if names_standard known kind a then resource_number known a.value.text ∷ [] else []

-- the list with this number, which goes last where it is new
abbrev pub with_number : List ℕ → ℕ → List ℕ
with_number numbers n = if has_number numbers n then numbers else numbers ++ n ∷ []

-- the numbers of the standard resources that the object names, each once, in the order of the text
unfoldable pub declares : Known → Kind → List Attribute → List ℕ
declares known kind attributes = fold with_number [] (flat_map (reference known kind) attributes)

-- the number of the internal resource that the object names
abbrev pub internal : Known → Kind → List Attribute → Option ℕ
internal known kind attributes = option_map (resource_number known) (internal_of known kind attributes)

-- a task, whose run level isn't known yet
unfoldable pub task_of : Known → List ℕ → List ℕ → List Attribute → Task
task_of known mode name attributes =
    record {
      name = name;
      priority = number_set kinds.Task roles.Priority attributes;
      level = task_level (number_set kinds.Task roles.Priority attributes);
      run_level = task_level (number_set kinds.Task roles.Priority attributes);
      non_preemptive = has_set kinds.Task roles.Schedule (codes "NON") attributes;
      requests = number_set kinds.Task roles.Activation attributes;
      autostart = list_any (starts_in kinds.Task mode) attributes;
      declares = declares known kinds.Task attributes;
      internal = internal known kinds.Task attributes;
    }

-- a routine
unfoldable pub routine_of : Known → List ℕ → List Attribute → Routine
routine_of known name attributes =
    record {
      name = name;
      priority = number_set kinds.Isr roles.Priority attributes;
      level = routine_level (number_set kinds.Isr roles.Priority attributes);
      declares = declares known kinds.Isr attributes;
    }

-- a resource, whose ceiling isn't known yet
unfoldable pub resource_of : List ℕ → List Attribute → Resource
resource_of name attributes =
    record { name = name; internal = has_set kinds.Resource roles.ResourceProperty (codes "INTERNAL") attributes; ceiling = 0 }

-- the task that the item is
abbrev pub task_in : Known → List ℕ → Item → List Task
task_in known mode (items.Object kind name attributes) =
    if is_task (kind_of kind.text) then task_of known mode name.text (listed attributes) ∷ [] else []
task_in known mode (items.Include place) = []

-- the routine that the item is
abbrev pub routine_in : Known → Item → List Routine
routine_in known (items.Object kind name attributes) =
    if is_routine (kind_of kind.text) then routine_of known name.text (listed attributes) ∷ [] else []
routine_in known (items.Include place) = []

-- the resource that the item is; one named RES_SCHEDULER is none
abbrev pub resource_in : Item → List Resource
resource_in (items.Object kind name attributes) =
    if is_resource (kind_of kind.text) name.text then resource_of name.text (listed attributes) ∷ [] else []
resource_in (items.Include place) = []

-- the tasks with their run levels
abbrev pub leveled : List Task → List Task
leveled tasks = map (λ (t : Task). record t { run_level = run_level_among tasks t }) tasks

-- resources, the first of which has this number, with their ceilings
abbrev pub ceiled : List Task → List Routine → ℕ → List Resource → List Resource
ceiled tasks routines n [] = []
ceiled tasks routines n (r ∷ rs) =
    record r { ceiling = ceiling_among tasks routines n } ∷ ceiled tasks routines (n + 1) rs

-- the mode: that which is asked for, and else the first one
abbrev pub chosen_mode : Known → Option (List ℕ) → List ℕ
chosen_mode known None = unwrap_or (slice_get known.modes 0) []
chosen_mode known (Some mode) = mode

-- the note, where there is something to note
abbrev pub note_if : Bool → ℕ → Place → List Note
note_if true number place = record { number = number; place = place } ∷ []
note_if false number place = []

-- a kind of object that is passed over
abbrev pub is_counter : Kind → Bool
is_counter kinds.Counter = true
is_counter _ = false

-- a kind of object whose attributes are looked at
abbrev pub has_attributes : Kind → Bool
has_attributes kinds.Os = true
has_attributes kinds.Task = true
has_attributes kinds.Isr = true
has_attributes kinds.Resource = true
has_attributes kinds.Appmode = true
has_attributes _ = false

-- N2, an attribute that isn't standard in its object, with the place of its name; N6, STATUS is STANDARD, with the place of the value
unfoldable pub attribute_notes : Kind → Attribute → List Note
attribute_notes kind a =
    note_if (is_role (role_in kind a) roles.Vendor) 2 a.name.place
    ++ note_if (is_role (role_in kind a) roles.Status && is_word a.value (codes "STANDARD")) 6 a.value.place

-- N1, a COUNTER object; N5, a RESOURCE object named RES_SCHEDULER, both with the place of the kind; and the notes of the attributes
unfoldable pub object_notes : Kind → Place → List ℕ → List Attribute → List Note
object_notes kind place name attributes =
    note_if (is_counter kind) 1 place
    ++ (note_if (is_passed_over kind name) 5 place
    ++ (if has_attributes kind then flat_map (attribute_notes kind) attributes else []))

-- the notes of an item
abbrev pub item_notes : Item → List Note
item_notes (items.Object kind name attributes) =
    object_notes (kind_of kind.text) kind.place name.text (listed attributes)
item_notes (items.Include place) = []

-- N3, an include before the CPU section, with the place of its `#`
abbrev pub include_notes : List Place → List Note
include_notes places = map (λ p. record { number = 3; place = p }) places

-- the notes before the CPU section: those of the includes, and N4, an IMPLEMENTATION section, at its place among them
abbrev pub head_notes : List Place → Option Place → List Note
head_notes includes None = include_notes includes
head_notes includes (Some i) =
    include_notes (filter (λ p. nat_lt p.offset i.offset) includes)
    ++ (record { number = 4; place = i }
    ∷ include_notes (filter (λ p. not (nat_lt p.offset i.offset)) includes))

-- the application of a tree that breaks no rule, in the mode that is asked for, and else in the first one
unfoldable pub application : OilTree → Option (List ℕ) → App
application tree mode =
    let known = known_of tree.items in
    let tasks = leveled (flat_map (task_in known (chosen_mode known mode)) tree.items) in
    let routines = flat_map (routine_in known) tree.items in
    record {
      tasks = tasks;
      routines = routines;
      resources = ceiled tasks routines 0 (flat_map resource_in tree.items);
      res_scheduler = not known.no_scheduler;
      class = class_of tasks;
      mode = chosen_mode known mode;
      notes = head_notes tree.includes tree.implementation ++ flat_map item_notes tree.items;
    }
