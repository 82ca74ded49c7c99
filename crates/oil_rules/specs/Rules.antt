-- The rules that an OIL text has to meet: a test for each, and the faults of a tree. A fault is the number of a rule and a place.
use Rattle.std.specs.Prelude.{ℕ, Bool, true, false, not, ◌&&◌, ◌||◌, if◌then◌else◌, List, [], ◌∷◌, ◌++◌, length, nat_lt, map, drop, find, Option, Some, None, codes}
use Rattle.std.specs.List.{list_any, flat_map, filter}
use Rattle.std.specs.Option.{option_map}
use Rattle.std.specs.Str.{bytes_eq}
use Rattle.chk_base.specs.declared.place.Place.{Place}
use Rattle.chk_base.specs.declared.text.Name.{Name}
use Rattle.oil_tree.specs.declared.tree.Attribute.{Attribute}
use Rattle.oil_tree.specs.declared.tree.Value.{Value}
use Rattle.oil_tree.specs.declared.tree.Item.{Item}
use Rattle.oil_tree.specs.declared.tree.Item.TheVariants as items
use Rattle.oil_tree.specs.declared.tree.OilTree.{OilTree}
use Rattle.oil_tree.specs.Listed.{listed}
use Rattle.oil_rules.specs.declared.kind.Kind.{Kind}
use Rattle.oil_rules.specs.declared.kind.Kind.TheVariants as kinds
use Rattle.oil_rules.specs.declared.role.Role.{Role}
use Rattle.oil_rules.specs.declared.role.Role.TheVariants as roles
use Rattle.oil_rules.specs.declared.group.Group.TheVariants as groups
use Rattle.oil_rules.specs.declared.known.Known.{Known}
use Rattle.oil_rules.specs.declared.first.Fault.{Fault}
use Rattle.oil_rules.specs.Kinds.{kind_of, is_task, is_routine, is_resource_kind, is_scheduler}
use Rattle.oil_rules.specs.Roles.{role_of, is_role, is_hook, is_single}
use Rattle.oil_rules.specs.Values.{is_name, is_word, is_integer, is_between, has_form}
use Rattle.oil_rules.specs.Names.{has_name, repeats}
use Rattle.oil_rules.specs.Objects.{role_in, has_attribute, names_in}
use Rattle.oil_rules.specs.Known.{known_of}

-- the fault, where the rule is broken
abbrev pub when : Bool → ℕ → Place → List Fault
when true rule place = record { rule = rule; place = place } ∷ []
when false rule place = []

-- faults of one rule at names
abbrev pub at_names : ℕ → List Name → List Fault
at_names rule names = map (λ n. record { rule = rule; place = n.place }) names

-- A1: the kind is none of OIL
abbrev pub is_unknown : Kind → Bool
is_unknown kinds.Unknown = true
is_unknown _ = false

-- A2: an EVENT object
abbrev pub is_event : Kind → Bool
is_event kinds.Event = true
is_event _ = false

-- A3: an ALARM object
abbrev pub is_alarm : Kind → Bool
is_alarm kinds.Alarm = true
is_alarm _ = false

-- A4: a MESSAGE object
abbrev pub is_message : Kind → Bool
is_message kinds.Message = true
is_message _ = false

-- A5: a COM, NM, NETWORKMESSAGE or IPDU object
abbrev pub is_communication : Kind → Bool
is_communication kinds.Com = true
is_communication kinds.Nm = true
is_communication kinds.NetworkMessage = true
is_communication kinds.Ipdu = true
is_communication _ = false

-- the rules on kinds, with the place of the kind
unfoldable pub kind_faults : Kind → Place → List Fault
kind_faults kind place =
    when (is_unknown kind) 1 place
    ++ (when (is_event kind) 2 place
    ++ (when (is_alarm kind) 3 place
    ++ (when (is_message kind) 4 place
    ++ when (is_communication kind) 5 place)))

-- A7: a hook is TRUE
abbrev pub sets_hook : Role → Value → Bool
sets_hook role v = is_hook role && is_word v (codes "TRUE")

-- A8: the category is 1
abbrev pub is_first_category : Role → Value → Bool
is_first_category role v = is_role role roles.Category && is_between 1 1 v

-- A9: the resource is LINKED
abbrev pub is_linked : Role → Value → Bool
is_linked role v = is_role role roles.ResourceProperty && is_word v (codes "LINKED")

-- A14: an integer is out of its range: the priority of a task 0 to 63, of a routine 1 to 16, ACTIVATION 1 to 8, CATEGORY 1 or 2
unfoldable pub is_out_of_range : Kind → Role → Value → Bool
is_out_of_range kind roles.Priority v =
    is_integer v && not (if is_task kind then is_between 0 63 v else is_between 1 16 v)
is_out_of_range kind roles.Activation v = is_integer v && not (is_between 1 8 v)
is_out_of_range kind roles.Category v = is_integer v && not (is_between 1 2 v)
is_out_of_range kind _ v = false

-- the rules on an attribute by itself: A2 and A4 with the place of its name, A7, A8, A9, A13 and A14 with that of its value
unfoldable pub value_faults : Kind → Role → Attribute → List Fault
value_faults kind role a =
    when (is_role role roles.Event) 2 a.name.place
    ++ (when (is_role role roles.Message) 4 a.name.place
    ++ (when (sets_hook role a.value) 7 a.value.place
    ++ (when (is_first_category role a.value) 8 a.value.place
    ++ (when (is_linked role a.value) 9 a.value.place
    ++ (when (not (has_form role a.value)) 13 a.value.place
    ++ when (is_out_of_range kind role a.value) 14 a.value.place)))))

-- a resource is named
abbrev pub names_resource : Role → Value → Bool
names_resource role v = is_role role roles.Resource && is_name v

-- A15: a resource is named that is none
abbrev pub is_no_resource : Known → Role → Value → Bool
is_no_resource known role v =
    names_resource role v && (not (has_name known.resources v.text) && not (is_scheduler v.text))

-- an internal resource is named
abbrev pub names_internal : Known → Role → Value → Bool
names_internal known role v = names_resource role v && has_name known.internals v.text

-- A20: it is another internal resource than the first that the task names
abbrev pub is_second_internal : Known → Kind → Option (List ℕ) → Role → Value → Bool
is_second_internal known kind None role v = false
is_second_internal known kind (Some internal) role v =
    is_task kind && (names_internal known role v && not (bytes_eq v.text internal))

-- A21: a routine names an internal resource
abbrev pub is_internal_of_routine : Known → Kind → Role → Value → Bool
is_internal_of_routine known kind role v = is_routine kind && names_internal known role v

-- A22: a routine names RES_SCHEDULER, or a task where there is none
abbrev pub is_forbidden_scheduler : Known → Kind → Role → Value → Bool
is_forbidden_scheduler known kind role v =
    names_resource role v && (is_scheduler v.text && (is_routine kind || known.no_scheduler))

-- the rules on an attribute that names a resource: A15, A20, A21 and A22, with the place of its value
unfoldable pub resource_faults : Known → Kind → Option (List ℕ) → Role → Value → List Fault
resource_faults known kind internal role v =
    when (is_no_resource known role v) 15 v.place
    ++ (when (is_second_internal known kind internal role v) 20 v.place
    ++ (when (is_internal_of_routine known kind role v) 21 v.place
    ++ when (is_forbidden_scheduler known kind role v) 22 v.place))

-- the attribute starts its task
abbrev pub starts : Role → Value → Bool
starts role v = is_role role roles.Autostart && is_word v (codes "TRUE")

-- an attribute inside AUTOSTART that names a mode
unfoldable pub is_mode_attribute : Attribute → Bool
is_mode_attribute a = bytes_eq a.name.text (codes "APPMODE")

-- A16: a mode is named that is none
abbrev pub is_no_mode : Known → Value → Bool
is_no_mode known v = is_name v && not (has_name known.modes v.text)

-- the rules on an attribute inside AUTOSTART: A13 and A16, with the place of its value
unfoldable pub mode_faults : Known → Attribute → List Fault
mode_faults known a =
    when (is_mode_attribute a && not (is_name a.value)) 13 a.value.place
    ++ when (is_mode_attribute a && is_no_mode known a.value) 16 a.value.place

-- A17, AUTOSTART is TRUE without a mode, with the place of its value, and the rules on what is inside
unfoldable pub start_faults : Known → Role → Attribute → List Fault
start_faults known role a =
    if starts role a.value
    then when (not (list_any is_mode_attribute (listed a.nested))) 17 a.value.place ++ flat_map (mode_faults known) (listed a.nested)
    else []

-- the rules on an attribute directly in an object, whose first internal resource is this
unfoldable pub attribute_faults : Known → Kind → Option (List ℕ) → Attribute → List Fault
attribute_faults known kind internal a =
    value_faults kind (role_in kind a) a
    ++ (resource_faults known kind internal (role_in kind a) a.value
    ++ start_faults known (role_in kind a) a)

-- the first internal resource that the object names
abbrev pub internal_of : Known → Kind → List Attribute → Option (List ℕ)
internal_of known kind attributes =
    option_map (λ a. a.value.text) (find (λ a. names_internal known (role_in kind a) a.value) attributes)

-- the category of the routine is 2
abbrev pub has_second_category : Kind → List Attribute → Bool
has_second_category kind attributes =
    list_any (λ a. is_role (role_in kind a) roles.Category && is_between 2 2 a.value) attributes

-- A12: an attribute is missing
unfoldable pub lacks_attribute : Kind → List Attribute → Bool
lacks_attribute kinds.Task attributes =
    not (has_attribute kinds.Task roles.Priority attributes)
    || (not (has_attribute kinds.Task roles.Schedule attributes)
    || (not (has_attribute kinds.Task roles.Activation attributes)
    || not (has_attribute kinds.Task roles.Autostart attributes)))
lacks_attribute kinds.Isr attributes =
    not (has_attribute kinds.Isr roles.Category attributes)
    || (has_second_category kinds.Isr attributes && not (has_attribute kinds.Isr roles.Priority attributes))
lacks_attribute kinds.Resource attributes = not (has_attribute kinds.Resource roles.ResourceProperty attributes)
lacks_attribute _ attributes = false

-- the names of the attributes that may stand only once
abbrev pub single_names : Kind → List Attribute → List Name
single_names kind attributes =
    flat_map (λ a. if is_single (role_in kind a) then a.name ∷ [] else []) attributes

-- the object is passed over: a RESOURCE named RES_SCHEDULER
abbrev pub is_passed_over : Kind → List ℕ → Bool
is_passed_over kind name = is_resource_kind kind && is_scheduler name

-- the rules on an object with attributes: A11, an attribute stands twice, A12 with the object's name, and the rules on each attribute
unfoldable pub object_faults : Known → Kind → Name → List Attribute → List Fault
object_faults known kind name attributes =
    when (lacks_attribute kind attributes) 12 name.place
    ++ (flat_map (attribute_faults known kind (internal_of known kind attributes)) attributes
    ++ at_names 11 (repeats [] (single_names kind attributes)))

-- the rules on an object, and A6, an include inside the CPU section
abbrev pub item_faults : Known → Item → List Fault
item_faults known (items.Object kind name attributes) =
    if is_passed_over (kind_of kind.text) name.text
    then []
    else kind_faults (kind_of kind.text) kind.place ++ object_faults known (kind_of kind.text) name (listed attributes)
item_faults known (items.Include place) = when true 6 place

-- A18: there is no mode
abbrev pub lacks_modes : Known → Bool
lacks_modes known = not (nat_lt 0 (length known.modes))

-- A19: the mode asked for is none, and there is one
abbrev pub lacks_mode : Known → Option (List ℕ) → Bool
lacks_mode known None = false
lacks_mode known (Some mode) = nat_lt 0 (length known.modes) && not (has_name known.modes mode)

-- the rules on modes, with the place of the CPU's name
unfoldable pub cpu_faults : Known → Option (List ℕ) → Place → List Fault
cpu_faults known mode place = when (lacks_modes known) 18 place ++ when (lacks_mode known mode) 19 place

-- A10, an object of a name that is taken, or a second OS; A23, a seventeenth task or routine; A24, a seventeenth resource
unfoldable pub count_faults : List Item → List Fault
count_faults these =
    at_names 10 (repeats [] (names_in groups.Named these))
    ++ (at_names 10 (repeats [] (names_in groups.Modes these))
    ++ (at_names 10 (drop 1 (names_in groups.Systems these))
    ++ (at_names 23 (drop 16 (names_in groups.Entities these))
    ++ at_names 24 (drop 16 (names_in groups.Resources these)))))

-- the faults of a tree, with the mode that is asked for, if one is
unfoldable pub faults : OilTree → Option (List ℕ) → List Fault
faults tree mode =
    cpu_faults (known_of tree.items) mode tree.cpu.place
    ++ (flat_map (item_faults (known_of tree.items)) tree.items
    ++ count_faults tree.items)
