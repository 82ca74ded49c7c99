-- The objects of a CPU section, asked for by group.
use Rattle.std.specs.Prelude.{ℕ, Bool, true, false, not, ◌&&◌, ◌||◌, if◌then◌else◌, List, [], ◌∷◌, map, codes}
use Rattle.std.specs.List.{list_any, flat_map}
use Rattle.chk_base.specs.declared.text.Name.{Name}
use Rattle.oil_tree.specs.declared.tree.Attribute.{Attribute}
use Rattle.oil_tree.specs.declared.tree.Item.{Item}
use Rattle.oil_tree.specs.declared.tree.Item.TheVariants as items
use Rattle.oil_tree.specs.PlainAttributes.{PlainAttributes}
use Rattle.oil_tree.specs.Listed.{listed}
use Rattle.oil_rules.specs.declared.kind.Kind.{Kind}
use Rattle.oil_rules.specs.declared.role.Role.{Role}
use Rattle.oil_rules.specs.declared.role.Role.TheVariants as roles
use Rattle.oil_rules.specs.declared.group.Group.{Group}
use Rattle.oil_rules.specs.declared.group.Group.TheVariants as groups
use Rattle.oil_rules.specs.Kinds.{kind_of, is_task, is_routine, is_resource_kind, is_system, is_mode_kind, is_scheduler}
use Rattle.oil_rules.specs.Roles.{role_of, is_role}
use Rattle.oil_rules.specs.Values.{is_word}

-- what an attribute in an object of this kind sets
abbrev pub role_in : Kind → Attribute → Role
role_in kind a = role_of kind a.name.text

-- the attribute has this role, and the value is this word
abbrev pub sets : Kind → Role → List ℕ → Attribute → Bool
sets kind role word a = is_role (role_in kind a) role && is_word a.value word

-- some attribute directly in the object sets this word
abbrev pub has_set : Kind → Role → List ℕ → List Attribute → Bool
has_set kind role word attributes = list_any (sets kind role word) attributes

-- some attribute directly in the object has this role
abbrev pub has_attribute : Kind → Role → List Attribute → Bool
has_attribute kind role attributes = list_any (λ a. is_role (role_in kind a) role) attributes

-- a RESOURCE object that counts: one named RES_SCHEDULER is passed over
abbrev pub is_resource : Kind → List ℕ → Bool
is_resource kind name = is_resource_kind kind && not (is_scheduler name)

-- the object is one of the group: resources, internal resources, tasks and routines, those that share one space of names, modes, systems
unfoldable pub is_in : Group → Kind → List ℕ → List Attribute → Bool
is_in groups.Resources kind name attributes = is_resource kind name
is_in groups.Internals kind name attributes =
    is_resource kind name && has_set kind roles.ResourceProperty (codes "INTERNAL") attributes
is_in groups.Entities kind name attributes = is_task kind || is_routine kind
is_in groups.Named kind name attributes = (is_task kind || is_routine kind) || is_resource kind name
is_in groups.Modes kind name attributes = is_mode_kind kind
is_in groups.Systems kind name attributes = is_system kind

-- the name of the item, where it is an object of the group
abbrev pub name_in : Group → Item → List Name
name_in group (items.Object kind name attributes) =
    if is_in group (kind_of kind.text) name.text (listed attributes) then name ∷ [] else []
name_in group (items.Include place) = []

-- the names of the objects of the group, in the order of the text
abbrev pub names_in : Group → List Item → List Name
names_in group these = flat_map (name_in group) these

-- the same without their places
abbrev pub texts_in : Group → List Item → List (List ℕ)
texts_in group these = map (λ n. n.text) (names_in group these)

-- the item is an OS that lacks the scheduler as a resource
abbrev pub lacks_scheduler : Item → Bool
lacks_scheduler (items.Object kind name attributes) =
    is_system (kind_of kind.text) && has_set (kind_of kind.text) roles.UseResScheduler (codes "FALSE") (listed attributes)
lacks_scheduler (items.Include place) = false
