-- The numbers of tasks and routines that break no rule.
use Rattle.std.specs.Prelude.{◌≡◌, ℕ, ◌≤◌, true, List}
use Rattle.oil_tree.specs.declared.tree.Attribute.{Attribute}
use Rattle.oil_tree.specs.declared.tree.Item.{Item}
use Rattle.oil_tree.specs.declared.tree.Item.TheVariants as items
use Rattle.oil_tree.specs.Listed.{listed}
use Rattle.oil_rules.specs.declared.kind.Kind.TheVariants as kinds
use Rattle.oil_rules.specs.declared.role.Role.TheVariants as roles
use Rattle.oil_rules.specs.Kinds.{kind_of, is_task, is_routine}
use Rattle.app_model.specs.Application.{number_set}

-- priority and requests of a task are in their ranges
pub record HasTaskBounds (attributes : List Attribute) : Type 0 where
  pub priority : number_set kinds.Task roles.Priority attributes ≤ 63
  pub requested : 1 ≤ number_set kinds.Task roles.Activation attributes
  pub few_requests : number_set kinds.Task roles.Activation attributes ≤ 8

-- the priority of a routine is in its range
pub record HasRoutineBounds (attributes : List Attribute) : Type 0 where
  pub priority_from : 1 ≤ number_set kinds.Isr roles.Priority attributes
  pub priority : number_set kinds.Isr roles.Priority attributes ≤ 16

-- the same of an item, where it is a task
abbrev pub IsBoundedTask : Item → Type 0
IsBoundedTask (items.Object kind name attributes) = is_task (kind_of kind.text) ≡ true → HasTaskBounds (listed attributes)
IsBoundedTask (items.Include place) = Unit {0}

-- and where it is a routine
abbrev pub IsBoundedRoutine : Item → Type 0
IsBoundedRoutine (items.Object kind name attributes) = is_routine (kind_of kind.text) ≡ true → HasRoutineBounds (listed attributes)
IsBoundedRoutine (items.Include place) = Unit {0}
