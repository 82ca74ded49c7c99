-- The application, put together from its fields.
use Rattle.std.proofs.Common.{◌≡◌, ℕ, ◌≤◌, Bool, not, List, [], ◌++◌, length, All, Option, refl, sym, ap, subst, ◌∙◌, arith}
use Rattle.std.specs.List.{flat_map}
use Rattle.oil_tree.specs.declared.tree.Item.{Item}
use Rattle.oil_tree.specs.declared.tree.OilTree.{OilTree}
use Rattle.oil_rules.specs.declared.known.Known.{Known}
use Rattle.oil_rules.specs.Known.{known_of}
use Rattle.oil_rules.specs.Rules.{faults}
use Rattle.application.specs.declared.app.App.{App}
use Rattle.application.specs.declared.app.Class.{Class}
use Rattle.application.specs.declared.app.Note.{Note}
use Rattle.application.specs.declared.app.Resource.{Resource}
use Rattle.application.specs.declared.app.Routine.{Routine}
use Rattle.application.specs.declared.app.Task.{Task}
use Rattle.application.specs.Levels.{class_of}
use Rattle.app_model.specs.Application.{task_in, routine_in, resource_in, leveled, ceiled, chosen_mode, head_notes, item_notes, application}
use Rattle.app_model.specs.Bounds.{IsBoundedTask, IsBoundedRoutine}
use Rattle.app_model.proofs.Accepted.{accepted}
use Rattle.app_model.proofs.Bounded.{bounded_tasks, bounded_routines, resources_length, known_few}

-- the fields of an application are those of the tree
pub record AreFields (tree : OilTree) (asked : Option (List ℕ)) (known : Known) (app : App) : Type 0 where
  pub known_is : known ≡ known_of tree.items
  pub mode : app.mode ≡ chosen_mode known asked
  pub tasks : app.tasks ≡ leveled (flat_map (task_in known app.mode) tree.items)
  pub routines : app.routines ≡ flat_map (routine_in known) tree.items
  pub resources : app.resources ≡ ceiled app.tasks app.routines 0 (flat_map resource_in tree.items)
  pub scheduler : app.res_scheduler ≡ not known.no_scheduler
  pub class : app.class ≡ class_of app.tasks
  pub notes : app.notes ≡ head_notes tree.includes tree.implementation ++ flat_map item_notes tree.items

pub application_is : (tree : OilTree) (asked : Option (List ℕ)) (known : Known) (app : App) → AreFields tree asked known app → app ≡ application tree asked
unfolding application
application_is tree asked known app f =
    let of = known_of tree.items in
    let mode : app.mode ≡ chosen_mode of asked = f.mode ∙ ap (λ k. chosen_mode k asked) f.known_is in
    let tasks : app.tasks ≡ leveled (flat_map (task_in of (chosen_mode of asked)) tree.items) =
    f.tasks ∙ (ap (λ k. leveled (flat_map (task_in k app.mode) tree.items)) f.known_is ∙ ap (λ m. leveled (flat_map (task_in of m) tree.items)) mode) in
    let routines : app.routines ≡ flat_map (routine_in of) tree.items = f.routines ∙ ap (λ k. flat_map (routine_in k) tree.items) f.known_is in
    let ts = leveled (flat_map (task_in of (chosen_mode of asked)) tree.items) in
    let resources : app.resources ≡ ceiled ts (flat_map (routine_in of) tree.items) 0 (flat_map resource_in tree.items) =
    f.resources ∙ (ap (λ us. ceiled us app.routines 0 (flat_map resource_in tree.items)) tasks ∙ ap (λ us. ceiled ts us 0 (flat_map resource_in tree.items)) routines) in
    let scheduler : app.res_scheduler ≡ not of.no_scheduler = f.scheduler ∙ ap (λ k. not k.no_scheduler) f.known_is in
    let class : app.class ≡ class_of ts = f.class ∙ ap class_of tasks in
    λ j. record { tasks = tasks j; routines = routines j; resources = resources j; res_scheduler = scheduler j; class = class j; mode = mode j; notes = f.notes j }

-- what building asks for
pub few_known : (tree : OilTree) (mode : Option (List ℕ)) (known : Known) → known ≡ known_of tree.items → faults tree mode ≡ [] → length known.resources ≤ 16
few_known tree mode known is none =
    let ok = accepted tree mode none in
    subst (λ k. length k.resources ≤ 16) (sym is) (omega (arith, known_few tree.items, ok.resources))

pub few_resources : (tree : OilTree) (mode : Option (List ℕ)) (these : List Item) → these ≡ tree.items → faults tree mode ≡ [] → length (flat_map resource_in these) ≤ 16
few_resources tree mode these is none =
    let ok = accepted tree mode none in
    subst (λ xs. length (flat_map resource_in xs) ≤ 16) (sym is) (omega (arith, resources_length tree.items, ok.resources))

pub tasks_in_bounds : (tree : OilTree) (mode : Option (List ℕ)) (these : List Item) → these ≡ tree.items → faults tree mode ≡ [] → All IsBoundedTask these
tasks_in_bounds tree mode these is none =
    subst (λ xs. All IsBoundedTask xs) (sym is) (bounded_tasks tree.items (accepted tree mode none))

pub routines_in_bounds : (tree : OilTree) (mode : Option (List ℕ)) (these : List Item) → these ≡ tree.items → faults tree mode ≡ [] → All IsBoundedRoutine these
routines_in_bounds tree mode these is none =
    subst (λ xs. All IsBoundedRoutine xs) (sym is) (bounded_routines tree.items (accepted tree mode none))
