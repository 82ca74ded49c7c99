-- The tasks and routines of an application have the names of its text's objects.
use Rattle.std.proofs.Common.{◌≡◌, ℕ, Bool, true, false, if◌then◌else◌, Option, List, [], ◌∷◌, ◌++◌, map, sym, subst}
use Rattle.std.specs.List.{AllByRecursion, flat_map}
use Rattle.app_model.specs.Application.{application, chosen_mode, leveled, routine_in, routine_of, task_in, task_of}
use Rattle.application.specs.declared.app.Routine.{Routine}
use Rattle.application.specs.declared.app.Task.{Task}
use Rattle.application.specs.Levels.{run_level_among}
use Rattle.cert_form.specs.Words.{is_name}
use Rattle.name_law.proofs.Named.{AreNamed, IsNamed, file_named}
use Rattle.name_law.proofs.Spelled.{AreSpelled, all_append, text_spelled}
use Rattle.name_law.specs.Names.{AreNames, entity_names}
use Rattle.oil_rules.specs.declared.known.Known.{Known}
use Rattle.oil_rules.specs.Kinds.{is_routine, is_task, kind_of}
use Rattle.oil_rules.specs.Known.{known_of}
use Rattle.oil_tree.specs.declared.tree.Attribute.{Attribute}
use Rattle.oil_tree.specs.declared.tree.Item.{Item}
use Rattle.oil_tree.specs.declared.tree.Item.TheVariants as of
use Rattle.oil_tree.specs.declared.tree.OilTree.{OilTree}
use Rattle.oil_tree.specs.Listed.{listed}
use Rattle.oil_text.specs.OilText.{IsOilText}

abbrev IsTaskNamed : Task → Type 0
IsTaskNamed t = is_name t.name ≡ true

abbrev IsRoutineNamed : Routine → Type 0
IsRoutineNamed r = is_name r.name ≡ true

-- ---- what an object becomes

new_task : (known : Known) (mode name : List ℕ) (attributes : List Attribute) → is_name name ≡ true → IsTaskNamed (task_of known mode name attributes)
unfolding task_of
new_task known mode name attributes h = h

new_routine : (known : Known) (name : List ℕ) (attributes : List Attribute) → is_name name ≡ true → IsRoutineNamed (routine_of known name attributes)
unfolding routine_of
new_routine known name attributes h = h

if_named : {A : Type 0} (P : A → Type 0) (b : Bool) (x : A) → P x → AllByRecursion P (if b then x ∷ [] else [])
if_named P true x h = (h, tt)
if_named P false x h = tt

task_named : (known : Known) (mode : List ℕ) (item : Item) → IsNamed item → AllByRecursion IsTaskNamed (task_in known mode item)
task_named known mode (of.Object kind name attributes) h =
    if_named IsTaskNamed (is_task (kind_of kind.text)) (task_of known mode name.text (listed attributes)) (new_task known mode name.text (listed attributes) h)
task_named known mode (of.Include place) h = tt

routine_named : (known : Known) (item : Item) → IsNamed item → AllByRecursion IsRoutineNamed (routine_in known item)
routine_named known (of.Object kind name attributes) h =
    if_named IsRoutineNamed (is_routine (kind_of kind.text)) (routine_of known name.text (listed attributes)) (new_routine known name.text (listed attributes) h)
routine_named known (of.Include place) h = tt

-- ---- the lists of them

each_named : {A : Type 0} (P : A → Type 0) (g : Item → List A) → ((item : Item) → IsNamed item → AllByRecursion P (g item)) → (these : List Item) → AreNamed these → AllByRecursion P (flat_map g these)
each_named P g of_one [] h = tt
each_named P g of_one (item ∷ these) h = all_append P (g item) (flat_map g these) (of_one item h.0) (each_named P g of_one these h.1)

-- a task keeps its name when it gets its run level
task_names : (all these : List Task) → AllByRecursion IsTaskNamed these → AreNames (map (λ t. t.name) (map (λ (t : Task). record t { run_level = run_level_among all t }) these))
task_names all [] h = tt
task_names all (t ∷ these) h = (h.0, task_names all these h.1)

routine_names : (these : List Routine) → AllByRecursion IsRoutineNamed these → AreNames (map (λ r. r.name) these)
routine_names [] h = tt
routine_names (r ∷ these) h = (h.0, routine_names these h.1)

both_names : (xs ys : List (List ℕ)) → AreNames xs → AreNames ys → AreNames (xs ++ ys)
both_names [] ys p q = q
both_names (x ∷ xs) ys p q = (p.0, both_names xs ys p.1 q)

-- ---- the application

of_items : (mode : Option (List ℕ)) (tree : OilTree) → AreNamed tree.items → AreNames (entity_names (application tree mode))
unfolding application
of_items mode tree h =
    let known = known_of tree.items in
    let tasks = flat_map (task_in known (chosen_mode known mode)) tree.items in
    let routines = flat_map (routine_in known) tree.items in
    both_names (map (λ (t : Task). t.name) (leveled tasks)) (map (λ (r : Routine). r.name) routines)
    (task_names tasks tasks (each_named IsTaskNamed (task_in known (chosen_mode known mode)) (task_named known (chosen_mode known mode)) tree.items h))
    (routine_names routines (each_named IsRoutineNamed (routine_in known) (routine_named known) tree.items h))

-- of the tree that a text is read as
pub named : (oil : List ℕ) (mode : Option (List ℕ)) (tree : OilTree) → IsOilText oil tree → AreNames (entity_names (application tree mode))
named oil mode tree is =
    let spelled = subst AreSpelled (sym is.read.derives.spells) (text_spelled oil is.tokens is.spelled) in
    of_items mode tree (subst (λ (t : OilTree). AreNamed t.items) is.read.means (file_named is.read.tree (record { follows = is.read.derives.follows; spelled = spelled })))
