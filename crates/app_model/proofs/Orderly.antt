-- The application of a tree that breaks no rule is in order.
use Rattle.std.proofs.Common.{◌≡◌, ℕ, suc, ◌+◌, ◌<◌, ◌≤◌, Bool, true, false, not, ◌&&◌, ◌||◌, cond, max, List, [], ◌∷◌, ◌++◌, length, map, filter, fold, All, IfSome, Option, Some, None, refl, sym, ap, subst, ◌∙◌, arith}
use Rattle.std.specs.List.{flat_map, list_any, position_or_len}
use Rattle.std.specs.Option.{option_map}
use Rattle.std.specs.Str.{bytes_eq}
use Rattle.std.proofs.lemmas.Bool.{false≢true}
use Rattle.std.proofs.lemmas.List.{map-append, length-map, length-append, append-nil}
use Rattle.std.proofs.lemmas.List.Elements.{All-cons, All-nil, All-head, All-tail, All-map, All-weaker, All-append, All-push}
use Rattle.chk_base.specs.declared.text.Name.{Name}
use Rattle.oil_tree.specs.declared.tree.Attribute.{Attribute}
use Rattle.oil_tree.specs.declared.tree.Item.{Item}
use Rattle.oil_tree.specs.declared.tree.Item.TheVariants as items
use Rattle.oil_tree.specs.declared.tree.OilTree.{OilTree}
use Rattle.oil_tree.specs.Listed.{listed}
use Rattle.oil_rules.specs.declared.kind.Kind.{Kind}
use Rattle.oil_rules.specs.declared.kind.Kind.TheVariants as kinds
use Rattle.oil_rules.specs.declared.known.Known.{Known}
use Rattle.oil_rules.specs.declared.group.Group.TheVariants as groups
use Rattle.oil_rules.specs.Kinds.{kind_of, is_task, is_routine, is_resource_kind, is_scheduler}
use Rattle.oil_rules.specs.Known.{known_of}
use Rattle.oil_rules.specs.Objects.{is_resource, is_in, name_in, names_in, texts_in}
use Rattle.oil_rules.specs.Rules.{faults, internal_of}
use Rattle.application.specs.declared.app.App.{App}
use Rattle.application.specs.declared.app.Resource.{Resource}
use Rattle.application.specs.declared.app.Routine.{Routine}
use Rattle.application.specs.declared.app.Task.{Task}
use Rattle.application.specs.Levels.{greatest, levels_of, is_number, has_number, internal_among, run_level_among, ceiling_among, class_of}
use Rattle.application.specs.InOrder.{IsResource, IsTaskInOrder, IsRoutineInOrder, AreCeilings, AreDistinct, names_of, IsInOrder}
use Rattle.app_model.specs.Application.{resource_number, names_standard, reference, with_number, declares, internal, task_of, routine_of, resource_of, task_in, routine_in, resource_in, leveled, ceiled, chosen_mode, application}
use Rattle.app_model.specs.Bounds.{HasTaskBounds, HasRoutineBounds, IsBoundedTask, IsBoundedRoutine}
use Rattle.app_model.proofs.Accepted.{IsAccepted, accepted}
use Rattle.app_model.proofs.Bounded.{bounded_tasks, bounded_routines, resources_length, known_few}
use Rattle.app_model.proofs.Distinct.{count, count-append, distinct_by_count, once_each}
use Rattle.app_model.proofs.Steps.{length-ceiled, position_low}

-- what holds of each thing's list holds of all
All-flat_map : {X Y : Type 0} (P : Y → Type 0) (g : X → List Y) (xs : List X) → All (λ x. All P (g x)) xs → All P (flat_map g xs)
All-flat_map P g [] all = All-nil P
All-flat_map P g (x ∷ xs) all =
    All-append P (g x) (flat_map g xs) (All-head (λ y. All P (g y)) x xs all) (All-flat_map P g xs (All-tail (λ y. All P (g y)) x xs all))

-- levels don't depend on run levels
module _ (f : Task → ℕ) where
  levels_kept : (ts : List Task) → levels_of (map (λ (t : Task). record t { run_level = f t }) ts) ≡ levels_of ts
  levels_kept [] = refl
  levels_kept (t ∷ ts) = ap (λ ls. t.level ∷ ls) (levels_kept ts)

  users_kept : (r : ℕ) (ts : List Task) → levels_of (filter (λ t. is_number t.internal r) (map (λ (t : Task). record t { run_level = f t }) ts)) ≡ levels_of (filter (λ t. is_number t.internal r) ts)
  users_kept r [] = refl
  users_kept r (t ∷ ts) = by (is_number t.internal r) (users_kept r ts)
    where
      by : (b : Bool) → levels_of (filter (λ u. is_number u.internal r) (map (λ (u : Task). record u { run_level = f u }) ts)) ≡ levels_of (filter (λ u. is_number u.internal r) ts) → levels_of (cond b (record t { run_level = f t } ∷ filter (λ u. is_number u.internal r) (map (λ (u : Task). record u { run_level = f u }) ts)) (filter (λ u. is_number u.internal r) (map (λ (u : Task). record u { run_level = f u }) ts))) ≡ levels_of (cond b (t ∷ filter (λ u. is_number u.internal r) ts) (filter (λ u. is_number u.internal r) ts))
      by true rest = ap (λ ls. t.level ∷ ls) rest
      by false rest = rest

  internal_kept : (ts : List Task) (own : ℕ) (o : Option ℕ) → internal_among (map (λ (t : Task). record t { run_level = f t }) ts) own o ≡ internal_among ts own o
  internal_kept ts own None = refl
  internal_kept ts own (Some r) = ap greatest (users_kept r ts)

  run_level_kept : (ts : List Task) (t : Task) → run_level_among ts t ≡ run_level_among (map (λ (u : Task). record u { run_level = f u }) ts) t
  run_level_kept ts t = by t.non_preemptive
    where
      by : (b : Bool) → cond b (greatest (levels_of ts)) (internal_among ts t.level t.internal) ≡ cond b (greatest (levels_of (map (λ (u : Task). record u { run_level = f u }) ts))) (internal_among (map (λ (u : Task). record u { run_level = f u }) ts) t.level t.internal)
      by true = ap greatest (sym (levels_kept ts))
      by false = sym (internal_kept ts t.level t.internal)

-- resource numbers are at most the number of resources
module _ (known : Known) (n : ℕ) (few : length known.resources ≤ n) where
  number_low : (name : List ℕ) → resource_number known name ≤ n
  number_low name = let low = position_low (bytes_eq name) known.resources in omega arith

  reference_low : (kind : Kind) (a : Attribute) → All (λ r. r ≤ n) (reference known kind a)
  reference_low kind a = by (names_standard known kind a)
    where
      by : (b : Bool) → All (λ r. r ≤ n) (cond b (resource_number known a.value.text ∷ []) [])
      by true = All-cons (λ r. r ≤ n) (resource_number known a.value.text) [] (number_low a.value.text) (All-nil (λ r. r ≤ n))
      by false = All-nil (λ r. r ≤ n)

  each_low : (kind : Kind) (attrs : List Attribute) → All (λ a. All (λ r. r ≤ n) (reference known kind a)) attrs
  each_low kind [] = All-nil (λ a. All (λ r. r ≤ n) (reference known kind a))
  each_low kind (a ∷ attrs) = All-cons (λ b. All (λ r. r ≤ n) (reference known kind b)) a attrs (reference_low kind a) (each_low kind attrs)

  with_number_low : (numbers : List ℕ) (r : ℕ) → All (λ k. k ≤ n) numbers → r ≤ n → All (λ k. k ≤ n) (with_number numbers r)
  with_number_low numbers r all low = by (has_number numbers r)
    where
      by : (b : Bool) → All (λ k. k ≤ n) (cond b numbers (numbers ++ r ∷ []))
      by true = all
      by false = All-push (λ k. k ≤ n) numbers r all low

  with_numbers_low : (numbers rs : List ℕ) → All (λ k. k ≤ n) numbers → All (λ k. k ≤ n) rs → All (λ k. k ≤ n) (fold with_number numbers rs)
  with_numbers_low numbers [] all low = all
  with_numbers_low numbers (r ∷ rs) all low =
      with_numbers_low (with_number numbers r) rs (with_number_low numbers r all (All-head (λ k. k ≤ n) r rs low)) (All-tail (λ k. k ≤ n) r rs low)

  declares_low : (kind : Kind) (attrs : List Attribute) → All (λ k. k ≤ n) (declares known kind attrs)
  unfolding declares
  declares_low kind attrs =
      with_numbers_low [] (flat_map (reference known kind) attrs) (All-nil (λ k. k ≤ n)) (All-flat_map (λ k. k ≤ n) (reference known kind) attrs (each_low kind attrs))

  internal_low : (kind : Kind) (attrs : List Attribute) → IfSome (internal known kind attrs) (λ k. k ≤ n)
  internal_low kind attrs = by (internal_of known kind attrs)
    where
      by : (o : Option (List ℕ)) → IfSome (option_map (resource_number known) o) (λ k. k ≤ n)
      by None = tt
      by (Some name) = number_low name

  -- a task with its run level is in order, in an application with so many resources
  task_ok : (app : App) (mode name : List ℕ) (attrs : List Attribute) (l : ℕ) → n ≡ length app.resources → HasTaskBounds attrs → l ≡ run_level_among app.tasks (task_of known mode name attrs) → IsTaskInOrder app (record (task_of known mode name attrs) { run_level = l })
  unfolding task_of
  task_ok app mode name attrs l count bounds run =
      record {
        priority = bounds.priority;
        level = refl;
        run_level = run;
        requested = bounds.requested;
        few_requests = bounds.few_requests;
        declares = subst (λ k. All (λ r. r ≤ k) (declares known kinds.Task attrs)) count (declares_low kinds.Task attrs);
        internal = subst (λ k. IfSome (internal known kinds.Task attrs) (λ r. r ≤ k)) count (internal_low kinds.Task attrs);
      }

  routine_ok : (app : App) (name : List ℕ) (attrs : List Attribute) → n ≡ length app.resources → HasRoutineBounds attrs → IsRoutineInOrder app (routine_of known name attrs)
  unfolding routine_of
  routine_ok app name attrs count bounds =
      record {
        priority_from = bounds.priority_from;
        priority = bounds.priority;
        level = refl;
        declares = subst (λ k. All (λ r. r ≤ k) (declares known kinds.Isr attrs)) count (declares_low kinds.Isr attrs);
      }

  routine_item_ok : (app : App) → n ≡ length app.resources → (x : Item) → IsBoundedRoutine x → All (IsRoutineInOrder app) (routine_in known x)
  routine_item_ok app count (items.Object kind name attributes) bounds = by (is_routine (kind_of kind.text)) bounds
    where
      by : (b : Bool) → (b ≡ true → HasRoutineBounds (listed attributes)) → All (IsRoutineInOrder app) (cond b (routine_of known name.text (listed attributes) ∷ []) [])
      by true h = All-cons (IsRoutineInOrder app) (routine_of known name.text (listed attributes)) [] (routine_ok app name.text (listed attributes) count (h refl)) (All-nil (IsRoutineInOrder app))
      by false h = All-nil (IsRoutineInOrder app)
  routine_item_ok app count (items.Include place) bounds = All-nil (IsRoutineInOrder app)

  -- the same of the tasks that an item gives, before their run levels
  task_item_ok : (app : App) (f : Task → ℕ) (mode : List ℕ) → n ≡ length app.resources → ((t : Task) → f t ≡ run_level_among app.tasks t) → (x : Item) → IsBoundedTask x → All (λ t. IsTaskInOrder app (record t { run_level = f t })) (task_in known mode x)
  task_item_ok app f mode count run (items.Object kind name attributes) bounds = by (is_task (kind_of kind.text)) bounds
    where
      by : (b : Bool) → (b ≡ true → HasTaskBounds (listed attributes)) → All (λ t. IsTaskInOrder app (record t { run_level = f t })) (cond b (task_of known mode name.text (listed attributes) ∷ []) [])
      by true h =
          let t = task_of known mode name.text (listed attributes) in
          All-cons (λ t. IsTaskInOrder app (record t { run_level = f t })) t [] (task_ok app mode name.text (listed attributes) (f t) count (h refl) (run t)) (All-nil (λ t. IsTaskInOrder app (record t { run_level = f t })))
      by false h = All-nil (λ t. IsTaskInOrder app (record t { run_level = f t }))
  task_item_ok app f mode count run (items.Include place) bounds = All-nil (λ t. IsTaskInOrder app (record t { run_level = f t }))

-- ceilings belong to their resources
ceilings_ok : (app : App) (n : ℕ) (rs : List Resource) → AreCeilings app n (ceiled app.tasks app.routines n rs)
ceilings_ok app n [] = tt
ceilings_ok app n (r ∷ rs) = (refl, ceilings_ok app (n + 1) rs)

-- how many tasks and routines there are
entity_length : (known : Known) (mode : List ℕ) (x : Item) → length (task_in known mode x) + length (routine_in known x) ≡ length (name_in groups.Entities x)
unfolding is_in
entity_length known mode (items.Object kind name attributes) = by (kind_of kind.text)
  where
    by : (k : Kind) → length (cond (is_task k) (task_of known mode name.text (listed attributes) ∷ []) []) + length (cond (is_routine k) (routine_of known name.text (listed attributes) ∷ []) []) ≡ length (cond (is_task k || is_routine k) (name ∷ []) [])
    by kinds.Task = refl
    by kinds.Isr = refl
    by _ = refl
entity_length known mode (items.Include place) = refl

entities_length : (known : Known) (mode : List ℕ) (xs : List Item) → length (flat_map (task_in known mode) xs) + length (flat_map (routine_in known) xs) ≡ length (names_in groups.Entities xs)
entities_length known mode [] = refl
entities_length known mode (x ∷ xs) =
    let here = entity_length known mode x in
    let rest = entities_length known mode xs in
    omega (arith, length-append (task_in known mode x) (flat_map (task_in known mode) xs), length-append (routine_in known x) (flat_map (routine_in known) xs), length-append (name_in groups.Entities x) (names_in groups.Entities xs))

-- how often a name stands among those of tasks, routines and resources
module _ (q : List ℕ) (known : Known) (mode : List ℕ) where
  named_once : (x : Item) → count q (map (λ t. t.name) (task_in known mode x)) + (count q (map (λ r. r.name) (routine_in known x)) + count q (map (λ r. r.name) (resource_in x))) ≡ count q (map (λ n. n.text) (name_in groups.Named x))
  unfolding is_in task_of routine_of resource_of
  named_once (items.Object kind name attributes) = by (kind_of kind.text)
    where
      at : (b : Bool) → count q (map (λ r. r.name) (cond b (resource_of name.text (listed attributes) ∷ []) [])) ≡ count q (map (λ n. n.text) (cond b (name ∷ []) []))
      at true = refl
      at false = refl

      by : (k : Kind) → count q (map (λ t. t.name) (cond (is_task k) (task_of known mode name.text (listed attributes) ∷ []) [])) + (count q (map (λ r. r.name) (cond (is_routine k) (routine_of known name.text (listed attributes) ∷ []) [])) + count q (map (λ r. r.name) (cond (is_resource k name.text) (resource_of name.text (listed attributes) ∷ []) []))) ≡ count q (map (λ n. n.text) (cond ((is_task k || is_routine k) || is_resource k name.text) (name ∷ []) []))
      by kinds.Task = omega arith
      by kinds.Isr = omega arith
      by kinds.Resource = let same = at (not (is_scheduler name.text)) in omega arith
      by _ = refl
  named_once (items.Include place) = refl

  named_times : (xs : List Item) → count q (map (λ t. t.name) (flat_map (task_in known mode) xs)) + (count q (map (λ r. r.name) (flat_map (routine_in known) xs)) + count q (map (λ r. r.name) (flat_map resource_in xs))) ≡ count q (texts_in groups.Named xs)
  named_times [] = refl
  named_times (x ∷ xs) =
      let here = named_once x in
      let rest = named_times xs in
      let a = ap (count q) (map-append (λ t. t.name) (task_in known mode x) (flat_map (task_in known mode) xs)) ∙ count-append q (map (λ t. t.name) (task_in known mode x)) (map (λ t. t.name) (flat_map (task_in known mode) xs)) in
      let b = ap (count q) (map-append (λ r. r.name) (routine_in known x) (flat_map (routine_in known) xs)) ∙ count-append q (map (λ r. r.name) (routine_in known x)) (map (λ r. r.name) (flat_map (routine_in known) xs)) in
      let c = ap (count q) (map-append (λ r. r.name) (resource_in x) (flat_map resource_in xs)) ∙ count-append q (map (λ r. r.name) (resource_in x)) (map (λ r. r.name) (flat_map resource_in xs)) in
      let d = ap (count q) (map-append (λ n. n.text) (name_in groups.Named x) (names_in groups.Named xs)) ∙ count-append q (map (λ n. n.text) (name_in groups.Named x)) (map (λ n. n.text) (names_in groups.Named xs)) in
      omega arith

names_kept : (f : Task → ℕ) (ts : List Task) → map (λ t. t.name) (map (λ (t : Task). record t { run_level = f t }) ts) ≡ map (λ t. t.name) ts
names_kept f [] = refl
names_kept f (t ∷ ts) = ap (λ ns. t.name ∷ ns) (names_kept f ts)

names_ceiled : (tasks : List Task) (routines : List Routine) (n : ℕ) (rs : List Resource) → map (λ r. r.name) (ceiled tasks routines n rs) ≡ map (λ r. r.name) rs
names_ceiled tasks routines n [] = refl
names_ceiled tasks routines n (r ∷ rs) = ap (λ ns. r.name ∷ ns) (names_ceiled tasks routines (n + 1) rs)

sum_low : (n a b c d e f g m : ℕ) → n ≡ b + d → b ≡ a + c → a ≡ e → c ≡ f → d ≡ g → e + (f + g) ≡ m → m ≤ 1 → n ≤ 1
sum_low n a b c d e f g m whole part first second third times once = omega arith

-- no name stands twice among those of the application
few_names : (q : List ℕ) (these : List Item) (mode : List ℕ) (app : App) → IsAccepted these
    → app.tasks ≡ leveled (flat_map (task_in (known_of these) mode) these)
    → app.routines ≡ flat_map (routine_in (known_of these)) these
    → app.resources ≡ ceiled app.tasks app.routines 0 (flat_map resource_in these)
    → count q (names_of app) ≤ 1
few_names q these mode app ok tasks_are routines_are resources_are =
    let known = known_of these in
    let ts = flat_map (task_in known mode) these in
    let is = flat_map (routine_in known) these in
    let rs = flat_map resource_in these in
    let times = named_times q known mode these in
    let once : count q (texts_in groups.Named these) ≤ 1 = once_each (names_in groups.Named these) ok.named q in
    let t : count q (map (λ t. t.name) app.tasks) ≡ count q (map (λ t. t.name) ts) = ap (λ us. count q (map (λ t. t.name) us)) tasks_are ∙ ap (count q) (names_kept (λ u. run_level_among ts u) ts) in
    let i : count q (map (λ r. r.name) app.routines) ≡ count q (map (λ r. r.name) is) = ap (λ us. count q (map (λ r. r.name) us)) routines_are in
    let r : count q (map (λ r. r.name) app.resources) ≡ count q (map (λ r. r.name) rs) = ap (λ us. count q (map (λ r. r.name) us)) resources_are ∙ ap (count q) (names_ceiled app.tasks app.routines 0 rs) in
    let task_names = map (λ (t : Task). t.name) app.tasks in
    let routine_names = map (λ (r : Routine). r.name) app.routines in
    let resource_names = map (λ (r : Resource). r.name) app.resources in
    let whole : count q (names_of app) ≡ count q (task_names ++ routine_names) + count q resource_names = count-append q (task_names ++ routine_names) resource_names in
    let part : count q (task_names ++ routine_names) ≡ count q task_names + count q routine_names = count-append q task_names routine_names in
    sum_low _ _ _ _ _ _ _ _ _ whole part t i r times once

-- an application of these items is in order
in_order : (these : List Item) (mode : List ℕ) (app : App) → IsAccepted these
    → app.tasks ≡ leveled (flat_map (task_in (known_of these) mode) these)
    → app.routines ≡ flat_map (routine_in (known_of these)) these
    → app.resources ≡ ceiled app.tasks app.routines 0 (flat_map resource_in these)
    → app.class ≡ class_of app.tasks
    → IsInOrder app
in_order these mode app ok tasks_are routines_are resources_are class_is =
    let known = known_of these in
    let ts = flat_map (task_in known mode) these in
    let rs = flat_map resource_in these in
    let f = λ (t : Task). run_level_among ts t in
    let run : (t : Task) → f t ≡ run_level_among app.tasks t = λ t. run_level_kept f ts t ∙ ap (λ us. run_level_among us t) (sym tasks_are) in
    let count_is : length app.resources ≡ length rs = ap length resources_are ∙ length-ceiled app.tasks app.routines 0 rs in
    let few : length known.resources ≤ length app.resources = omega (arith, known_few these, resources_length these) in
    let tasks_ok = All-map (IsTaskInOrder app) (λ (t : Task). record t { run_level = f t }) ts
    (All-flat_map (λ t. IsTaskInOrder app (record t { run_level = f t })) (task_in known mode) these
    (All-weaker IsBoundedTask (λ x. All (λ t. IsTaskInOrder app (record t { run_level = f t })) (task_in known mode x)) (task_item_ok known (length app.resources) few app f mode refl run) these (bounded_tasks these ok))) in
    let routines_ok = All-flat_map (IsRoutineInOrder app) (routine_in known) these
    (All-weaker IsBoundedRoutine (λ x. All (IsRoutineInOrder app) (routine_in known x)) (routine_item_ok known (length app.resources) few app refl) these (bounded_routines these ok)) in
    let task_count : length app.tasks ≡ length ts = ap length tasks_are ∙ length-map ts (λ (t : Task). record t { run_level = f t }) in
    let routine_count = ap length routines_are in
    let entity_count = entities_length known mode these in
    let names : (q : List ℕ) → count q (names_of app) ≤ 1 = λ q. few_names q these mode app ok tasks_are routines_are resources_are in
    record {
      few_entities = omega (arith, ok.entities);
      few_resources = omega (arith, ok.resources, resources_length these);
      tasks = subst (All (IsTaskInOrder app)) (sym tasks_are) tasks_ok;
      routines = subst (All (IsRoutineInOrder app)) (sym routines_are) routines_ok;
      ceilings = subst (AreCeilings app 0) (sym resources_are) (ceilings_ok app 0 rs);
      class = class_is;
      names = distinct_by_count (names_of app) names;
    }

pub application_in_order : (tree : OilTree) (mode : Option (List ℕ)) → faults tree mode ≡ [] → IsInOrder (application tree mode)
unfolding application
application_in_order tree mode none =
    in_order tree.items (chosen_mode (known_of tree.items) mode) (application tree mode) (accepted tree mode none) refl refl refl refl
