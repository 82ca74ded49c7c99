-- The numbers of tasks, routines and resources of a tree that breaks no rule.
use Rattle.std.proofs.Common.{◌≡◌, ℕ, ◌+◌, ◌≤◌, ◌==◌, Bool, true, false, not, ◌&&◌, ◌||◌, cond, nat_le, nat_lt, List, [], ◌∷◌, ◌++◌, length, map, fold, All, Option, Some, None, find, refl, sym, ap, subst, ◌∙◌, arith, true≢false}
use Rattle.std.specs.List.{flat_map, list_any}
use Rattle.std.specs.Option.{option_map_or}
use Rattle.std.proofs.lemmas.Bool.{and_parts, or_parts, not-false, and_from, false≢true}
use Rattle.std.proofs.lemmas.Bool.Decides.{nat_tests}
use Rattle.std.proofs.lemmas.List.{length-map, length-append}
use Rattle.std.proofs.lemmas.List.Elements.{All-head, All-tail, All-weaker}
use Rattle.chk_base.specs.declared.place.Place.{Place}
use Rattle.chk_base.specs.declared.text.Name.{Name}
use Rattle.oil_tree.specs.declared.tree.Attribute.{Attribute}
use Rattle.oil_tree.specs.declared.tree.Value.{Value}
use Rattle.oil_tree.specs.declared.tree.Item.{Item}
use Rattle.oil_tree.specs.declared.tree.Item.TheVariants as items
use Rattle.oil_tree.specs.Listed.{listed}
use Rattle.oil_rules.specs.declared.kind.Kind.{Kind}
use Rattle.oil_rules.specs.declared.kind.Kind.TheVariants as kinds
use Rattle.oil_rules.specs.declared.role.Role.{Role}
use Rattle.oil_rules.specs.declared.role.Role.TheVariants as roles
use Rattle.oil_rules.specs.declared.known.Known.{Known}
use Rattle.oil_rules.specs.declared.group.Group.TheVariants as groups
use Rattle.oil_rules.specs.Kinds.{kind_of, is_task, is_routine, is_scheduler}
use Rattle.oil_rules.specs.Known.{known_of}
use Rattle.oil_rules.specs.Names.{has_name, with_name, distinct, repeats}
use Rattle.oil_rules.specs.Objects.{role_in, has_attribute, is_resource, is_in, name_in, names_in, texts_in}
use Rattle.oil_rules.specs.Roles.{is_role}
use Rattle.oil_rules.specs.Values.{is_word, is_integer, is_between, has_form, number_of}
use Rattle.oil_rules.specs.Rules.{when, value_faults, attribute_faults, is_out_of_range, is_first_category, has_second_category, lacks_attribute, internal_of, single_names, at_names, kind_faults, object_faults, item_faults, is_passed_over, resource_faults, start_faults, sets_hook, is_linked}
use Rattle.app_model.specs.Application.{number_set, resource_of, resource_in}
use Rattle.app_model.specs.Bounds.{HasTaskBounds, HasRoutineBounds, IsBoundedTask, IsBoundedRoutine}
use Rattle.app_model.proofs.Accepted.{both_none, holds, each_none, IsAccepted}

-- an attribute that is found, with what holds of each
record IsFound (p : Attribute → Bool) (Q : Attribute → Type 0) (attributes : List Attribute) : Type 0 where
  attribute : Attribute
  is : find p attributes ≡ Some attribute
  passes : p attribute ≡ true
  holds_of : Q attribute

found : (p : Attribute → Bool) (Q : Attribute → Type 0) (attributes : List Attribute) → list_any p attributes ≡ true → All Q attributes → IsFound p Q attributes
found p Q [] some all = absurd (false≢true some)
found p Q (a ∷ attrs) some all = by (p a) refl (λ h. found p Q attrs h (All-tail Q a attrs all))
  where
    by : (b : Bool) → p a ≡ b → (list_any p attrs ≡ true → IsFound p Q attrs) → IsFound p Q (a ∷ attrs)
    by true e rest =
        record { attribute = a; is = ap (λ b. cond b (Some a) (find p attrs)) e; passes = e; holds_of = All-head Q a attrs all }
    by false e rest =
        let later = rest (sym (ap (λ b. b || list_any p attrs) e) ∙ some) in
        record { attribute = later.attribute; is = ap (λ b. cond b (Some a) (find p attrs)) e ∙ later.is; passes = later.passes; holds_of = later.holds_of }

-- what is found passes one more test, so some attribute passes both
any_of_found : (p r : Attribute → Bool) (attributes : List Attribute) (a : Attribute) → find p attributes ≡ Some a → p a ≡ true → r a ≡ true → list_any (λ x. p x && r x) attributes ≡ true
any_of_found p r [] a is passes too = absurd (cc)
any_of_found p r (x ∷ xs) a is passes too = by (p x) refl (λ h. any_of_found p r xs a h passes too)
  where
    by : (b : Bool) → p x ≡ b → (find p xs ≡ Some a → list_any (λ y. p y && r y) xs ≡ true) → ((p x && r x) || list_any (λ y. p y && r y) xs) ≡ true
    by true e rest =
        let here : Some x ≡ Some a = sym (ap (λ b. cond b (Some x) (find p xs)) e) ∙ is in
        let same : x ≡ a = cc in
        ap (λ b. b || list_any (λ y. p y && r y) xs) (and_from (p x) (r x) e (ap r same ∙ too))
    by false e rest =
        let later = rest (sym (ap (λ b. cond b (Some x) (find p xs)) e) ∙ is) in
        ap (λ b. (b && r x) || list_any (λ y. p y && r y) xs) e ∙ later

priority_is : (r : Role) → is_role r roles.Priority ≡ true → r ≡ roles.Priority
unfolding is_role
priority_is roles.Priority e = refl
priority_is _ e = absurd (false≢true e)

activation_is : (r : Role) → is_role r roles.Activation ≡ true → r ≡ roles.Activation
unfolding is_role
activation_is roles.Activation e = refl
activation_is _ e = absurd (false≢true e)

category_is : (r : Role) → is_role r roles.Category ≡ true → r ≡ roles.Category
unfolding is_role
category_is roles.Category e = refl
category_is _ e = absurd (false≢true e)

-- an attribute that breaks no rule by itself
record IsSound (kind : Kind) (role : Role) (v : Value) : Type 0 where
  formed : has_form role v ≡ true
  ranged : is_out_of_range kind role v ≡ false
  second : is_first_category role v ≡ false

sound_value : (kind : Kind) (role : Role) (a : Attribute) → value_faults kind role a ≡ [] → IsSound kind role a.value
unfolding value_faults
sound_value kind role a none =
    let p2 = both_none (when (is_role role roles.Event) 2 a.name.place) _ none in
    let p4 = both_none (when (is_role role roles.Message) 4 a.name.place) _ p2.1 in
    let p7 = both_none (when (sets_hook role a.value) 7 a.value.place) _ p4.1 in
    let p8 = both_none (when (is_first_category role a.value) 8 a.value.place) _ p7.1 in
    let p9 = both_none (when (is_linked role a.value) 9 a.value.place) _ p8.1 in
    let p13 = both_none (when (not (has_form role a.value)) 13 a.value.place) _ p9.1 in
    record {
      formed = not-false (has_form role a.value) (holds (not (has_form role a.value)) 13 a.value.place p13.0);
      ranged = holds (is_out_of_range kind role a.value) 14 a.value.place p13.1;
      second = holds (is_first_category role a.value) 8 a.value.place p8.0;
    }

sound_attribute : (known : Known) (kind : Kind) (internal : Option (List ℕ)) (a : Attribute) → attribute_faults known kind internal a ≡ [] → IsSound kind (role_in kind a) a.value
unfolding attribute_faults
sound_attribute known kind internal a none =
    sound_value kind (role_in kind a) a (both_none (value_faults kind (role_in kind a) a) _ none).0

-- the bounds of a number in a range
between : (least greatest : ℕ) (v : Value) → is_between least greatest v ≡ true → (least ≤ number_of v.text) × (number_of v.text ≤ greatest)
unfolding is_between
between least greatest v e =
    let p = and_parts (is_integer v) _ e in
    let q = and_parts (nat_le least (number_of v.text)) _ p.1 in
    let r = and_parts (nat_le (number_of v.text) greatest) _ q.1 in
    let low : nat_le least (number_of v.text) ≡ true = q.0 in
    let high : nat_le (number_of v.text) greatest ≡ true = r.0 in
    (grind (arith, nat_tests), grind (arith, nat_tests))

-- in a range, or no integer
in_range : (v : Value) (b : Bool) → is_integer v ≡ true → (is_integer v && not b) ≡ false → b ≡ true
in_range v b i e = not-false b (sym (ap (λ j. j && not b) i) ∙ e)

task_priority : (v : Value) → IsSound kinds.Task roles.Priority v → number_of v.text ≤ 63
unfolding has_form is_out_of_range
task_priority v s = (between 0 63 v (in_range v (is_between 0 63 v) s.formed s.ranged)).1

task_requests : (v : Value) → IsSound kinds.Task roles.Activation v → (1 ≤ number_of v.text) × (number_of v.text ≤ 8)
unfolding has_form is_out_of_range
task_requests v s = between 1 8 v (in_range v (is_between 1 8 v) s.formed s.ranged)

routine_priority : (v : Value) → IsSound kinds.Isr roles.Priority v → (1 ≤ number_of v.text) × (number_of v.text ≤ 16)
unfolding has_form is_out_of_range
routine_priority v s = between 1 16 v (in_range v (is_between 1 16 v) s.formed s.ranged)

only_two : (i z : Bool) (n : ℕ) → (i && (nat_le 1 n && (nat_le n 2 && z))) ≡ true → (i && (nat_le 1 n && (nat_le n 1 && z))) ≡ false → (i && (nat_le 2 n && (nat_le n 2 && z))) ≡ true
only_two false z n a b = absurd (false≢true a)
only_two true false n a b = grind (arith, nat_tests)
only_two true true n a b = grind (arith, nat_tests)

second_category : (v : Value) → IsSound kinds.Isr roles.Category v → is_between 2 2 v ≡ true
unfolding has_form is_out_of_range is_between is_role
second_category v s =
    only_two (is_integer v) (not v.negative || (number_of v.text == 0)) (number_of v.text)
    (in_range v (is_between 1 2 v) s.formed s.ranged) s.second

-- the number that a role sets is that of the attribute found
set_number : (kind : Kind) (role : Role) (attributes : List Attribute) (a : Attribute) → find (λ x. is_role (role_in kind x) role) attributes ≡ Some a → number_set kind role attributes ≡ number_of a.value.text
set_number kind role attributes a is = ap (λ o. option_map_or (λ x. number_of x.value.text) o 0) is

-- a role that an object has, in an attribute that breaks no rule
sound_role : (known : Known) (kind : Kind) (internal : Option (List ℕ)) (role : Role) (attributes : List Attribute) → ((r : Role) → is_role r role ≡ true → r ≡ role) → has_attribute kind role attributes ≡ true → All (λ a. attribute_faults known kind internal a ≡ []) attributes → (a : Attribute) × (find (λ x. is_role (role_in kind x) role) attributes ≡ Some a) × (is_role (role_in kind a) role ≡ true) × IsSound kind role a.value
sound_role known kind internal role attributes only some clean =
    let f = found (λ x. is_role (role_in kind x) role) (λ a. attribute_faults known kind internal a ≡ []) attributes some clean in
    let s = sound_attribute known kind internal f.attribute f.holds_of in
    (f.attribute, f.is, f.passes, subst (λ r. IsSound kind r f.attribute.value) (only (role_in kind f.attribute) f.passes) s)

task_bounds : (known : Known) (internal : Option (List ℕ)) (attributes : List Attribute) → lacks_attribute kinds.Task attributes ≡ false → All (λ a. attribute_faults known kinds.Task internal a ≡ []) attributes → HasTaskBounds attributes
unfolding lacks_attribute
task_bounds known internal attrs lacks clean =
    let p = or_parts (not (has_attribute kinds.Task roles.Priority attrs)) _ lacks in
    let q = or_parts (not (has_attribute kinds.Task roles.Schedule attrs)) _ p.1 in
    let r = or_parts (not (has_attribute kinds.Task roles.Activation attrs)) _ q.1 in
    let priority = sound_role known kinds.Task internal roles.Priority attrs priority_is (not-false (has_attribute kinds.Task roles.Priority attrs) p.0) clean in
    let activation = sound_role known kinds.Task internal roles.Activation attrs activation_is (not-false (has_attribute kinds.Task roles.Activation attrs) r.0) clean in
    let low = task_priority priority.0.value priority.3 in
    let few = task_requests activation.0.value activation.3 in
    let m = set_number kinds.Task roles.Priority attrs priority.0 priority.1 in
    let n = set_number kinds.Task roles.Activation attrs activation.0 activation.1 in
    record {
      priority = subst (λ k. k ≤ 63) (sym m) low;
      requested = subst (λ k. 1 ≤ k) (sym n) few.0;
      few_requests = subst (λ k. k ≤ 8) (sym n) few.1;
    }

routine_bounds : (known : Known) (internal : Option (List ℕ)) (attributes : List Attribute) → lacks_attribute kinds.Isr attributes ≡ false → All (λ a. attribute_faults known kinds.Isr internal a ≡ []) attributes → HasRoutineBounds attributes
unfolding lacks_attribute
routine_bounds known internal attrs lacks clean =
    let p = or_parts (not (has_attribute kinds.Isr roles.Category attrs)) _ lacks in
    let category = sound_role known kinds.Isr internal roles.Category attrs category_is (not-false (has_attribute kinds.Isr roles.Category attrs) p.0) clean in
    let two = second_category category.0.value category.3 in
    let is_two : has_second_category kinds.Isr attrs ≡ true = any_of_found (λ a. is_role (role_in kinds.Isr a) roles.Category) (λ a. is_between 2 2 a.value) attrs category.0 category.1 category.2 two in
    let has : has_attribute kinds.Isr roles.Priority attrs ≡ true = not-false (has_attribute kinds.Isr roles.Priority attrs) (sym (ap (λ b. b && not (has_attribute kinds.Isr roles.Priority attrs)) is_two) ∙ p.1) in
    let priority = sound_role known kinds.Isr internal roles.Priority attrs priority_is has clean in
    let b = routine_priority priority.0.value priority.3 in
    let m = set_number kinds.Isr roles.Priority attrs priority.0 priority.1 in
    record { priority_from = subst (λ k. 1 ≤ k) (sym m) b.0; priority = subst (λ k. k ≤ 16) (sym m) b.1 }

-- what an object owes that breaks no rule
clean_object : (known : Known) (kind : Kind) (name : Name) (attrs : List Attribute) → object_faults known kind name attrs ≡ [] → (lacks_attribute kind attrs ≡ false) × All (λ a. attribute_faults known kind (internal_of known kind attrs) a ≡ []) attrs
unfolding object_faults
clean_object known kind name attrs none =
    let p = both_none (when (lacks_attribute kind attrs) 12 name.place) _ none in
    let q = both_none (flat_map (attribute_faults known kind (internal_of known kind attrs)) attrs) _ p.1 in
    (holds (lacks_attribute kind attrs) 12 name.place p.0, each_none (attribute_faults known kind (internal_of known kind attrs)) attrs q.0)

bounded_task : (known : Known) (kind : Kind) (place : Place) (name : Name) (attrs : List Attribute) → is_task kind ≡ true → cond (is_passed_over kind name.text) [] (kind_faults kind place ++ object_faults known kind name attrs) ≡ [] → HasTaskBounds attrs
bounded_task known kinds.Task place name attrs is none =
    let o = clean_object known kinds.Task name attrs (both_none (kind_faults kinds.Task place) (object_faults known kinds.Task name attrs) none).1 in
    task_bounds known (internal_of known kinds.Task attrs) attrs o.0 o.1
bounded_task known _ place name attrs is none = absurd (false≢true is)

bounded_routine : (known : Known) (kind : Kind) (place : Place) (name : Name) (attrs : List Attribute) → is_routine kind ≡ true → cond (is_passed_over kind name.text) [] (kind_faults kind place ++ object_faults known kind name attrs) ≡ [] → HasRoutineBounds attrs
bounded_routine known kinds.Isr place name attrs is none =
    let o = clean_object known kinds.Isr name attrs (both_none (kind_faults kinds.Isr place) (object_faults known kinds.Isr name attrs) none).1 in
    routine_bounds known (internal_of known kinds.Isr attrs) attrs o.0 o.1
bounded_routine known _ place name attrs is none = absurd (false≢true is)

task_item : (known : Known) (x : Item) → item_faults known x ≡ [] → IsBoundedTask x
task_item known (items.Object kind name attributes) none = λ is. bounded_task known (kind_of kind.text) kind.place name (listed attributes) is none
task_item known (items.Include place) none = tt

routine_item : (known : Known) (x : Item) → item_faults known x ≡ [] → IsBoundedRoutine x
routine_item known (items.Object kind name attributes) none = λ is. bounded_routine known (kind_of kind.text) kind.place name (listed attributes) is none
routine_item known (items.Include place) none = tt

pub bounded_tasks : (these : List Item) → IsAccepted these → All IsBoundedTask these
bounded_tasks these ok =
    All-weaker (λ x. item_faults (known_of these) x ≡ []) IsBoundedTask (task_item (known_of these)) these ok.items

pub bounded_routines : (these : List Item) → IsAccepted these → All IsBoundedRoutine these
bounded_routines these ok =
    All-weaker (λ x. item_faults (known_of these) x ≡ []) IsBoundedRoutine (routine_item (known_of these)) these ok.items

-- there are attrs many resources attrs names of resources
resource_length : (x : Item) → length (resource_in x) ≡ length (name_in groups.Resources x)
unfolding is_in
resource_length (items.Object kind name attributes) = by (is_resource (kind_of kind.text) name.text)
  where
    by : (b : Bool) → length (cond b (resource_of name.text (listed attributes) ∷ []) []) ≡ length (cond b (name ∷ []) [])
    by true = refl
    by false = refl
resource_length (items.Include place) = refl

pub resources_length : (these : List Item) → length (flat_map resource_in these) ≡ length (names_in groups.Resources these)
resources_length [] = refl
resources_length (x ∷ xs) =
    let here = resource_length x in
    let rest = resources_length xs in
    omega (arith, length-append (resource_in x) (flat_map resource_in xs), length-append (name_in groups.Resources x) (names_in groups.Resources xs))

-- distinct names are no more than names
with_name_length : (names : List (List ℕ)) (n : List ℕ) → length (with_name names n) ≤ length names + 1
with_name_length names n = by (has_name names n)
  where
    by : (b : Bool) → length (cond b names (names ++ n ∷ [])) ≤ length names + 1
    by true = omega arith
    by false = omega (arith, length-append names (n ∷ []))

distinct_from : (seen names : List (List ℕ)) → length (fold with_name seen names) ≤ length seen + length names
distinct_from seen [] = omega arith
distinct_from seen (n ∷ ns) =
    let one = with_name_length seen n in
    let rest = distinct_from (with_name seen n) ns in
    omega arith

pub known_few : (these : List Item) → length (known_of these).resources ≤ length (names_in groups.Resources these)
unfolding known_of
known_few these =
    let few = distinct_from [] (texts_in groups.Resources these) in
    omega (arith, length-map (names_in groups.Resources these) (λ n. n.text))
