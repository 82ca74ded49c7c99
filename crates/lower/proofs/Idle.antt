-- Behind the tasks and routines of an application no entity of its typed unit has a body.
use Rattle.std.proofs.Common.{◌≡◌, ℕ, ◌+◌, ◌<◌, ◌≤◌, min, Bool, true, false, if◌then◌else◌, ◌==◌, nat_lt, cond, List, [], ◌∷◌, ◌++◌, length, Option, Some, None, option_map, refl, ap, ◌∙◌, arith}
use Rattle.std.specs.Prelude.{fold}
use Rattle.std.specs.List.{flat_map, position, position_or_len}
use Rattle.std.specs.Str.{bytes_eq}
use Rattle.std.proofs.lemmas.Bool.Decides.{nat_tests}
use Rattle.application.specs.declared.app.App.{App}
use Rattle.application.specs.declared.app.Entity.{Entity}
use Rattle.application.specs.InOrder.{IsInOrder}
use Rattle.c_unit.specs.declared.unit.Declaration.{Declaration}
use Rattle.c_unit.specs.declared.unit.EntityKind.{EntityKind}
use Rattle.c_unit.specs.declared.unit.EntityKind.TheVariants as kinds
use Rattle.c_unit.specs.declared.unit.External.{External}
use Rattle.c_unit.specs.declared.unit.External.TheVariants as e
use Rattle.c_unit.specs.declared.unit.Unit.{Unit as WrittenUnit}
use Rattle.c_rules.specs.Files.{Known, known_of, nothing_of, with_external, with_variable}
use Rattle.c_rules.specs.Meanings.{task_named}
use Rattle.typed_unit.specs.Plain.{PlainEntity, PlainUnit}
use Rattle.typed_unit.specs.Typed.{Fits, entity_in, entity_named, entity_of, typed}
use Rattle.lower_law.specs.Translated.{entity_body, is_entity}

-- the number of an entity, where there is one, is below this one
abbrev Under : ℕ → Option Entity → Type 0
Under n None = Unit {0}
Under n (Some x) = x.0 < n

-- so it is in these bodies
abbrev AllUnder : ℕ → List PlainEntity → Type 0
AllUnder n [] = Unit {0}
AllUnder n (b ∷ bs) = Under n b.entity × AllUnder n bs

-- so there is no body of an entity with another number
none_behind : (n e : ℕ) (bs : List PlainEntity) → AllUnder n bs → n ≤ e → entity_body e bs ≡ None
none_behind n e [] h le = refl
none_behind n e (b ∷ bs) h le = by b.entity h.0 (none_behind n e bs h.1 le) where
  by : (o : Option Entity) → Under n o → entity_body e bs ≡ None → (if is_entity e o then Some b else entity_body e bs) ≡ None
  by None k ih = ih
  by (Some x) k ih =
      let no : (x.0 == e) ≡ false = grind (arith, nat_tests) in
      ap (λ c. if c then Some b else entity_body e bs) no ∙ ih

-- bodies behind others
under_append : (n : ℕ) (xs ys : List PlainEntity) → AllUnder n xs → AllUnder n ys → AllUnder n (xs ++ ys)
under_append n [] ys h k = k
under_append n (x ∷ xs) ys h k = (h.0, under_append n xs ys h.1 k)

-- the number of an object that has a name
numbered : {X : Type 0} (p : X → Bool) (xs : List X) (from n : ℕ) → from + length xs ≤ n → n ≤ 16 → Under n (option_map (λ k. record { 0 = min (from + k) 255 }) (position p xs))
numbered {X} p xs from n few most = by (nat_lt (position_or_len p xs) (length xs)) refl where
  by : (b : Bool) → nat_lt (position_or_len p xs) (length xs) ≡ b → Under n (option_map (λ k. record { 0 = min (from + k) 255 }) (cond b (Some (position_or_len p xs)) None))
  by true h = let k : position_or_len p xs < length xs = grind (arith, nat_tests) in omega (arith, k, few, most)
  by false h = tt

-- a task or routine that has a name
named_under : (app : App) → length app.tasks + length app.routines ≤ 16 → (kind : EntityKind) (name : List ℕ) → Under (length app.tasks + length app.routines) (entity_named app kind name)
named_under app few kinds.Task name =
    from_zero (length app.tasks + length app.routines) (task_named app name) (numbered (λ t. bytes_eq name t.name) app.tasks 0 (length app.tasks + length app.routines) (omega arith) few)
  where
    from_zero : (n : ℕ) (o : Option ℕ) → Under n (option_map (λ k. record { 0 = min (0 + k) 255 }) o) → Under n (option_map (λ k. record { 0 = min k 255 }) o)
    from_zero n None h = tt
    from_zero n (Some k) h = omega (arith, h)
named_under app few kinds.Isr name = numbered (λ r. bytes_eq name r.name) app.routines (length app.tasks) (length app.tasks + length app.routines) (omega arith) few

-- ---- the application stays what it is
variables_app : (ds : List Declaration) (known : Known) → (fold with_variable known ds).app ≡ known.app
variables_app [] known = refl
variables_app (d ∷ ds) known = variables_app ds (with_variable known d)

-- with one thing more
external_app : (known : Known) (x : External) → (with_external known x).app ≡ known.app
external_app known (e.Variables ds) = variables_app ds known
external_app known _ = refl

-- with all things
externals_app : (xs : List External) (known : Known) → (fold with_external known xs).app ≡ known.app
externals_app [] known = refl
externals_app (x ∷ xs) known = externals_app xs (with_external known x) ∙ external_app known x

-- so that it is that of the text
known_app : (app : App) (unit : WrittenUnit) → (known_of app unit).app ≡ app
unfolding known_of
known_app app unit = externals_app unit.externals (nothing_of app)

-- ---- the bodies that a text has
module _ (known : Known) (few : length known.app.tasks + length known.app.routines ≤ 16) where
  -- that of one thing
  one_under : (x : External) → AllUnder (length known.app.tasks + length known.app.routines) (entity_in known x)
  unfolding entity_of
  one_under (e.Entity kind name body close) = (named_under known.app few kind name.text, tt)
  one_under _ = tt

  -- those of all
  all_under : (xs : List External) → AllUnder (length known.app.tasks + length known.app.routines) (flat_map (entity_in known) xs)
  all_under [] = tt
  all_under (x ∷ xs) = under_append (length known.app.tasks + length known.app.routines) (entity_in known x) (flat_map (entity_in known) xs) (one_under x) (all_under xs)

-- the bodies of a typed unit
typed_entities : (app : App) (unit : WrittenUnit) → (typed unit app).entities ≡ flat_map (entity_in (known_of app unit)) unit.externals
unfolding typed
typed_entities app unit = refl

-- no other entity has a body
pub idle : (app : App) (u : PlainUnit) → IsInOrder app → Fits app u → (i : ℕ) → length app.tasks + length app.routines ≤ i → entity_body i u.entities ≡ None
idle app u order fits i le =
    let known = known_of app fits.unit in
    let same = known_app app fits.unit in
    let count = ap (λ (a : App). length a.tasks + length a.routines) same in
    let few = order.few_entities in
    let es : u.entities ≡ flat_map (entity_in known) fits.unit.externals = ap (λ (v : PlainUnit). v.entities) fits.is_typed ∙ typed_entities app fits.unit in
    ap (entity_body i) es ∙ none_behind (length known.app.tasks + length known.app.routines) i (flat_map (entity_in known) fits.unit.externals) (all_under known (omega (arith, count, few)) fits.unit.externals) (omega (arith, count, le))
