-- The names in the functions and bodies of a typed unit whose text breaks no rule.
use Rattle.std.proofs.Common.{◌≡◌, ℕ, ◌+◌, ◌≤◌, min, nat_lt, is_some, Bool, true, false, List, [], ◌∷◌, ◌++◌, length, map, Option, Some, None, IsTrue, slice_get, true≢false, refl, sym, ap, ◌∙◌, subst, arith, append_assoc, append-nil}
use Rattle.std.specs.List.{AllByRecursion, flat_map}
use Rattle.std.specs.Option.{option_map}
use Rattle.std.proofs.lemmas.Bool.{lt-ltb, not-false}
use Rattle.std.proofs.lemmas.List.{length-map}
use Rattle.chk_base.specs.declared.place.Place.{Place}
use Rattle.chk_base.specs.declared.text.Name.{Name}
use Rattle.application.specs.declared.app.App.{App}
use Rattle.c_unit.specs.declared.expression.TypeName.{TypeName}
use Rattle.c_unit.specs.declared.unit.EntityKind.{EntityKind}
use Rattle.c_unit.specs.declared.unit.External.{External}
use Rattle.c_unit.specs.declared.unit.External.TheVariants as e
use Rattle.c_unit.specs.declared.unit.Function.{Function}
use Rattle.c_unit.specs.declared.unit.Unit.{Unit as WrittenUnit}
use Rattle.c_rules.specs.First.{when}
use Rattle.c_rules.specs.Files.{Known, nothing_of, known_of, known_meaning}
use Rattle.c_rules.specs.Scopes.{Scope, fresh}
use Rattle.c_rules.specs.StatementRules.{means_in, block_faults, after, after_block}
use Rattle.c_rules.specs.UnitRules.{ninth_faults, parameters_faults, after_parameters, is_return, ends_in_return, is_main_name, lacks_return, function_faults, external_faults, names_faults, faults}
use Rattle.c_rules.specs.Written.{WrittenStatement, WrittenBlock, NoStatement, StatementThen, written_block}
use Rattle.c_rules.specs.Written as w
use Rattle.typed_unit.specs.declared.typed.CType.{CType}
use Rattle.typed_unit.specs.Plain.{PlainExpr, PlainStatement, PlainFunction, PlainEntity, PlainUnit, block}
use Rattle.typed_unit.specs.Plain as p
use Rattle.typed_unit.specs.Conversions.{ctype_named}
use Rattle.typed_unit.specs.Typed.{local_of, locals_of, function_of, entity_of, entity_in, global_declared, typed, Fits}
use Rattle.typed_unit.specs.TypedStatements.{typed_statement, typed_statements, value_of}
use Rattle.lower_law.specs.Scoped.{IsClosed, returns_last}
use Rattle.scope_law.specs.Right.{IsRightFunction, IsRightEntity, AreRight}
use Rattle.scope_law.proofs.Meant.{front_none, back_none, unbroken, IsAbroad}
use Rattle.scope_law.proofs.Locals.{grows_block, parameters_seen, parameters_count}
use Rattle.scope_law.proofs.Blocks.{block_fine}
use Rattle.scope_law.proofs.Known.{all_append, all_weaker, all_mapped, all_at, declarations_in, functions_written, signature_of, all_variables, all_functions, globals_typed, functions_typed, IsOrderly, all_orderly, eight, HasFew, names_abroad}

-- the last of these statements is a `return`
last_return : (xs : List PlainStatement) (place : Place) (value : Option PlainExpr) → IsTrue (returns_last (block (xs ++ p.Return place value ∷ [])))
last_return [] place value = refl
last_return (x ∷ []) place value = refl
last_return (x ∷ y ∷ ys) place value = last_return (y ∷ ys) place value

module _ (known : Known) (result : Option CType) where
  -- a statement that is a `return` as it is written is one as it is typed
  one_ends : (s : WrittenStatement) (scope : Scope) (before : List PlainStatement) → is_return s ≡ true → IsTrue (returns_last (block (before ++ typed_statement known result s scope)))
  one_ends (w.Return place value) scope before h = last_return before place (value_of result value (means_in known scope))
  one_ends (w.Empty place) scope before h = absurd (true≢false (sym h))
  one_ends (w.Block place body) scope before h = absurd (true≢false (sym h))
  one_ends (w.Declare place l) scope before h = absurd (true≢false (sym h))
  one_ends (w.Do place simple) scope before h = absurd (true≢false (sym h))
  one_ends (w.If place branches otherwise) scope before h = absurd (true≢false (sym h))
  one_ends (w.While place condition body) scope before h = absurd (true≢false (sym h))
  one_ends (w.For place start condition step body) scope before h = absurd (true≢false (sym h))

  -- a body that ends in a `return` as it is written ends in one as it is typed
  ends : (body : WrittenBlock) (scope : Scope) (before : List PlainStatement) (so_far : Bool) → (so_far ≡ true → IsTrue (returns_last (block before))) → ends_in_return so_far body ≡ true → IsTrue (returns_last (block (before ++ typed_statements known result body scope)))
  ends NoStatement scope before so_far f h = subst (λ xs. IsTrue (returns_last (block xs))) (sym (append-nil before)) (f h)
  ends (StatementThen s ss) scope before so_far f h =
      let front = typed_statement known result s scope in
      let back = typed_statements known result ss (after s scope) in
      subst (λ xs. IsTrue (returns_last (block xs))) (append_assoc before front back) (ends ss (after s scope) (before ++ front) (is_return s) (one_ends s scope before) h)

-- a body with a result ends in a `return`
body_closed : (known : Known) (r : Option TypeName) (body : WrittenBlock) (scope : Scope) → lacks_return (is_some r) body ≡ false → IsClosed (option_map ctype_named r) (block (typed_statements known (option_map ctype_named r) body scope))
body_closed known None body scope h = tt
body_closed known (Some t) body scope h = ends known (Some (ctype_named t)) body scope [] false (λ never. absurd (true≢false (sym never))) (not-false (ends_in_return false body) h)

-- there is a type of the result where one is named
some_mapped : (r : Option TypeName) → is_some (option_map ctype_named r) ≡ is_some r
some_mapped None = refl
some_mapped (Some t) = refl

-- the parts of a function that break no rule
record IsSound (known : Known) (f : Function) : Type 0 where
  pub few : length f.signature.parameters ≤ 8
  pub body : block_faults known (is_some f.signature.result) (written_block f.body) (after_parameters f.signature.parameters fresh) ≡ []
  pub closed : lacks_return (is_some f.signature.result) (written_block f.body) ≡ false

-- a function without a fault is such
sound : (known : Known) (f : Function) → function_faults known f ≡ [] → IsSound known f
unfolding function_faults
sound known f h =
    let s = f.signature in
    let one = when (is_main_name s.name.text) 1 s.name.place in
    let two = ninth_faults (slice_get s.parameters 8) in
    let three = parameters_faults s.parameters fresh in
    let four = block_faults known (is_some s.result) (written_block f.body) (after_parameters s.parameters fresh) in
    let five = when (lacks_return (is_some s.result) (written_block f.body)) 14 f.close in
    let h2 = back_none one (two ++ (three ++ (four ++ five))) h in
    let h3 = back_none two (three ++ (four ++ five)) h2 in
    let h4 = back_none three (four ++ five) h3 in
    record {
      few = eight s.parameters (front_none two (three ++ (four ++ five)) h2);
      body = front_none four five h4;
      closed = unbroken (lacks_return (is_some s.result) (written_block f.body)) 14 f.close (back_none four five h4);
    }

module _ (u : PlainUnit) (known : Known) (abroad : (name : List ℕ) → IsAbroad u (known_meaning known name)) where
  -- the names in a function are right
  function_right : (f : Function) → function_faults known f ≡ [] → IsRightFunction u (function_of known f)
  unfolding function_of
  function_right f h =
      let parts = sound known f h in
      let s = f.signature in
      let body = written_block f.body in
      let scope = after_parameters s.parameters fresh in
      let last = after_block body scope in
      let r = option_map ctype_named s.result in
      let n = min (length s.parameters) 255 in
      let same : length (locals_of last) ≡ length last.locals = length-map last.locals local_of in
      let count : length scope.locals ≡ length (fresh.locals) + length s.parameters = parameters_count s.parameters fresh in
      let none : length (fresh.locals) ≡ 0 = refl in
      let more : length scope.locals ≤ length last.locals = (grows_block body scope).count in
      let few : length s.parameters ≤ 8 = parts.few in
      let fits : n ≤ length (locals_of last) = omega arith in
      let seen = parameters_seen (λ i. nat_lt i n) (length (locals_of last)) s.parameters fresh (λ i lt. (lt-ltb i n (omega arith), omega arith)) tt in
      let broken = subst (λ b. block_faults known b body scope ≡ []) (sym (some_mapped s.result)) parts.body in
      let enough : length last.locals ≤ length (locals_of last) = omega arith in
      record {
        few = fits;
        closed = body_closed known s.result body scope parts.closed;
        body = (block_fine u known abroad (length (locals_of last)) r body scope (λ i. nat_lt i n) broken seen enough).scoped;
      }

  -- the names in the body of a task or routine are right
  entity_right : (kind : EntityKind) (name : Name) (body : WrittenBlock) (close : Place) → block_faults known false body fresh ≡ [] → IsRightEntity u (entity_of known kind name body close)
  unfolding entity_of
  entity_right kind name body close h =
      let last = after_block body fresh in
      let same : length (locals_of last) ≡ length last.locals = length-map last.locals local_of in
      let enough : length last.locals ≤ length (locals_of last) = omega arith in
      (block_fine u known abroad (length (locals_of last)) None body fresh (λ i. nat_lt i 0) h tt enough).scoped

  -- so they are in each of the bodies
  one_entity : (x : External) → external_faults known x ≡ [] → AllByRecursion (IsRightEntity u) (entity_in known x)
  unfolding external_faults
  one_entity (e.Entity kind name body close) h = (entity_right kind name (written_block body) close h, tt)
  one_entity _ h = tt

  all_entities : (xs : List External) → flat_map (external_faults known) xs ≡ [] → AllByRecursion (IsRightEntity u) (flat_map (entity_in known) xs)
  all_entities [] h = tt
  all_entities (x ∷ xs) h =
      let one = external_faults known x in
      let two = flat_map (external_faults known) xs in
      all_append (IsRightEntity u) (entity_in known x) (flat_map (entity_in known) xs) (one_entity x (front_none one two h)) (all_entities xs (back_none one two h))

-- every function of a text without faults has none
abbrev IsUnbroken : Known → Function → Type 0
IsUnbroken known f = function_faults known f ≡ []

one_unbroken : (known : Known) (x : External) → external_faults known x ≡ [] → AllByRecursion (IsUnbroken known) (functions_written x)
unfolding external_faults
one_unbroken known (e.Function f) h = (h, tt)
one_unbroken known _ h = tt

all_unbroken : (known : Known) (xs : List External) → flat_map (external_faults known) xs ≡ [] → AllByRecursion (IsUnbroken known) (flat_map functions_written xs)
all_unbroken known [] h = tt
all_unbroken known (x ∷ xs) h =
    let one = external_faults known x in
    let two = flat_map (external_faults known) xs in
    all_append (IsUnbroken known) (functions_written x) (flat_map functions_written xs) (one_unbroken known x (front_none one two h)) (all_unbroken known xs (back_none one two h))

-- the same of what a unit is made of
module _ (app : App) (unit : WrittenUnit) (accepted : faults unit app ≡ []) where
  externals_unbroken : flat_map (external_faults (known_of app unit)) unit.externals ≡ []
  unfolding faults
  externals_unbroken = back_none (names_faults (nothing_of app) unit.externals) (flat_map (external_faults (known_of app unit)) unit.externals) accepted

  known_variables : (known_of app unit).variables ≡ flat_map declarations_in unit.externals
  unfolding known_of
  known_variables = all_variables unit.externals (nothing_of app)

  known_functions : (known_of app unit).functions ≡ map signature_of (flat_map functions_written unit.externals)
  unfolding known_of
  known_functions = all_functions unit.externals (nothing_of app)

  typed_globals : (typed unit app).globals ≡ map global_declared (flat_map declarations_in unit.externals)
  unfolding typed
  typed_globals = globals_typed unit.externals

  typed_functions : (typed unit app).functions ≡ map (function_of (known_of app unit)) (flat_map functions_written unit.externals)
  unfolding typed
  typed_functions = functions_typed (known_of app unit) unit.externals

  typed_entities : (typed unit app).entities ≡ flat_map (entity_in (known_of app unit)) unit.externals
  unfolding typed
  typed_entities = refl

  orderly : IsOrderly (known_of app unit)
  unfolding known_of
  orderly = all_orderly unit.externals (nothing_of app) tt

  unit_right : AreRight (typed unit app)
  unit_right =
      let u = typed unit app in
      let known = known_of app unit in
      let fs = flat_map functions_written unit.externals in
      let clean = all_unbroken known unit.externals externals_unbroken in
      let few = all_weaker (IsUnbroken known) HasFew (λ f h. (sound known f h).few) fs clean in
      let abroad = names_abroad u known (flat_map declarations_in unit.externals) fs known_variables known_functions typed_globals typed_functions few orderly in
      let right = all_mapped (IsUnbroken known) (IsRightFunction u) (function_of known) (function_right u known abroad) fs clean in
      let bodies = all_entities u known abroad unit.externals externals_unbroken in
      record {
        functions = λ g f h. all_at (IsRightFunction u) (map (function_of known) fs) g f right (ap (λ xs. slice_get xs g) (sym typed_functions) ∙ h);
        entities = λ i x h. all_at (IsRightEntity u) (flat_map (entity_in known) unit.externals) i x bodies (ap (λ xs. slice_get xs i) (sym typed_entities) ∙ h);
      }

-- the names in a typed unit of a text without faults are right
pub names_right : (app : App) (u : PlainUnit) → Fits app u → AreRight u
names_right app u fits = subst AreRight (sym fits.is_typed) (unit_right app fits.unit fits.accepted)
