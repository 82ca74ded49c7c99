-- A unit that breaks no rule on sizes is small.
use Rattle.std.proofs.Common.{◌≡◌, ℕ, ◌<◌, ◌≤◌, get_or, List, [], ◌++◌, length, Option, Some, None, ◌⊎◌, inl, inr, refl, sym, ◌∙◌}
use Rattle.std.specs.List.{flat_map, slice_get}
use Rattle.std.proofs.lemmas.Option.{none-some, slice_get_cases}
use Rattle.application.specs.declared.app.App.{App}
use Rattle.typed_unit.specs.declared.typed.GlobalVar.{GlobalVar}
use Rattle.typed_unit.specs.declared.typed.Local.{Local}
use Rattle.typed_unit.specs.Plain.{PlainFunction, PlainUnit}
use Rattle.static_rules.specs.Rules.{variable_faults, function_faults, local_faults, function_local_faults, entity_local_faults, calling_faults, resource_faults, body_faults, size_faults, faults}
use Rattle.static_rules.specs.Sites.{function_bodies}
use Rattle.scope_law.specs.Sizes.{AreFew}
use Rattle.scope_law.proofs.Parts.{front_none, back_none, each_none}

-- a list has no more than so many elements, where none stands behind them
within : {X : Type 0} (xs : List X) (n : ℕ) → slice_get xs n ≡ None → length xs ≤ n
within {X} xs n e = by (slice_get_cases xs n).1
  where
    by : ((x : X) × (n < length xs) × (slice_get xs n ≡ Some x) × (get_or xs n x ≡ x)) ⊎ ((length xs ≤ n) × (slice_get xs n ≡ None)) → length xs ≤ n
    by (inl some) = absurd (none-some some.0 (sym e ∙ some.2))
    by (inr none) = none.0

no_variable : (o : Option GlobalVar) → variable_faults o ≡ [] → o ≡ None
no_variable None e = refl
no_variable (Some g) e = absurd (cc)

no_function : (o : Option PlainFunction) → function_faults o ≡ [] → o ≡ None
no_function None e = refl
no_function (Some f) e = absurd (cc)

no_local : (o : Option Local) → local_faults o ≡ [] → o ≡ None
no_local None e = refl
no_local (Some l) e = absurd (cc)

no_size_faults : (u : PlainUnit) (app : App) → faults u app ≡ [] → size_faults u ≡ []
unfolding faults
no_size_faults u app none =
    back_none (body_faults app u) (size_faults u)
    (back_none (resource_faults app (function_bodies u.functions) u.entities) (body_faults app u ++ size_faults u)
    (back_none (calling_faults (function_bodies u.functions) u.entities) (resource_faults app (function_bodies u.functions) u.entities ++ (body_faults app u ++ size_faults u)) none))

small : (u : PlainUnit) → size_faults u ≡ [] → AreFew u
unfolding size_faults
small u none =
    let a = variable_faults (slice_get u.globals 256) in
    let b = function_faults (slice_get u.functions 64) in
    let c = flat_map function_local_faults u.functions in
    let d = flat_map entity_local_faults u.entities in
    let one = front_none a (b ++ (c ++ d)) none in
    let two = front_none b (c ++ d) (back_none a (b ++ (c ++ d)) none) in
    let rest = back_none b (c ++ d) (back_none a (b ++ (c ++ d)) none) in
    record {
      variables = within u.globals 256 (no_variable (slice_get u.globals 256) one);
      functions = within u.functions 64 (no_function (slice_get u.functions 64) two);
      locals = λ g f at. within f.locals 32 (no_local (slice_get f.locals 32) (each_none function_local_faults u.functions g f (front_none c d rest) at));
      entity_locals = λ i e at. within e.locals 32 (no_local (slice_get e.locals 32) (each_none entity_local_faults u.entities i e (back_none c d rest) at));
    }

pub few : (app : App) (u : PlainUnit) → faults u app ≡ [] → AreFew u
few app u none = small u (no_size_faults u app none)
