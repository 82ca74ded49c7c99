-- What a name means is in the application, where it is a task or a resource.
use Rattle.std.proofs.Common.{◌≡◌, ℕ, ◌<◌, Bool, true, false, if◌then◌else◌, List, [], ◌∷◌, ◌++◌, length, fold, is_some, position, Option, Some, None, refl}
use Rattle.std.specs.Option.{option_map}
use Rattle.std.specs.Str.{bytes_eq}
use Rattle.std.proofs.lemmas.List.Quantifiers.{position-Some}
use Rattle.std.proofs.lemmas.Option.{none-some}
use Rattle.application.specs.declared.app.App.{App}
use Rattle.c_unit.specs.declared.unit.Declaration.{Declaration}
use Rattle.c_unit.specs.declared.unit.External.{External}
use Rattle.c_unit.specs.declared.unit.External.TheVariants as e
use Rattle.c_unit.specs.declared.unit.Signature.{Signature}
use Rattle.c_unit.specs.declared.unit.Unit.{Unit as WrittenUnit}
use Rattle.c_rules.specs.declared.meaning.LocalMeaning.{LocalMeaning}
use Rattle.c_rules.specs.declared.meaning.Meaning.{Meaning}
use Rattle.c_rules.specs.declared.meaning.Meaning.TheVariants as m
use Rattle.c_rules.specs.declared.meaning.ServiceName.{ServiceName}
use Rattle.c_rules.specs.Files.{Known, Files, file_named, with_file_name, nothing_of, variable_name, variable_meaning, function_meaning, with_variable, with_function, with_external, known_of, known_meaning, meaning}
use Rattle.c_rules.specs.Meanings.{or_else, or_nothing, service_named, is_left_out, is_input_name, task_named, routine_named, resource_named, object_named, system_named, left_out_named}
use Rattle.c_rules.specs.Scopes.{Visible, local_named}

-- a task or a resource is one of the application's
abbrev pub IsInApp : App → Meaning → Type 0
IsInApp app (m.Task n) = n < length app.tasks
IsInApp app (m.Resource n) = n < length app.resources
IsInApp app _ = Unit {0}

abbrev IfInApp : App → Option Meaning → Type 0
IfInApp app None = Unit {0}
IfInApp app (Some x) = IsInApp app x

-- so it is with all names of file level
abbrev pub AreInApp : App → Files → Type 0
AreInApp app [] = Unit {0}
AreInApp app (f ∷ fs) = IsInApp app f.1 × AreInApp app fs

position_inside : {X : Type 0} (p : X → Bool) (xs : List X) (n : ℕ) → position p xs ≡ Some n → n < length xs
position_inside p [] n e = absurd (none-some n e)
position_inside p (x ∷ xs) n e = (position-Some p (x ∷ xs) n x e).0

module _ (app : App) where
  else_in_app : (a b : Option Meaning) → IfInApp app a → IfInApp app b → IfInApp app (or_else a b)
  else_in_app None b h k = k
  else_in_app (Some x) b h k = h

  nothing_in_app : (o : Option Meaning) → IfInApp app o → IsInApp app (or_nothing o)
  nothing_in_app None h = tt
  nothing_in_app (Some x) h = h

  task_in_app : (o : Option ℕ) → ((n : ℕ) → o ≡ Some n → n < length app.tasks) → IfInApp app (option_map m.Task o)
  task_in_app None h = tt
  task_in_app (Some n) h = h n refl

  routine_in_app : (o : Option ℕ) → IfInApp app (option_map m.Routine o)
  routine_in_app None = tt
  routine_in_app (Some n) = tt

  resource_in_app : (o : Option ℕ) → ((n : ℕ) → o ≡ Some n → n < length app.resources) → IfInApp app (option_map m.Resource o)
  resource_in_app None h = tt
  resource_in_app (Some n) h = h n refl

  service_in_app : (o : Option ServiceName) → IfInApp app (option_map m.Service o)
  service_in_app None = tt
  service_in_app (Some s) = tt

  input_in_app : (b : Bool) → IfInApp app (if b then Some m.Input else None)
  input_in_app true = tt
  input_in_app false = tt

  left_out_in_app : (b : Bool) → IfInApp app (if b then Some m.LeftOut else None)
  left_out_in_app true = tt
  left_out_in_app false = tt

  object_in_app : (name : List ℕ) → IfInApp app (object_named app name)
  object_in_app name =
      else_in_app (option_map m.Task (task_named app name)) (or_else (option_map m.Routine (routine_named app name)) (option_map m.Resource (resource_named app name)))
      (task_in_app (task_named app name) (λ n h. position_inside (λ t. bytes_eq name t.name) app.tasks n h))
      (else_in_app (option_map m.Routine (routine_named app name)) (option_map m.Resource (resource_named app name))
      (routine_in_app (routine_named app name))
      (resource_in_app (resource_named app name) (λ n h. position_inside (λ r. bytes_eq name r.name) app.resources n h)))

  system_in_app : (name : List ℕ) → IfInApp app (system_named name)
  system_in_app name =
      else_in_app (option_map m.Service (service_named name)) (if is_input_name name then Some m.Input else None)
      (service_in_app (service_named name)) (input_in_app (is_input_name name))

  file_in_app : (files : Files) (name : List ℕ) → AreInApp app files → IfInApp app (file_named files name)
  file_in_app [] name h = tt
  file_in_app (f ∷ fs) name h = by (bytes_eq name f.0) (file_in_app fs name h.1)
    where
      by : (b : Bool) → IfInApp app (file_named fs name) → IfInApp app (if b then Some f.1 else file_named fs name)
      by true later = h.0
      by false later = later

  -- one more name
  names_joined : (xs ys : Files) → AreInApp app xs → AreInApp app ys → AreInApp app (xs ++ ys)
  names_joined [] ys h k = k
  names_joined (x ∷ xs) ys h k = (h.0, names_joined xs ys h.1 k)

  with_name_in_app : (files : Files) (name : List ℕ) (x : Meaning) → AreInApp app files → IsInApp app x → AreInApp app (with_file_name files name x)
  with_name_in_app files name x h k = by (is_some (file_named files name))
    where
      by : (b : Bool) → AreInApp app (if b then files else files ++ (name, x) ∷ [])
      by true = h
      by false = names_joined files ((name, x) ∷ []) h (k, tt)

-- of what is known, the names of file level are no tasks and resources, and the application stays
pub record IsOf (app : App) (known : Known) : Type 0 where
  pub same : known.app ≡ app
  pub names : AreInApp app known.files

variable_of_app : (app : App) (known : Known) (d : Declaration) → IsOf app known → IsOf app (with_variable known d)
variable_of_app app known d h = record {
  same = h.same;
  names = with_name_in_app app known.files (variable_name d.variable).text (variable_meaning (length known.variables) d) h.names tt;
}

function_of_app : (app : App) (known : Known) (s : Signature) → IsOf app known → IsOf app (with_function known s)
function_of_app app known s h = record {
  same = h.same;
  names = with_name_in_app app known.files s.name.text (function_meaning (length known.functions) s) h.names tt;
}

variables_of_app : (app : App) (ds : List Declaration) (known : Known) → IsOf app known → IsOf app (fold with_variable known ds)
variables_of_app app [] known h = h
variables_of_app app (d ∷ ds) known h = variables_of_app app ds (with_variable known d) (variable_of_app app known d h)

external_of_app : (app : App) (x : External) (known : Known) → IsOf app known → IsOf app (with_external known x)
external_of_app app (e.Variables ds) known h = variables_of_app app ds known h
external_of_app app (e.Function f) known h = function_of_app app known f.signature h
external_of_app app _ known h = h

externals_of_app : (app : App) (xs : List External) (known : Known) → IsOf app known → IsOf app (fold with_external known xs)
externals_of_app app [] known h = h
externals_of_app app (x ∷ xs) known h = externals_of_app app xs (with_external known x) (external_of_app app x known h)

pub known_is_of : (app : App) (unit : WrittenUnit) → IsOf app (known_of app unit)
unfolding known_of
known_is_of app unit = externals_of_app app unit.externals (nothing_of app) (record { same = refl; names = tt })

-- what a name means outside of bodies, and where some locals can be seen
outside_in_app : (known : Known) → AreInApp known.app known.files → (name : List ℕ) → IsInApp known.app (known_meaning known name)
unfolding known_meaning
outside_in_app known h name =
    nothing_in_app known.app _
    (else_in_app known.app (object_named known.app name) _ (object_in_app known.app name)
    (else_in_app known.app (system_named name) _ (system_in_app known.app name)
    (else_in_app known.app (file_named known.files name) (left_out_named name) (file_in_app known.app known.files name h)
    (left_out_in_app known.app (is_left_out name)))))

pub meaning_in_app : (known : Known) → AreInApp known.app known.files → (visible : List Visible) (name : List ℕ) → IsInApp known.app (meaning known visible name)
unfolding meaning
meaning_in_app known h visible name = by (local_named visible name) (outside_in_app known h name)
  where
    by : (o : Option LocalMeaning) → IsInApp known.app (known_meaning known name) → IsInApp known.app (or_nothing (or_else (option_map m.Local o) (Some (known_meaning known name))))
    by None outside = outside
    by (Some l) outside = tt
