-- What is known outside of every body, and what names mean.
use Rattle.std.specs.Prelude.{ℕ, if◌then◌else◌, List, [], ◌∷◌, ◌++◌, length, fold, is_some, Option, Some, None}
use Rattle.std.specs.Option.{option_map}
use Rattle.std.specs.Str.{bytes_eq}
use Rattle.chk_base.specs.declared.text.Name.{Name}
use Rattle.application.specs.declared.app.App.{App}
use Rattle.c_unit.specs.declared.unit.External.{External}
use Rattle.c_unit.specs.declared.unit.External.TheVariants as e
use Rattle.c_unit.specs.declared.unit.Declaration.{Declaration}
use Rattle.c_unit.specs.declared.unit.Variable.{Variable}
use Rattle.c_unit.specs.declared.unit.Variable.TheVariants as v
use Rattle.c_unit.specs.declared.unit.Signature.{Signature}
use Rattle.c_unit.specs.declared.unit.Unit.{Unit}
use Rattle.c_rules.specs.declared.meaning.Meaning.{Meaning}
use Rattle.c_rules.specs.declared.meaning.Meaning.TheVariants as m
use Rattle.c_rules.specs.Meanings.{or_else, or_nothing, object_named, system_named, left_out_named}
use Rattle.c_rules.specs.Scopes.{Visible, local_named}

-- names of file level, each once, with what it means
abbrev pub Files : Type 0
Files = List (List ℕ × Meaning)

-- what a name means at file level
abbrev pub file_named : Files → List ℕ → Option Meaning
file_named [] name = None
file_named (f ∷ fs) name = if bytes_eq name f.0 then Some f.1 else file_named fs name

-- with one more name, which counts only where it is new
abbrev pub with_file_name : Files → List ℕ → Meaning → Files
with_file_name files name meaning = if is_some (file_named files name) then files else files ++ (name, meaning) ∷ []

-- the application, the names of file level, and the variables and the functions in the order of the text
pub record Known : Type 0 where
  pub app : App
  pub files : Files
  pub variables : List Declaration
  pub functions : List Signature

-- nothing but the application
abbrev pub nothing_of : App → Known
nothing_of app = record { app = app; files = []; variables = []; functions = [] }

-- the name of a variable
abbrev pub variable_name : Variable → Name
variable_name (v.Scalar name start) = name
variable_name (v.Array name len constants) = name

-- the length that is written for an array
abbrev pub written_length : Variable → Option ℕ
written_length (v.Scalar name start) = None
written_length (v.Array name len constants) = Some len.bits

-- a variable by its number
abbrev pub variable_meaning : ℕ → Declaration → Meaning
variable_meaning number d =
    m.Variable (record { number = number; type_name = d.type_name; constant = d.constant; len = written_length d.variable })

-- a function by its number
abbrev pub function_meaning : ℕ → Signature → Meaning
function_meaning number f =
    m.Function (record { number = number; result = f.result; parameters = length f.parameters })

-- with one more variable
abbrev pub with_variable : Known → Declaration → Known
with_variable known d =
    record known {
      files = with_file_name known.files (variable_name d.variable).text (variable_meaning (length known.variables) d);
      variables = known.variables ++ d ∷ [];
    }

-- with one more function
abbrev pub with_function : Known → Signature → Known
with_function known f =
    record known {
      files = with_file_name known.files f.name.text (function_meaning (length known.functions) f);
      functions = known.functions ++ f ∷ [];
    }

-- with what is declared by one thing more; a prototype declares nothing
abbrev pub with_external : Known → External → Known
with_external known (e.Variables ds) = fold with_variable known ds
with_external known (e.Function f) = with_function known f.signature
with_external known _ = known

-- what is known of a unit: a name that is declared twice means its first declaration
unfoldable pub known_of : App → Unit → Known
known_of app unit = fold with_external (nothing_of app) unit.externals

-- the first function of this name
abbrev pub function_named : List Signature → List ℕ → Option Signature
function_named [] name = None
function_named (f ∷ fs) name = if bytes_eq name f.name.text then Some f else function_named fs name

-- what a name means outside of every body: objects of the application and services stand before what the text declares
unfoldable pub known_meaning : Known → List ℕ → Meaning
known_meaning known name =
    or_nothing
    (or_else (object_named known.app name)
    (or_else (system_named name)
    (or_else (file_named known.files name)
    (left_out_named name))))

-- what a name means where these locals can be seen: the innermost local, and else what it means outside
unfoldable pub meaning : Known → List Visible → List ℕ → Meaning
meaning known visible name = or_nothing (or_else (option_map m.Local (local_named visible name)) (Some (known_meaning known name)))
