-- The typed unit of a C text and an application.
use Rattle.std.specs.Prelude.{ℕ, zero, suc, ◌+◌, ◌-◌, ◌%◌, ◌^◌, min, true, false, ◌≡◌, List, [], ◌∷◌, ◌++◌, length, map, slice_get, Option, Some, None}
use Rattle.std.specs.List.{flat_map}
use Rattle.std.specs.Option.{option_map}
use Rattle.chk_base.specs.declared.place.Place.{Place}
use Rattle.chk_base.specs.declared.text.Name.{Name}
use Rattle.application.specs.declared.app.App.{App}
use Rattle.application.specs.declared.app.Entity.{Entity}
use Rattle.c_unit.specs.declared.unit.Constant.{Constant}
use Rattle.c_unit.specs.declared.unit.Constant.TheVariants as constants
use Rattle.c_unit.specs.declared.unit.Declaration.{Declaration}
use Rattle.c_unit.specs.declared.unit.EntityKind.{EntityKind}
use Rattle.c_unit.specs.declared.unit.EntityKind.TheVariants as kinds
use Rattle.c_unit.specs.declared.unit.External.{External}
use Rattle.c_unit.specs.declared.unit.External.TheVariants as e
use Rattle.c_unit.specs.declared.unit.Function.{Function}
use Rattle.c_unit.specs.declared.unit.Unit.{Unit}
use Rattle.c_unit.specs.declared.unit.Variable.{Variable}
use Rattle.c_unit.specs.declared.unit.Variable.TheVariants as v
use Rattle.c_rules.specs.Files.{Known, known_of}
use Rattle.c_rules.specs.Meanings.{task_named, routine_named}
use Rattle.c_rules.specs.Scopes.{Scope, Declared, fresh}
use Rattle.c_rules.specs.StatementRules.{after_block}
use Rattle.c_rules.specs.UnitRules.{after_parameters, faults}
use Rattle.c_rules.specs.Written.{WrittenBlock, written_block}
use Rattle.typed_unit.specs.declared.typed.CType.{CType}
use Rattle.typed_unit.specs.declared.typed.GlobalVar.{GlobalVar}
use Rattle.typed_unit.specs.declared.typed.Local.{Local}
use Rattle.typed_unit.specs.Plain.{PlainFunction, PlainEntity, PlainUnit, block}
use Rattle.typed_unit.specs.Conversions.{ctype_named, word_in}
use Rattle.typed_unit.specs.TypedExpressions.{length_of}
use Rattle.typed_unit.specs.TypedStatements.{typed_statements}

-- a constant as a word of 32 bits
abbrev pub constant_word : Constant → ℕ
constant_word (constants.Number place true number) = (2 ^ 32 - number.bits) % 2 ^ 32
constant_word (constants.Number place false number) = number.bits
constant_word (constants.Truth place true) = 1
constant_word (constants.Truth place false) = 0

-- what a scalar begins with
abbrev pub start_of : CType → Option Constant → ℕ
start_of t None = 0
start_of t (Some c) = word_in t (constant_word c)

-- what the first elements begin with, so many
abbrev pub starts_of : CType → List Constant → ℕ → List ℕ
starts_of t cs zero = []
starts_of t cs (suc n) = starts_of t cs n ++ start_of t (slice_get cs n) ∷ []

abbrev pub global_of : CType → Variable → GlobalVar
global_of t (v.Scalar name start) = record { name = name; ctype = t; len = None; start = start_of t start ∷ [] }
global_of t (v.Array name len constants) =
    record { name = name; ctype = t; len = Some (length_of len.bits); start = starts_of t constants (length_of len.bits) }

abbrev pub global_declared : Declaration → GlobalVar
global_declared d = global_of (ctype_named d.type_name) d.variable

-- the file-level variables that are declared
abbrev pub globals_in : External → List GlobalVar
globals_in (e.Variables ds) = map global_declared ds
globals_in _ = []

-- the locals of a body
abbrev pub local_of : Declared → Local
local_of d = record { name = d.name; ctype = ctype_named d.type_name }

abbrev pub locals_of : Scope → List Local
locals_of scope = map local_of scope.locals

unfoldable pub function_of : Known → Function → PlainFunction
function_of known f =
    record {
      name = f.signature.name;
      result = option_map ctype_named f.signature.result;
      params = min (length f.signature.parameters) 255;
      locals = locals_of (after_block (written_block f.body) (after_parameters f.signature.parameters fresh));
      body = block (typed_statements known (option_map ctype_named f.signature.result) (written_block f.body) (after_parameters f.signature.parameters fresh));
      close = f.close;
    }

-- the function that is defined
abbrev pub functions_in : Known → External → List PlainFunction
functions_in known (e.Function f) = function_of known f ∷ []
functions_in known _ = []

-- the object of the kind that has the name; an application in order has no more than 16 tasks and routines
abbrev pub entity_named : App → EntityKind → List ℕ → Option Entity
entity_named app kinds.Task name = option_map (λ n. record { 0 = min n 255 }) (task_named app name)
entity_named app kinds.Isr name = option_map (λ n. record { 0 = min (length app.tasks + n) 255 }) (routine_named app name)

-- the body of a task or routine
unfoldable pub entity_of : Known → EntityKind → Name → WrittenBlock → Place → PlainEntity
entity_of known kind name body close =
    record {
      kind = kind;
      name = name;
      entity = entity_named known.app kind name.text;
      locals = locals_of (after_block body fresh);
      body = block (typed_statements known None body fresh);
      close = close;
    }

abbrev pub entity_in : Known → External → List PlainEntity
entity_in known (e.Entity kind name body close) = entity_of known kind name (written_block body) close ∷ []
entity_in known _ = []

-- the typed unit of a text that breaks no C rule
unfoldable pub typed : Unit → App → PlainUnit
typed unit app =
    record {
      globals = flat_map globals_in unit.externals;
      functions = flat_map (functions_in (known_of app unit)) unit.externals;
      entities = flat_map (entity_in (known_of app unit)) unit.externals;
      end = unit.end;
    }

-- a typed unit fits an application: it is that of some text that breaks no C rule
pub record Fits (app : App) (typed_unit : PlainUnit) : Type 0 where
  pub unit : Unit
  pub accepted : faults unit app ≡ []
  pub is_typed : typed_unit ≡ typed unit app
