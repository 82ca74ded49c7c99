-- The rules that a C text has to meet: the faults of a unit.
use Rattle.std.specs.Prelude.{ℕ, Bool, true, false, not, ◌&&◌, ◌||◌, ◌==◌, nat_le, List, [], ◌∷◌, ◌++◌, length, zip, slice_get, codes, Option, Some, None, is_some}
use Rattle.std.specs.List.{list_all, flat_map}
use Rattle.std.specs.Str.{bytes_eq}
use Rattle.chk_base.specs.declared.place.Place.{Place}
use Rattle.chk_base.specs.declared.text.Name.{Name}
use Rattle.application.specs.declared.app.App.{App}
use Rattle.c_unit.specs.declared.expression.TypeName.{TypeName}
use Rattle.c_unit.specs.declared.expression.TypeName.TheVariants as types
use Rattle.c_unit.specs.declared.unit.Constant.{Constant}
use Rattle.c_unit.specs.declared.unit.Constant.TheVariants as constants
use Rattle.c_unit.specs.declared.unit.Declaration.{Declaration}
use Rattle.c_unit.specs.declared.unit.External.{External}
use Rattle.c_unit.specs.declared.unit.External.TheVariants as e
use Rattle.c_unit.specs.declared.unit.Function.{Function}
use Rattle.c_unit.specs.declared.unit.Parameter.{Parameter}
use Rattle.c_unit.specs.declared.unit.Signature.{Signature}
use Rattle.c_unit.specs.declared.unit.Unit.{Unit}
use Rattle.c_unit.specs.declared.unit.Variable.{Variable}
use Rattle.c_unit.specs.declared.unit.Variable.TheVariants as v
use Rattle.c_rules.specs.declared.first.Fault.{Fault}
use Rattle.c_rules.specs.First.{when}
use Rattle.c_rules.specs.Meanings.{task_named, resource_named, object_named, system_named, is_scheduler_name}
use Rattle.c_rules.specs.Files.{Known, nothing_of, known_of, variable_name, file_named, function_named, with_variable, with_external}
use Rattle.c_rules.specs.Scopes.{Scope, fresh, is_declared, declared}
use Rattle.c_rules.specs.StatementRules.{block_faults}
use Rattle.c_rules.specs.Written.{WrittenStatement, Return, WrittenBlock, NoStatement, StatementThen, written_block}

-- C17: there is no such task
abbrev pub is_no_task : App → List ℕ → Bool
is_no_task app name = not (is_some (task_named app name))

-- C17: there is no such resource, and it isn't the scheduler as one
abbrev pub is_no_resource : App → List ℕ → Bool
is_no_resource app name = not (is_some (resource_named app name)) && not (is_scheduler_name name)

-- C6: the length of an array isn't 1 to 64
abbrev pub is_no_length : ℕ → Bool
is_no_length n = not (nat_le 1 n && nat_le n 64)

-- the place of a constant
abbrev pub constant_place : Constant → Place
constant_place (constants.Number place negative number) = place
constant_place (constants.Truth place value) = place

-- C7: an array has more constants than elements, with the first one too many
abbrev pub surplus_faults : Option Constant → List Fault
surplus_faults None = []
surplus_faults (Some c) = when true 7 (constant_place c)

-- the rules on a file-level variable
abbrev pub variable_faults : Variable → List Fault
variable_faults (v.Scalar name start) = []
variable_faults (v.Array name len constants) =
    when (is_no_length len.bits) 6 len.place ++ surplus_faults (slice_get constants len.bits)

abbrev pub declaration_faults : Declaration → List Fault
declaration_faults d = variable_faults d.variable

-- C19: a function has more than eight parameters, with the ninth's name
abbrev pub ninth_faults : Option Parameter → List Fault
ninth_faults None = []
ninth_faults (Some p) = when true 19 p.name.place

-- C3: a parameter's name is taken by another
abbrev pub parameters_faults : List Parameter → Scope → List Fault
parameters_faults [] scope = []
parameters_faults (p ∷ ps) scope =
    when (is_declared scope p.name.text) 3 p.name.place ++ parameters_faults ps (declared p.name p.type_name p.constant scope)

-- the scope after parameters
abbrev pub after_parameters : List Parameter → Scope → Scope
after_parameters [] scope = scope
after_parameters (p ∷ ps) scope = after_parameters ps (declared p.name p.type_name p.constant scope)

abbrev pub is_return : WrittenStatement → Bool
is_return (Return place value) = true
is_return _ = false

-- the last of these statements is a `return`; without one, what is known so far
abbrev pub ends_in_return : Bool → WrittenBlock → Bool
ends_in_return so_far NoStatement = so_far
ends_in_return so_far (StatementThen s ss) = ends_in_return (is_return s) ss

-- C1: the function is `main`
unfoldable pub is_main_name : List ℕ → Bool
is_main_name name = bytes_eq name (codes "main")

-- C14: a body with a result is empty, or its last statement isn't `return`
abbrev pub lacks_return : Bool → WrittenBlock → Bool
lacks_return result body = result && not (ends_in_return false body)

-- the rules on a function; its parameters and its outermost block are one scope
unfoldable pub function_faults : Known → Function → List Fault
function_faults known f =
    when (is_main_name f.signature.name.text) 1 f.signature.name.place
    ++ (ninth_faults (slice_get f.signature.parameters 8)
    ++ (parameters_faults f.signature.parameters fresh
    ++ (block_faults known (is_some f.signature.result) (written_block f.body) (after_parameters f.signature.parameters fresh)
    ++ when (lacks_return (is_some f.signature.result) (written_block f.body)) 14 f.close)))

abbrev pub same_type : TypeName → TypeName → Bool
same_type types.Int8 types.Int8 = true
same_type types.Int16 types.Int16 = true
same_type types.Int32 types.Int32 = true
same_type types.Uint8 types.Uint8 = true
same_type types.Uint16 types.Uint16 = true
same_type types.Uint32 types.Uint32 = true
same_type types.Bool types.Bool = true
same_type _ _ = false

abbrev pub same_result : Option TypeName → Option TypeName → Bool
same_result None None = true
same_result (Some a) (Some b) = same_type a b
same_result _ _ = false

abbrev pub are_same : Parameter × Parameter → Bool
are_same pq = same_type pq.0.type_name pq.1.type_name

abbrev pub same_parameters : List Parameter → List Parameter → Bool
same_parameters ps qs = (length ps == length qs) && list_all are_same (zip ps qs)

-- C18: a prototype differs from the first function of its name in the types of result or parameters
abbrev pub differs_from : Signature → Option Signature → Bool
differs_from s None = false
differs_from s (Some f) = not (same_result s.result f.result && same_parameters s.parameters f.parameters)

-- the rules on what stands at file level
unfoldable pub external_faults : Known → External → List Fault
external_faults known (e.DeclareTask name) = when (is_no_task known.app name.text) 17 name.place
external_faults known (e.DeclareResource name) = when (is_no_resource known.app name.text) 17 name.place
external_faults known (e.Entity kind name body close) = block_faults known false (written_block body) fresh
external_faults known (e.Variables ds) = flat_map declaration_faults ds
external_faults known (e.Function f) = function_faults known f
external_faults known (e.Prototype s) =
    when (differs_from s (function_named known.functions s.name.text)) 18 s.name.place

-- C3: a name of file level is that of an object of the application, a service or `oschk_input`, or it was declared before
abbrev pub is_taken : Known → List ℕ → Bool
is_taken known name =
    is_some (object_named known.app name) || (is_some (system_named name) || is_some (file_named known.files name))

abbrev pub name_faults : Known → Name → List Fault
name_faults known name = when (is_taken known name.text) 3 name.place

-- C3 of variables one after another
abbrev pub variables_faults : Known → List Declaration → List Fault
variables_faults known [] = []
variables_faults known (d ∷ ds) = name_faults known (variable_name d.variable) ++ variables_faults (with_variable known d) ds

-- C3 of what stands at file level, after what is known so far
abbrev pub taken_faults : Known → External → List Fault
taken_faults known (e.Variables ds) = variables_faults known ds
taken_faults known (e.Function f) = name_faults known f.signature.name
taken_faults known _ = []

-- the same one after another
abbrev pub names_faults : Known → List External → List Fault
names_faults known [] = []
names_faults known (x ∷ xs) = taken_faults known x ++ names_faults (with_external known x) xs

-- the faults of a unit, for an application
unfoldable pub faults : Unit → App → List Fault
faults unit app =
    names_faults (nothing_of app) unit.externals ++ flat_map (external_faults (known_of app unit)) unit.externals
