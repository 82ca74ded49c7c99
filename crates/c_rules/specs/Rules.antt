-- The rules on names, expressions and calls: the faults that are in them.
use Rattle.std.specs.Prelude.{ℕ, Bool, true, false, not, ◌&&◌, ◌||◌, if◌then◌else◌, List, [], ◌++◌, length, Option, Some, None}
use Rattle.std.specs.List.{flat_map}
use Rattle.chk_base.specs.declared.place.Place.{Place}
use Rattle.chk_base.specs.declared.text.Name.{Name}
use Rattle.c_unit.specs.declared.expression.Expression.{Expression, fold-Expression, out-Expression}
use Rattle.c_unit.specs.declared.expression.Expression.TheOpen.{Expression-F}
use Rattle.c_unit.specs.declared.expression.Argument.{Argument}
use Rattle.c_unit.specs.declared.expression.Call.{Call}
use Rattle.c_unit.specs.declared.expression.RightSide.{RightSide}
use Rattle.c_unit.specs.declared.expression.RightSide.TheVariants as rights
use Rattle.c_rules.specs.declared.first.Fault.{Fault}
use Rattle.c_rules.specs.declared.meaning.Meaning.{Meaning}
use Rattle.c_rules.specs.Meanings.{is_undeclared, is_function, is_variable, is_constant, is_misindexed, is_service, is_input, is_object, is_left_out_meaning, is_nothing, is_void, takes_other, takes_task, takes_resource, is_task, is_resource}
use Rattle.c_rules.specs.First.{when}

-- what names mean at a place of a text
abbrev pub Means : Type 0
Means = List ℕ → Meaning

-- the rules on a name that stands as value or target, with an index or without: C2, C4, C10, C16 and C20, with its place
unfoldable pub use_faults : Bool → Meaning → Place → List Fault
use_faults indexed meaning place =
    when (is_undeclared meaning) 2 place
    ++ (when (is_function meaning) 4 place
    ++ (when (is_misindexed indexed meaning) 10 place
    ++ (when (is_service meaning || is_input meaning) 16 place
    ++ when (is_object meaning) 20 place)))

-- the rules on a target: the same and C8
unfoldable pub target_faults : Bool → Meaning → Place → List Fault
target_faults indexed meaning place = use_faults indexed meaning place ++ when (is_constant meaning) 8 place

-- one level of an expression
abbrev pub expression_layer : Expression-F (Means → List Fault) → Means → List Fault
expression_layer (Expression-F.Number n) means = []
expression_layer (Expression-F.Truth place value) means = []
expression_layer (Expression-F.Variable name) means = use_faults false (means name.text) name.place
expression_layer (Expression-F.Element name index) means = use_faults true (means name.text) name.place ++ index means
expression_layer (Expression-F.Parenthesis place a) means = a means
expression_layer (Expression-F.Unary place op a) means = a means
expression_layer (Expression-F.Cast place to a) means = a means
expression_layer (Expression-F.Binary place op a b) means = a means ++ b means
expression_layer (Expression-F.Conditional place c a b) means = c means ++ (a means ++ b means)

-- the rules on the names of an expression
abbrev pub expression_faults : Expression → Means → List Fault
expression_faults = fold-Expression (Means → List Fault) expression_layer

-- the same where there is one
abbrev pub optional_faults : Option Expression → Means → List Fault
optional_faults None means = []
optional_faults (Some e) means = expression_faults e means

-- the expression is a bare name
abbrev pub bare_name : Expression → Option Name
bare_name e = by (out-Expression e)
  where
    by : Expression-F Expression → Option Name
    by (Expression-F.Variable name) = Some name
    by _ = None

-- C15: the argument of a service, which takes a task or else a resource, isn't the bare name of one
abbrev pub object_faults : Bool → Means → Argument → Option Name → List Fault
object_faults of_task means a (Some name) =
    when (not (if of_task then is_task (means name.text) else is_resource name.text (means name.text))) 15 a.place
object_faults of_task means a None = when true 15 a.place ++ expression_faults a.value means

-- the rules on an argument of what has this meaning
unfoldable pub argument_faults : Meaning → Means → Argument → List Fault
argument_faults meaning means a =
    if takes_task meaning || takes_resource meaning
    then object_faults (takes_task meaning) means a (bare_name a.value)
    else expression_faults a.value means

-- the rules on the name of a call with so many arguments: C1, C2, C4, C5 and C20
unfoldable pub called_faults : Meaning → ℕ → Place → List Fault
called_faults meaning count place =
    when (is_left_out_meaning meaning) 1 place
    ++ (when (is_nothing meaning) 2 place
    ++ (when (is_variable meaning) 4 place
    ++ (when (takes_other meaning count) 5 place
    ++ when (is_object meaning) 20 place)))

-- the rules on a call of what has this meaning: those on its name and its arguments
unfoldable pub call_faults : Meaning → Means → Call → List Fault
call_faults called means call =
    called_faults called (length call.arguments) call.name.place
    ++ flat_map (argument_faults called means) call.arguments

-- C11, the result goes to something other than a local; C12, there is none; C16, it is that of a service
unfoldable pub result_faults : Bool → Meaning → Place → List Fault
result_faults to_local meaning place =
    when ((is_function meaning || is_input meaning) && not to_local) 11 place
    ++ (when (is_void meaning) 12 place
    ++ when (is_service meaning) 16 place)

-- the rules on what is assigned, to a local or to something else
abbrev pub right_faults : Bool → Means → RightSide → List Fault
right_faults to_local means (rights.Value e) = expression_faults e means
right_faults to_local means (rights.Call call) =
    result_faults to_local (means call.name.text) call.name.place ++ call_faults (means call.name.text) means call

-- the rules on a call whose result isn't taken; C11, it is that of `oschk_input`
unfoldable pub lone_call_faults : Means → Call → List Fault
lone_call_faults means call =
    when (is_input (means call.name.text)) 11 call.name.place ++ call_faults (means call.name.text) means call
