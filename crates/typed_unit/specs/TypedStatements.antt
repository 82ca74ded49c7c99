-- Statements with what each name means and with the types of their expressions.
use Rattle.std.specs.Prelude.{ℕ, ◌+◌, min, Bool, false, List, [], ◌∷◌, ◌++◌, length, slice_get, Option, Some, None}
use Rattle.chk_base.specs.declared.place.Place.{Place}
use Rattle.chk_base.specs.declared.text.Name.{Name}
use Rattle.application.specs.declared.app.Entity.{Entity}
use Rattle.step_ir.specs.declared.event.Service.{Service}
use Rattle.step_ir.specs.declared.event.Service.TheVariants as services
use Rattle.c_unit.specs.declared.expression.Argument.{Argument}
use Rattle.c_unit.specs.declared.expression.BinaryOperator.{BinaryOperator}
use Rattle.c_unit.specs.declared.expression.BinaryOperator.TheVariants as binary
use Rattle.c_unit.specs.declared.expression.Call.{Call}
use Rattle.c_unit.specs.declared.expression.Expression.{Expression}
use Rattle.c_unit.specs.declared.expression.RightSide.{RightSide}
use Rattle.c_unit.specs.declared.expression.RightSide.TheVariants as rights
use Rattle.c_unit.specs.declared.expression.TypeName.{TypeName}
use Rattle.c_unit.specs.declared.statement.Declarator.{Declarator}
use Rattle.c_unit.specs.declared.statement.Local.{Local}
use Rattle.c_unit.specs.declared.statement.Simple.{Simple}
use Rattle.c_unit.specs.declared.statement.Simple.TheVariants as simples
use Rattle.c_unit.specs.declared.statement.Start.{Start}
use Rattle.c_unit.specs.declared.statement.Start.TheVariants as starts
use Rattle.c_unit.specs.declared.unit.Parameter.{Parameter}
use Rattle.c_unit.specs.declared.unit.Signature.{Signature}
use Rattle.c_rules.specs.declared.meaning.Meaning.{Meaning}
use Rattle.c_rules.specs.declared.meaning.Meaning.TheVariants as m
use Rattle.c_rules.specs.declared.meaning.ServiceName.{ServiceName}
use Rattle.c_rules.specs.declared.meaning.ServiceName.TheVariants as names
use Rattle.c_rules.specs.Files.{Known}
use Rattle.c_rules.specs.Rules.{Means, bare_name}
use Rattle.c_rules.specs.Scopes.{Scope, declared, entered, left}
use Rattle.c_rules.specs.StatementRules.{means_in, after, after_block, after_branches, after_start}
use Rattle.c_rules.specs.Written.{WrittenStatement, WrittenBlock, NoStatement, StatementThen, WrittenBranches, NoBranch, BranchThen}
use Rattle.c_rules.specs.Written as written
use Rattle.typed_unit.specs.declared.typed.CType.{CType}
use Rattle.typed_unit.specs.declared.typed.Taker.{Taker}
use Rattle.typed_unit.specs.Plain.{PlainExpr, PlainStatement, PlainBlock, type_of, block}
use Rattle.typed_unit.specs.Plain as p
use Rattle.typed_unit.specs.Views.{PlainBranch, branched}
use Rattle.typed_unit.specs.Conversions.{int32, ctype_named, converted, promoted, binary_of}
use Rattle.typed_unit.specs.TypedExpressions.{typed_expression, variable_of, array_length}

-- a statement that does nothing, where a rule is broken
abbrev pub nothing_done : Place → PlainStatement
nothing_done place = p.Block place p.NoStatement

-- a value to the scalar of this meaning
abbrev pub set_of : Place → Meaning → PlainExpr → PlainStatement
set_of place (m.Local l) value = p.Set place l.number (converted (ctype_named l.type_name) value)
set_of place (m.Variable v) value = p.Write place v.number (converted (ctype_named v.type_name) value)
set_of place _ value = nothing_done place

-- a value to an element of what has this meaning
abbrev pub set_element_of : Place → Meaning → PlainExpr → PlainExpr → PlainStatement
set_element_of place (m.Variable v) index value =
    p.WriteElement place v.number (array_length v.len) (promoted index) (converted (ctype_named v.type_name) value)
set_element_of place _ index value = nothing_done place

-- the local of this meaning as what takes a result
abbrev pub taker_of : Meaning → Option Taker
taker_of (m.Local l) = Some (record { local = l.number; ctype = ctype_named l.type_name })
taker_of _ = None

-- an argument, with the type of its parameter
abbrev pub argument_of : Means → Option Parameter → Argument → PlainExpr
argument_of means None a = typed_expression a.value means
argument_of means (Some q) a = converted (ctype_named q.type_name) (typed_expression a.value means)

-- arguments, the first of which is for the parameter with this number
abbrev pub arguments_from : Means → List Parameter → ℕ → List Argument → List PlainExpr
arguments_from means parameters n [] = []
arguments_from means parameters n (a ∷ more) =
    argument_of means (slice_get parameters n) a ∷ arguments_from means parameters (n + 1) more

-- what an argument that is a bare name means
abbrev pub argument_meaning : Means → Option Argument → Meaning
argument_meaning means None = m.Nothing
argument_meaning means (Some a) = name_meaning means (bare_name a.value)
  where
    name_meaning : Means → Option Name → Meaning
    name_meaning means (Some name) = means name.text
    name_meaning means None = m.Nothing

-- the task of this meaning; an application in order has no more than 16
abbrev pub task_of : Meaning → Entity
task_of (m.Task n) = record { 0 = min n 255 }
task_of _ = record { 0 = 0 }

-- the resource of this meaning, and else the scheduler as one, whose number is that of the resources
abbrev pub resource_of : ℕ → Meaning → ℕ
resource_of scheduler (m.Resource n) = min n 255
resource_of scheduler _ = min scheduler 255

-- a service with its argument
abbrev pub service_of : ServiceName → ℕ → Meaning → Service
service_of names.ActivateTask scheduler a = services.Activate (task_of a)
service_of names.TerminateTask scheduler a = services.Terminate
service_of names.ChainTask scheduler a = services.Chain (task_of a)
service_of names.Schedule scheduler a = services.Schedule
service_of names.GetResource scheduler a = services.Get (resource_of scheduler a)
service_of names.ReleaseResource scheduler a = services.Release (resource_of scheduler a)
service_of names.DisableAllInterrupts scheduler a = services.DisableAll
service_of names.EnableAllInterrupts scheduler a = services.EnableAll
service_of names.SuspendAllInterrupts scheduler a = services.SuspendAll
service_of names.ResumeAllInterrupts scheduler a = services.ResumeAll
service_of names.SuspendOsInterrupts scheduler a = services.SuspendOs
service_of names.ResumeOsInterrupts scheduler a = services.ResumeOs

-- the place of an argument, if there is one
abbrev pub argument_place : Option Argument → Option Place
argument_place None = None
argument_place (Some a) = Some a.place

-- the parameters of a function
abbrev pub parameters_of : Option Signature → List Parameter
parameters_of None = []
parameters_of (Some f) = f.parameters

-- an input, where something takes it
abbrev pub input_of : Place → Option Taker → PlainStatement
input_of place (Some taker) = p.Input place taker
input_of place None = nothing_done place

-- a call of the function with this number
abbrev pub function_call : Known → Place → Option Taker → Means → Call → ℕ → PlainStatement
function_call known place taker means call n =
    p.Call place call.name.place n (arguments_from means (parameters_of (slice_get known.functions n)) 0 call.arguments) taker

-- a call of a service
abbrev pub service_call : Known → Place → Means → Call → ServiceName → PlainStatement
service_call known place means call s =
    p.Serve place
    (service_of s (length known.app.resources) (argument_meaning means (slice_get call.arguments 0)))
    (argument_place (slice_get call.arguments 0))

-- a call at a place, whose result is taken or not
abbrev pub call_by : Known → Place → Option Taker → Means → Call → Meaning → PlainStatement
call_by known place taker means call (m.Function f) = function_call known place taker means call f.number
call_by known place taker means call (m.Service s) = service_call known place means call s
call_by known place taker means call m.Input = input_of place taker
call_by known place taker means call _ = nothing_done place

unfoldable pub call_of : Known → Place → Option Taker → Means → Call → PlainStatement
call_of known place taker means call = call_by known place taker means call (means call.name.text)

-- an assignment to what has this meaning
abbrev pub assign_of : Known → Place → Meaning → Means → RightSide → PlainStatement
assign_of known place target means (rights.Value e) = set_of place target (typed_expression e means)
assign_of known place target means (rights.Call call) = call_of known place (taker_of target) means call

-- `x += e` and its kin: x is set to what the operator gives for x and e
abbrev pub update_of : Place → Meaning → BinaryOperator → PlainExpr → PlainStatement
update_of place target op e = set_of place target (binary_of place op (variable_of place target) e)

-- the number 1
abbrev pub one_at : Place → PlainExpr
one_at place = p.Number place int32 1

-- a statement without statements in it, at the place of its first token
unfoldable pub simple_of : Known → Means → Simple → PlainStatement
simple_of known means (simples.Assign name right) = assign_of known name.place (means name.text) means right
simple_of known means (simples.AssignElement name index value) =
    set_element_of name.place (means name.text) (typed_expression index means) (typed_expression value means)
simple_of known means (simples.Update name op value) =
    update_of name.place (means name.text) op (typed_expression value means)
simple_of known means (simples.PostIncrement name) =
    update_of name.place (means name.text) binary.Add (one_at name.place)
simple_of known means (simples.PostDecrement name) =
    update_of name.place (means name.text) binary.Subtract (one_at name.place)
simple_of known means (simples.PreIncrement place name) =
    update_of place (means name.text) binary.Add (one_at place)
simple_of known means (simples.PreDecrement place name) =
    update_of place (means name.text) binary.Subtract (one_at place)
simple_of known means (simples.Call call) = call_of known call.name.place None means call
simple_of known means (simples.Assert place condition) = p.Assert place (typed_expression condition means)

-- a local as a target, by its number
abbrev pub target_of : ℕ → TypeName → Meaning
target_of number type_name = m.Local (record { number = number; type_name = type_name; constant = false })

-- what a declared local is set to, at its name
abbrev pub initial_of : Known → Name → Meaning → Means → Option RightSide → List PlainStatement
initial_of known name target means None = []
initial_of known name target means (Some right) = assign_of known name.place target means right ∷ []

-- declared locals one after another
abbrev pub declarators_of : Known → TypeName → Bool → List Declarator → Scope → List PlainStatement
declarators_of known type_name constant [] scope = []
declarators_of known type_name constant (d ∷ ds) scope =
    initial_of known d.name (target_of (length scope.locals) type_name) (means_in known scope) d.initial
    ++ declarators_of known type_name constant ds (declared d.name type_name constant scope)

abbrev pub local_of : Known → Local → Scope → List PlainStatement
local_of known l scope = declarators_of known l.type_name l.constant l.declarators scope

-- what stands first in the head of a `for`
abbrev pub start_of : Known → Option Start → Scope → List PlainStatement
start_of known None scope = []
start_of known (Some (starts.Local l)) scope = local_of known l scope
start_of known (Some (starts.Simple s)) scope = simple_of known (means_in known scope) s ∷ []

-- what stands last in it
abbrev pub step_of : Known → Means → Option Simple → List PlainStatement
step_of known means None = []
step_of known means (Some s) = simple_of known means s ∷ []

abbrev pub optional_of : Option Expression → Means → Option PlainExpr
optional_of None means = None
optional_of (Some e) means = Some (typed_expression e means)

-- a value in the type of the result
abbrev pub result_of : Option CType → PlainExpr → PlainExpr
result_of None e = e
result_of (Some t) e = converted t e

abbrev pub value_of : Option CType → Option Expression → Means → Option PlainExpr
value_of result None means = None
value_of result (Some e) means = Some (result_of result (typed_expression e means))

abbrev mutual
  -- what a statement of a body with a result of this type does; an empty one is none, and declared locals are one each
  pub typed_statement : Known → Option CType → WrittenStatement → Scope → List PlainStatement
  typed_statement known result (written.Empty place) scope = []
  typed_statement known result (written.Block place body) scope =
      p.Block place (block (typed_statements known result body (entered scope))) ∷ []
  typed_statement known result (written.Declare place local) scope = local_of known local scope
  typed_statement known result (written.Do place simple) scope = simple_of known (means_in known scope) simple ∷ []
  typed_statement known result (written.If place branches otherwise) scope =
      branched place (typed_branches known result branches scope)
      (block (typed_statements known result otherwise (entered (after_branches branches scope)))) ∷ []
  typed_statement known result (written.While place condition body) scope =
      p.While place (typed_expression condition (means_in known scope)) (block (typed_statements known result body (entered scope))) ∷ []
  typed_statement known result (written.For place start condition step body) scope =
      p.For place
      (block (start_of known start (entered scope)))
      (optional_of condition (means_in known (after_start start (entered scope))))
      (block (step_of known (means_in known (after_start start (entered scope))) step))
      (block (typed_statements known result body (entered (after_start start (entered scope))))) ∷ []
  typed_statement known result (written.Return place value) scope =
      p.Return place (value_of result value (means_in known scope)) ∷ []

  pub typed_statements : Known → Option CType → WrittenBlock → Scope → List PlainStatement
  typed_statements known result NoStatement scope = []
  typed_statements known result (StatementThen s ss) scope =
      typed_statement known result s scope ++ typed_statements known result ss (after s scope)

  pub typed_branches : Known → Option CType → WrittenBranches → Scope → List PlainBranch
  typed_branches known result NoBranch scope = []
  typed_branches known result (BranchThen place condition body more) scope =
      record {
        place = place;
        condition = typed_expression condition (means_in known scope);
        block = block (typed_statements known result body (entered scope));
      }
      ∷ typed_branches known result more (left scope (after_block body (entered scope)))
