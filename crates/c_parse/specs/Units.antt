-- What a tree of the written grammar means as a unit.
use Rattle.std.specs.Prelude.{Bool, true, false, cond, Option, Some, None, map, List, [], ◌∷◌}
use Rattle.grammar.specs.Grammar.{Tree, Pair, Left, Right, Node, items}
use Rattle.chk_base.specs.declared.place.Place.{Place}
use Rattle.chk_base.specs.declared.text.Name.{Name}
use Rattle.c_lex.specs.declared.token.Token.{Token}
use Rattle.c_grammar.specs.declared.symbol.Symbol.TheVariants as words
use Rattle.c_expression.specs.Lexemes.{nowhere, place_at, name_of, number_of, type_of, has_const, spelled_at}
use Rattle.c_parse.specs.Statements.{block_of, close_of}
use Rattle.c_unit.specs.declared.expression.Number.{Number}
use Rattle.c_unit.specs.declared.expression.TypeName.{TypeName}
use Rattle.c_unit.specs.declared.unit.EntityKind.{EntityKind}
use Rattle.c_unit.specs.declared.unit.EntityKind.TheVariants as kinds
use Rattle.c_unit.specs.declared.unit.Constant.{Constant}
use Rattle.c_unit.specs.declared.unit.Constant.TheVariants as constants
use Rattle.c_unit.specs.declared.unit.Variable.{Variable}
use Rattle.c_unit.specs.declared.unit.Variable.TheVariants as variables
use Rattle.c_unit.specs.declared.unit.Declaration.{Declaration}
use Rattle.c_unit.specs.declared.unit.Parameter.{Parameter}
use Rattle.c_unit.specs.declared.unit.Signature.{Signature}
use Rattle.c_unit.specs.declared.unit.External.{External}
use Rattle.c_unit.specs.declared.unit.External.TheVariants as e

-- ---- constants

-- const
abbrev pub constant_of : Tree Token → Constant
constant_of (Left (Pair (Left m) n)) = constants.Number (place_at m) true (number_of n)
constant_of (Left (Pair m n)) = constants.Number (place_at n) false (number_of n)
constant_of (Right (Left t)) = constants.Truth (place_at t) true
constant_of (Right (Right t)) = constants.Truth (place_at t) false
constant_of _ = constants.Truth nowhere false

-- the place of a minus sign, if there is one
abbrev pub sign_at : Tree Token → Option Place
sign_at (Left m) = Some (place_at m)
sign_at _ = None

-- a number with a minus sign at the place or without
abbrev pub signed_by : Option Place → Number → Constant
signed_by (Some place) n = constants.Number place true n
signed_by None n = constants.Number n.place false n

-- a constant after a comma
abbrev pub further_constant : Tree Token → Constant
further_constant (Pair c k) = constant_of k
further_constant x = constant_of x

-- { "," const } [ "," ] "}" after the first constant
abbrev pub more_of : Tree Token → List Constant
more_of (Pair m x) = map further_constant (items m)
more_of _ = []

-- [ "=" "{" const { "," const } [ "," ] "}" ]
abbrev pub constants_of : Tree Token → List Constant
constants_of (Left (Pair e (Pair b (Pair a m)))) = constant_of a ∷ more_of m
constants_of _ = []

-- ---- variables

-- [ "=" const ] after the name
abbrev pub scalar_of : Name → Tree Token → Variable
scalar_of n (Left (Pair e k)) = variables.Scalar n (Some (constant_of k))
scalar_of n _ = variables.Scalar n None

-- "[" number "]" and the constants after the name
abbrev pub array_of : Name → Tree Token → Variable
array_of n (Pair o (Pair k (Pair c d))) = variables.Array n (number_of k) (constants_of d)
array_of n _ = variables.Scalar n None

-- variable
abbrev pub variable_of : Tree Token → Variable
variable_of (Node (Left (Pair n i))) = scalar_of (name_of n) i
variable_of (Node (Right (Pair n b))) = array_of (name_of n) b
variable_of x = variables.Scalar (name_of x) None

abbrev pub declared : Bool → TypeName → Variable → Declaration
declared constant type_name variable = record { type_name = type_name; constant = constant; variable = variable }

-- a variable after a comma
abbrev pub further_variable : Bool → TypeName → Tree Token → Declaration
further_variable constant type_name (Pair c v) = declared constant type_name (variable_of v)
further_variable constant type_name v = declared constant type_name (variable_of v)

-- variable { "," variable } ";"
abbrev pub variables_of : Bool → TypeName → Tree Token → List Declaration
variables_of constant type_name (Pair v (Pair vs s)) = declared constant type_name (variable_of v) ∷ map (further_variable constant type_name) (items vs)
variables_of constant type_name _ = []

-- ---- functions

-- param
abbrev pub parameter_of : Tree Token → Parameter
parameter_of (Pair q (Pair t n)) = record { type_name = type_of t; constant = has_const q; name = name_of n }
parameter_of x = record { type_name = type_of x; constant = false; name = name_of x }

abbrev pub further_parameter : Tree Token → Parameter
further_parameter (Pair c p) = parameter_of p
further_parameter x = parameter_of x

-- params
abbrev pub parameters_of : Tree Token → List Parameter
parameters_of (Right (Pair p m)) = parameter_of p ∷ map further_parameter (items m)
parameters_of _ = []

-- block or ";" after the signature
abbrev pub ended : Signature → Tree Token → External
ended signature (Left b) = e.Function (record { signature = signature; body = block_of b; close = close_of b })
ended signature _ = e.Prototype signature

-- "(" params ")" ( block | ";" ) after the result and name
abbrev pub function_of : Option TypeName → Name → Tree Token → External
function_of result n (Pair o (Pair p (Pair c x))) = ended (record { result = result; name = n; parameters = parameters_of p }) x
function_of result n _ = e.Prototype (record { result = result; name = n; parameters = [] })

-- type or "void"
abbrev pub result_of : Tree Token → Option TypeName
result_of (Left t) = Some (type_of t)
result_of _ = None

-- ---- externals

-- What stands for none.
abbrev pub no_external : External
no_external = e.DeclareTask (record { text = []; place = nowhere })

-- "DeclareTask" or "DeclareResource" with its name
abbrev pub declaring_of : Tree Token → External
declaring_of (Pair d (Pair o (Pair n x))) = cond (spelled_at words.DeclareTask d) (e.DeclareTask (name_of n)) (e.DeclareResource (name_of n))
declaring_of x = no_external

-- "TASK" or "ISR"
abbrev pub kind_of : Tree Token → EntityKind
kind_of k = cond (spelled_at words.Task k) kinds.Task kinds.Isr

-- ( "TASK" | "ISR" ) "(" name ")" block
abbrev pub entity_of : Tree Token → External
entity_of (Pair k (Pair o (Pair n (Pair c b)))) = e.Entity (kind_of k) (name_of n) (block_of b) (close_of b)
entity_of x = no_external

-- external
abbrev pub external_of : Tree Token → External
external_of (Node (Left x)) = declaring_of x
external_of (Node (Right (Left x))) = entity_of x
external_of (Node (Right (Right (Left (Pair q (Pair t x)))))) = e.Variables (variables_of (has_const q) (type_of t) x)
external_of (Node (Right (Right (Right (Pair q (Pair r (Pair n x))))))) = function_of (result_of r) (name_of n) x
external_of x = no_external

-- unit
abbrev pub externals_of : Tree Token → List External
externals_of x = map external_of (items x)

-- ---- by the factored grammar

-- What follows a variable's name.
abbrev pub initial_of : Name → Tree Token → Variable
initial_of n (Left x) = scalar_of n (Left x)
initial_of n (Right (Left b)) = array_of n b
initial_of n x = variables.Scalar n None

-- What follows the name of the first variable.
abbrev pub after_name : Bool → TypeName → Name → Tree Token → List Declaration
after_name constant type_name n (Pair i (Pair vs s)) = declared constant type_name (initial_of n i) ∷ map (further_variable constant type_name) (items vs)
after_name constant type_name n _ = []

-- What follows the qualifiers of a function without a result.
abbrev pub void_of : Tree Token → External
void_of (Pair v (Pair n f)) = function_of None (name_of n) f
void_of x = no_external

-- What follows the name of variables or of a function with a result.
abbrev pub named_of : Bool → TypeName → Name → Tree Token → External
named_of constant type_name n (Left f) = function_of (Some type_name) n f
named_of constant type_name n (Right x) = e.Variables (after_name constant type_name n x)
named_of constant type_name n x = no_external

-- What follows their qualifiers.
abbrev pub typed_of : Bool → Tree Token → External
typed_of constant (Pair t (Pair n x)) = named_of constant (type_of t) (name_of n) x
typed_of constant x = no_external

-- A function or variables.
abbrev pub defined_of : Bool → Tree Token → External
defined_of constant (Left x) = void_of x
defined_of constant (Right x) = typed_of constant x
defined_of constant x = no_external
