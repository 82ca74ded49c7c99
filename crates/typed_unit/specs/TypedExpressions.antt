-- Expressions with what each name means and with their types.
use Rattle.std.specs.Prelude.{ℕ, min, if◌then◌else◌, Option, Some, None}
use Rattle.chk_base.specs.declared.place.Place.{Place}
use Rattle.c_unit.specs.declared.expression.Number.{Number as WrittenNumber}
use Rattle.c_unit.specs.declared.expression.Expression.{Expression, fold-Expression}
use Rattle.c_unit.specs.declared.expression.Expression.TheOpen.{Expression-F}
use Rattle.c_rules.specs.declared.meaning.Meaning.{Meaning}
use Rattle.c_rules.specs.declared.meaning.Meaning.TheVariants as m
use Rattle.c_rules.specs.Rules.{Means}
use Rattle.typed_unit.specs.Plain.{PlainExpr, Number, Truth, Local', Global, Element, Parenthesis, Cast, type_of}
use Rattle.typed_unit.specs.Conversions.{int32, uint32, ctype_named, promoted, unary_of, binary_of, conditional_of}

-- what stands where a rule is broken
abbrev pub nothing_at : Place → PlainExpr
nothing_at place = Number place int32 0

-- the length of an array, as far as 64
abbrev pub length_of : ℕ → ℕ
length_of n = min n 64

-- the value of what has this meaning
abbrev pub variable_of : Place → Meaning → PlainExpr
variable_of place (m.Local l) = Local' place (ctype_named l.type_name) l.number
variable_of place (m.Variable v) = Global place (ctype_named v.type_name) v.number
variable_of place _ = nothing_at place

-- the length of an array with this meaning
abbrev pub array_length : Option ℕ → ℕ
array_length None = 0
array_length (Some n) = length_of n

-- an element of what has this meaning
abbrev pub element_of : Place → Meaning → PlainExpr → PlainExpr
element_of place (m.Variable v) index =
    Element place (ctype_named v.type_name) v.number (array_length v.len) (promoted index)
element_of place _ index = nothing_at place

-- a number: `int`, or `unsigned int` where it is written so or too great for `int` (6.4.4.1)
abbrev pub number_of : WrittenNumber → PlainExpr
number_of n = Number n.place (if n.unsigned then uint32 else int32) n.bits

abbrev pub parenthesis_of : Place → PlainExpr → PlainExpr
parenthesis_of place a = Parenthesis place (type_of a) a

-- one level of an expression
abbrev pub typed_layer : Expression-F (Means → PlainExpr) → Means → PlainExpr
typed_layer (Expression-F.Number n) means = number_of n
typed_layer (Expression-F.Truth place value) means = Truth place int32 value
typed_layer (Expression-F.Variable name) means = variable_of name.place (means name.text)
typed_layer (Expression-F.Element name index) means = element_of name.place (means name.text) (index means)
typed_layer (Expression-F.Parenthesis place a) means = parenthesis_of place (a means)
typed_layer (Expression-F.Unary place op a) means = unary_of place op (a means)
typed_layer (Expression-F.Cast place to a) means = Cast place (ctype_named to) (a means)
typed_layer (Expression-F.Binary place op a b) means = binary_of place op (a means) (b means)
typed_layer (Expression-F.Conditional place c a b) means = conditional_of place (c means) (a means) (b means)

-- an expression where names mean this
abbrev pub typed_expression : Expression → Means → PlainExpr
typed_expression = fold-Expression (Means → PlainExpr) typed_layer
