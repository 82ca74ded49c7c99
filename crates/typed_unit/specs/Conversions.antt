-- Types and conversions (ISO/IEC 9899:1999, 6.3.1).
use Rattle.std.specs.Prelude.{ℕ, ◌%◌, ◌^◌, Bool, true, false, ◌&&◌, ◌||◌, ◌==◌, if◌then◌else◌}
use Rattle.chk_base.specs.declared.word.Width.{Width}
use Rattle.chk_base.specs.declared.word.Width.TheVariants as w
use Rattle.chk_base.specs.declared.place.Place.{Place}
use Rattle.c_unit.specs.declared.expression.TypeName.{TypeName}
use Rattle.c_unit.specs.declared.expression.TypeName.TheVariants as types
use Rattle.c_unit.specs.declared.expression.BinaryOperator.{BinaryOperator}
use Rattle.c_unit.specs.declared.expression.BinaryOperator.TheVariants as binary
use Rattle.c_unit.specs.declared.expression.UnaryOperator.{UnaryOperator}
use Rattle.c_unit.specs.declared.expression.UnaryOperator.TheVariants as unary
use Rattle.typed_unit.specs.declared.typed.CType.{CType}
use Rattle.typed_unit.specs.declared.manner.Manner.{Manner}
use Rattle.typed_unit.specs.declared.manner.Manner.TheVariants as j
use Rattle.typed_unit.specs.Plain.{PlainExpr, Number, Truth, Local', Global, Element, Parenthesis, Unary, Cast, Binary, Conditional, Conversion, type_of}

abbrev pub ctype : Width → Bool → CType
ctype width signed = record { width = width; signed = signed }

abbrev pub int32 : CType
int32 = ctype w.W32 true

abbrev pub uint32 : CType
uint32 = ctype w.W32 false

-- the type that a name of a type stands for
abbrev pub ctype_named : TypeName → CType
ctype_named types.Int8 = ctype w.W8 true
ctype_named types.Int16 = ctype w.W16 true
ctype_named types.Int32 = int32
ctype_named types.Uint8 = ctype w.W8 false
ctype_named types.Uint16 = ctype w.W16 false
ctype_named types.Uint32 = uint32
ctype_named types.Bool = ctype w.W1 false

abbrev pub same_width : Width → Width → Bool
same_width w.W1 w.W1 = true
same_width w.W8 w.W8 = true
same_width w.W16 w.W16 = true
same_width w.W32 w.W32 = true
same_width _ _ = false

abbrev pub same_sign : Bool → Bool → Bool
same_sign true true = true
same_sign false false = true
same_sign _ _ = false

abbrev pub same_ctype : CType → CType → Bool
same_ctype a b = same_width a.width b.width && same_sign a.signed b.signed

abbrev pub is_uint32 : CType → Bool
is_uint32 t = same_ctype t uint32

-- the type of a promoted operand: `unsigned int` stays, and every other becomes `int` (6.3.1.1)
abbrev pub promotion : CType → CType
promotion t = if is_uint32 t then uint32 else int32

-- the type in which two operands are joined: `unsigned int` where one has it (6.3.1.8)
abbrev pub common : CType → CType → CType
common a b = if is_uint32 a || is_uint32 b then uint32 else int32

-- the place of an expression
abbrev pub place_of : PlainExpr → Place
place_of (Number p t n) = p
place_of (Truth p t b) = p
place_of (Local' p t l) = p
place_of (Global p t g) = p
place_of (Element p t g len i) = p
place_of (Parenthesis p t a) = p
place_of (Unary p t op a) = p
place_of (Cast p t a) = p
place_of (Binary p t op a b) = p
place_of (Conditional p t c a b) = p
place_of (Conversion p t a) = p

-- an expression with a conversion to a type, where it has another one
abbrev pub converted : CType → PlainExpr → PlainExpr
converted t e = if same_ctype t (type_of e) then e else Conversion (place_of e) t e

-- an operand after its promotion
abbrev pub promoted : PlainExpr → PlainExpr
promoted e = converted (promotion (type_of e)) e

-- an operand that is joined with another of this type
abbrev pub joined : CType → PlainExpr → PlainExpr
joined t e = converted t (promoted e)

-- an operator with one operand: `!` gives `int` (6.5.3.3)
abbrev pub unary_result : UnaryOperator → CType → CType
unary_result unary.Not t = int32
unary_result _ t = promotion t

abbrev pub unary_of : Place → UnaryOperator → PlainExpr → PlainExpr
unary_of place op a = Unary place (unary_result op (type_of a)) op (promoted a)

-- how an operator treats its operands
abbrev pub joining : BinaryOperator → Manner
joining binary.Multiply = j.Arithmetic
joining binary.Divide = j.Arithmetic
joining binary.Remainder = j.Arithmetic
joining binary.Add = j.Arithmetic
joining binary.Subtract = j.Arithmetic
joining binary.ShiftLeft = j.Shifting
joining binary.ShiftRight = j.Shifting
joining binary.Less = j.Comparing
joining binary.LessEqual = j.Comparing
joining binary.Greater = j.Comparing
joining binary.GreaterEqual = j.Comparing
joining binary.Equal = j.Comparing
joining binary.NotEqual = j.Comparing
joining binary.And = j.Arithmetic
joining binary.Xor = j.Arithmetic
joining binary.Or = j.Arithmetic
joining binary.LogicalAnd = j.Deciding
joining binary.LogicalOr = j.Deciding

-- an operator between operands that it joins in their common type, with a result of this type
abbrev pub in_common : Place → CType → BinaryOperator → PlainExpr → PlainExpr → PlainExpr
in_common place t op a b =
    Binary place t op (joined (common (type_of a) (type_of b)) a) (joined (common (type_of a) (type_of b)) b)

-- an operator between operands that are promoted each, with a result of this type
abbrev pub each_promoted : Place → CType → BinaryOperator → PlainExpr → PlainExpr → PlainExpr
each_promoted place t op a b = Binary place t op (promoted a) (promoted b)

-- an operator between two operands (6.5.5 to 6.5.14)
abbrev pub joined_as : Manner → Place → BinaryOperator → PlainExpr → PlainExpr → PlainExpr
joined_as j.Arithmetic place op a b = in_common place (common (type_of a) (type_of b)) op a b
joined_as j.Comparing place op a b = in_common place int32 op a b
joined_as j.Shifting place op a b = each_promoted place (promotion (type_of a)) op a b
joined_as j.Deciding place op a b = each_promoted place int32 op a b

unfoldable pub binary_of : Place → BinaryOperator → PlainExpr → PlainExpr → PlainExpr
binary_of place op a b = joined_as (joining op) place op a b

-- a condition and two values (6.5.15)
unfoldable pub conditional_of : Place → PlainExpr → PlainExpr → PlainExpr → PlainExpr
conditional_of place c a b =
    Conditional place (common (type_of a) (type_of b)) (promoted c) (joined (common (type_of a) (type_of b)) a) (joined (common (type_of a) (type_of b)) b)

-- a word of 32 bits that is converted to a type: modulo 2 to the width, and to `bool` 1 where it isn't 0 (6.3.1.2 and 6.3.1.3)
abbrev pub word_in : CType → ℕ → ℕ
word_in t n = by t.width
  where
    by : Width → ℕ
    by w.W1 = if n == 0 then 0 else 1
    by w.W8 = n % 2 ^ 8
    by w.W16 = n % 2 ^ 16
    by w.W32 = n % 2 ^ 32
