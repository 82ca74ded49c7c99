-- What single tokens of a tree mean.
use Rattle.std.specs.Prelude.{ℕ, Bool, false, cond, eqb, List, [], ◌∷◌}
use Rattle.std.specs.List.{list_any}
use Rattle.grammar.specs.Grammar.{Tree, Leaf, Left, items}
use Rattle.chk_base.specs.declared.place.Place.{Place}
use Rattle.chk_base.specs.declared.text.Name.{Name}
use Rattle.c_lex.specs.declared.token.Token.{Token}
use Rattle.c_lex.specs.declared.token.TokenKind.{TokenKind}
use Rattle.c_lex.specs.declared.token.TokenKind.TheVariants as kinds
use Rattle.c_grammar.specs.declared.symbol.Symbol.{Symbol}
use Rattle.c_grammar.specs.declared.symbol.Symbol.TheVariants as s
use Rattle.c_grammar.specs.Symbols.{class_of_symbol}
use Rattle.c_expression.specs.Reads.{class_at}
use Rattle.c_unit.specs.declared.expression.Number.{Number}
use Rattle.c_unit.specs.declared.expression.TypeName.{TypeName}
use Rattle.c_unit.specs.declared.expression.TypeName.TheVariants as types
use Rattle.c_unit.specs.declared.expression.UnaryOperator.{UnaryOperator}
use Rattle.c_unit.specs.declared.expression.UnaryOperator.TheVariants as unary
use Rattle.c_unit.specs.declared.expression.BinaryOperator.{BinaryOperator}
use Rattle.c_unit.specs.declared.expression.BinaryOperator.TheVariants as binary

-- No place of a text: that of a tree without tokens.
abbrev pub nowhere : Place
nowhere = record { line = 0; column = 0; offset = 0 }

-- The place of the first of these tokens.
abbrev pub first_place : List Token → Place
first_place [] = nowhere
first_place (t ∷ ts) = t.place

-- The place of a token.
abbrev pub place_at : Tree Token → Place
place_at (Leaf t) = t.place
place_at _ = nowhere

-- A name with its place.
abbrev pub name_of : Tree Token → Name
name_of (Leaf t) = record { text = t.text; place = t.place }
name_of _ = record { text = []; place = nowhere }

-- A number with its place.
abbrev pub number_of : Tree Token → Number
number_of (Leaf t) = number_by t.kind t.place
  where
    number_by : TokenKind → Place → Number
    number_by (kinds.Number bits unsigned) place = record { place = place; bits = bits; unsigned = unsigned }
    number_by _ place = record { place = place; bits = 0; unsigned = false }
number_of _ = record { place = nowhere; bits = 0; unsigned = false }

-- Is the token spelled so?
abbrev pub is_spelled : Symbol → Token → Bool
is_spelled x t = eqb (class_of_symbol x) (class_at t)

-- The type that one word names, by its class; bool and _Bool are one.
abbrev pub type_class : ℕ → TypeName
type_class c =
    cond (eqb (class_of_symbol s.Int8) c) types.Int8
    (cond (eqb (class_of_symbol s.Int16) c) types.Int16
    (cond (eqb (class_of_symbol s.Int32) c) types.Int32
    (cond (eqb (class_of_symbol s.Uint8) c) types.Uint8
    (cond (eqb (class_of_symbol s.Uint16) c) types.Uint16
    (cond (eqb (class_of_symbol s.Uint32) c) types.Uint32
    (cond (eqb (class_of_symbol s.Int) c) types.Int32
    types.Bool))))))

-- A type; 'unsigned' and 'unsigned int' are one.
abbrev pub type_of : Tree Token → TypeName
type_of (Left (Leaf t)) = type_class (class_at t)
type_of _ = types.Uint32

-- The sign before a unary, by its class: - + ! and ~.
abbrev pub sign_class : ℕ → UnaryOperator
sign_class c =
    cond (eqb (class_of_symbol s.Minus) c) unary.Minus
    (cond (eqb (class_of_symbol s.Plus) c) unary.Plus
    (cond (eqb (class_of_symbol s.Exclamation) c) unary.Not
    unary.Complement))

abbrev pub sign_of : Tree Token → UnaryOperator
sign_of (Leaf t) = sign_class (class_at t)
sign_of _ = unary.Complement

-- The operator between two operands, by the class of its token.
abbrev pub binary_class : ℕ → BinaryOperator
binary_class c =
    cond (eqb (class_of_symbol s.Star) c) binary.Multiply
    (cond (eqb (class_of_symbol s.Slash) c) binary.Divide
    (cond (eqb (class_of_symbol s.Percent) c) binary.Remainder
    (cond (eqb (class_of_symbol s.Plus) c) binary.Add
    (cond (eqb (class_of_symbol s.Minus) c) binary.Subtract
    (cond (eqb (class_of_symbol s.LeftShift) c) binary.ShiftLeft
    (cond (eqb (class_of_symbol s.RightShift) c) binary.ShiftRight
    (cond (eqb (class_of_symbol s.Less) c) binary.Less
    (cond (eqb (class_of_symbol s.LessEqual) c) binary.LessEqual
    (cond (eqb (class_of_symbol s.Greater) c) binary.Greater
    (cond (eqb (class_of_symbol s.GreaterEqual) c) binary.GreaterEqual
    (cond (eqb (class_of_symbol s.Equal) c) binary.Equal
    (cond (eqb (class_of_symbol s.NotEqual) c) binary.NotEqual
    (cond (eqb (class_of_symbol s.Ampersand) c) binary.And
    (cond (eqb (class_of_symbol s.Caret) c) binary.Xor
    (cond (eqb (class_of_symbol s.Bar) c) binary.Or
    (cond (eqb (class_of_symbol s.AmpersandAmpersand) c) binary.LogicalAnd
    binary.LogicalOr))))))))))))))))

abbrev pub binary_of : Tree Token → BinaryOperator
binary_of (Leaf t) = binary_class (class_at t)
binary_of _ = binary.LogicalOr

-- The operator that an assignment means, by the class of its token.
abbrev pub assigned_class : ℕ → BinaryOperator
assigned_class c =
    cond (eqb (class_of_symbol s.PlusAssign) c) binary.Add
    (cond (eqb (class_of_symbol s.MinusAssign) c) binary.Subtract
    (cond (eqb (class_of_symbol s.StarAssign) c) binary.Multiply
    (cond (eqb (class_of_symbol s.SlashAssign) c) binary.Divide
    (cond (eqb (class_of_symbol s.PercentAssign) c) binary.Remainder
    (cond (eqb (class_of_symbol s.AmpersandAssign) c) binary.And
    (cond (eqb (class_of_symbol s.BarAssign) c) binary.Or
    (cond (eqb (class_of_symbol s.CaretAssign) c) binary.Xor
    (cond (eqb (class_of_symbol s.LeftShiftAssign) c) binary.ShiftLeft
    binary.ShiftRight))))))))

abbrev pub assigned_of : Tree Token → BinaryOperator
assigned_of (Leaf t) = assigned_class (class_at t)
assigned_of _ = binary.ShiftRight

-- Is the token at a leaf spelled so?
abbrev pub spelled_at : Symbol → Tree Token → Bool
spelled_at x (Leaf t) = is_spelled x t
spelled_at x _ = false

-- Is the qualifier const?
abbrev pub is_const : Tree Token → Bool
is_const x = spelled_at s.Const x

-- Does const stand among these qualifiers?
abbrev pub has_const : Tree Token → Bool
has_const x = list_any is_const (items x)
