-- The words and marks of the grammar, how they are spelled, and the class of a token.
use Rattle.std.specs.Prelude.{ℕ, cond, List, [], ◌∷◌, codes}
use Rattle.std.specs.Str.{bytes_eq}
use Rattle.c_lex.specs.declared.token.Token.{Token}
use Rattle.c_lex.specs.declared.token.TokenKind.{TokenKind}
use Rattle.c_lex.specs.declared.token.TokenKind.TheVariants as kinds
use Rattle.c_grammar.specs.declared.symbol.Symbol.{Symbol}
use Rattle.c_grammar.specs.declared.symbol.Symbol.TheVariants as s

-- The bytes that spell it.
abbrev pub text_of : Symbol → List ℕ
text_of s.True = codes "true"
text_of s.False = codes "false"
text_of s.Static = codes "static"
text_of s.Const = codes "const"
text_of s.Volatile = codes "volatile"
text_of s.Int8 = codes "int8_t"
text_of s.Int16 = codes "int16_t"
text_of s.Int32 = codes "int32_t"
text_of s.Uint8 = codes "uint8_t"
text_of s.Uint16 = codes "uint16_t"
text_of s.Uint32 = codes "uint32_t"
text_of s.Bool = codes "bool"
text_of s.UnderscoreBool = codes "_Bool"
text_of s.Int = codes "int"
text_of s.Unsigned = codes "unsigned"
text_of s.Void = codes "void"
text_of s.Task = codes "TASK"
text_of s.Isr = codes "ISR"
text_of s.DeclareTask = codes "DeclareTask"
text_of s.DeclareResource = codes "DeclareResource"
text_of s.If = codes "if"
text_of s.Else = codes "else"
text_of s.While = codes "while"
text_of s.For = codes "for"
text_of s.Return = codes "return"
text_of s.Assert = codes "assert"
text_of s.LeftParenthesis = codes "("
text_of s.RightParenthesis = codes ")"
text_of s.LeftBracket = codes "["
text_of s.RightBracket = codes "]"
text_of s.LeftBrace = codes "{"
text_of s.RightBrace = codes "}"
text_of s.Semicolon = codes ";"
text_of s.Comma = codes ","
text_of s.Question = codes "?"
text_of s.Colon = codes ":"
text_of s.Assign = codes "="
text_of s.PlusAssign = codes "+="
text_of s.MinusAssign = codes "-="
text_of s.StarAssign = codes "*="
text_of s.SlashAssign = codes "/="
text_of s.PercentAssign = codes "%="
text_of s.AmpersandAssign = codes "&="
text_of s.BarAssign = codes "|="
text_of s.CaretAssign = codes "^="
text_of s.LeftShiftAssign = codes "<<="
text_of s.RightShiftAssign = codes ">>="
text_of s.PlusPlus = codes "++"
text_of s.MinusMinus = codes "--"
text_of s.BarBar = codes "||"
text_of s.AmpersandAmpersand = codes "&&"
text_of s.Bar = codes "|"
text_of s.Caret = codes "^"
text_of s.Ampersand = codes "&"
text_of s.Equal = codes "=="
text_of s.NotEqual = codes "!="
text_of s.Less = codes "<"
text_of s.LessEqual = codes "<="
text_of s.Greater = codes ">"
text_of s.GreaterEqual = codes ">="
text_of s.LeftShift = codes "<<"
text_of s.RightShift = codes ">>"
text_of s.Plus = codes "+"
text_of s.Minus = codes "-"
text_of s.Star = codes "*"
text_of s.Slash = codes "/"
text_of s.Percent = codes "%"
text_of s.Exclamation = codes "!"
text_of s.Tilde = codes "~"

-- All of them.
abbrev pub symbols : List Symbol
symbols = s.True ∷ s.False ∷ s.Static ∷ s.Const ∷ s.Volatile ∷ s.Int8 ∷ s.Int16 ∷ s.Int32 ∷ s.Uint8 ∷ s.Uint16 ∷ s.Uint32 ∷ s.Bool ∷ s.UnderscoreBool ∷ s.Int ∷ s.Unsigned ∷ s.Void ∷ s.Task ∷ s.Isr ∷ s.DeclareTask ∷ s.DeclareResource ∷ s.If ∷ s.Else ∷ s.While ∷ s.For ∷ s.Return ∷ s.Assert ∷ s.LeftParenthesis ∷ s.RightParenthesis ∷ s.LeftBracket ∷ s.RightBracket ∷ s.LeftBrace ∷ s.RightBrace ∷ s.Semicolon ∷ s.Comma ∷ s.Question ∷ s.Colon ∷ s.Assign ∷ s.PlusAssign ∷ s.MinusAssign ∷ s.StarAssign ∷ s.SlashAssign ∷ s.PercentAssign ∷ s.AmpersandAssign ∷ s.BarAssign ∷ s.CaretAssign ∷ s.LeftShiftAssign ∷ s.RightShiftAssign ∷ s.PlusPlus ∷ s.MinusMinus ∷ s.BarBar ∷ s.AmpersandAmpersand ∷ s.Bar ∷ s.Caret ∷ s.Ampersand ∷ s.Equal ∷ s.NotEqual ∷ s.Less ∷ s.LessEqual ∷ s.Greater ∷ s.GreaterEqual ∷ s.LeftShift ∷ s.RightShift ∷ s.Plus ∷ s.Minus ∷ s.Star ∷ s.Slash ∷ s.Percent ∷ s.Exclamation ∷ s.Tilde ∷ []

-- The classes of tokens: names, numbers, what the grammar doesn't name, and each word and mark by itself.
abbrev pub name_class : ℕ
name_class = 0

abbrev pub number_class : ℕ
number_class = 1

abbrev pub other_class : ℕ
other_class = 2

abbrev pub class_of_symbol : Symbol → ℕ
class_of_symbol s.True = 3
class_of_symbol s.False = 4
class_of_symbol s.Static = 5
class_of_symbol s.Const = 6
class_of_symbol s.Volatile = 7
class_of_symbol s.Int8 = 8
class_of_symbol s.Int16 = 9
class_of_symbol s.Int32 = 10
class_of_symbol s.Uint8 = 11
class_of_symbol s.Uint16 = 12
class_of_symbol s.Uint32 = 13
class_of_symbol s.Bool = 14
class_of_symbol s.UnderscoreBool = 15
class_of_symbol s.Int = 16
class_of_symbol s.Unsigned = 17
class_of_symbol s.Void = 18
class_of_symbol s.Task = 19
class_of_symbol s.Isr = 20
class_of_symbol s.DeclareTask = 21
class_of_symbol s.DeclareResource = 22
class_of_symbol s.If = 23
class_of_symbol s.Else = 24
class_of_symbol s.While = 25
class_of_symbol s.For = 26
class_of_symbol s.Return = 27
class_of_symbol s.Assert = 28
class_of_symbol s.LeftParenthesis = 29
class_of_symbol s.RightParenthesis = 30
class_of_symbol s.LeftBracket = 31
class_of_symbol s.RightBracket = 32
class_of_symbol s.LeftBrace = 33
class_of_symbol s.RightBrace = 34
class_of_symbol s.Semicolon = 35
class_of_symbol s.Comma = 36
class_of_symbol s.Question = 37
class_of_symbol s.Colon = 38
class_of_symbol s.Assign = 39
class_of_symbol s.PlusAssign = 40
class_of_symbol s.MinusAssign = 41
class_of_symbol s.StarAssign = 42
class_of_symbol s.SlashAssign = 43
class_of_symbol s.PercentAssign = 44
class_of_symbol s.AmpersandAssign = 45
class_of_symbol s.BarAssign = 46
class_of_symbol s.CaretAssign = 47
class_of_symbol s.LeftShiftAssign = 48
class_of_symbol s.RightShiftAssign = 49
class_of_symbol s.PlusPlus = 50
class_of_symbol s.MinusMinus = 51
class_of_symbol s.BarBar = 52
class_of_symbol s.AmpersandAmpersand = 53
class_of_symbol s.Bar = 54
class_of_symbol s.Caret = 55
class_of_symbol s.Ampersand = 56
class_of_symbol s.Equal = 57
class_of_symbol s.NotEqual = 58
class_of_symbol s.Less = 59
class_of_symbol s.LessEqual = 60
class_of_symbol s.Greater = 61
class_of_symbol s.GreaterEqual = 62
class_of_symbol s.LeftShift = 63
class_of_symbol s.RightShift = 64
class_of_symbol s.Plus = 65
class_of_symbol s.Minus = 66
class_of_symbol s.Star = 67
class_of_symbol s.Slash = 68
class_of_symbol s.Percent = 69
class_of_symbol s.Exclamation = 70
class_of_symbol s.Tilde = 71

-- The class of the first symbol among these that is spelled so.
abbrev pub class_among : List Symbol → List ℕ → ℕ
class_among [] text = other_class
class_among (x ∷ xs) text = cond (bytes_eq text (text_of x)) (class_of_symbol x) (class_among xs text)

-- The class of a token: a name or a number whatever its text, anything else by its text.
abbrev pub class_of : Token → ℕ
class_of t = class_by t.kind t.text
  where
    class_by : TokenKind → List ℕ → ℕ
    class_by kinds.Name text = name_class
    class_by (kinds.Number bits unsigned) text = number_class
    class_by _ text = class_among symbols text
