-- A text is in the class of the symbol that it spells, and of no other.
use Rattle.std.proofs.Common.{◌≡◌, ℕ, ◌-◌, Bool, true, false, cond, List, [], ◌∷◌, refl, sym, ap, ◌∙◌, eq-eqb, arith}
use Rattle.std.specs.Prelude.{eqb, get_or}
use Rattle.std.specs.Str.{bytes_eq}
use Rattle.std.proofs.lemmas.Slice.Eq.{bytes_eq-Decides}
use Rattle.c_grammar.specs.declared.symbol.Symbol.{Symbol}
use Rattle.c_grammar.specs.declared.symbol.Symbol.TheVariants as s
use Rattle.c_grammar.specs.Symbols.{symbols, text_of, class_of_symbol, class_among, other_class}

-- the symbol with this class
symbol_at : ℕ → Symbol
symbol_at c = get_or symbols (c - 3) s.True

finds : (x : Symbol) → symbol_at (class_of_symbol x) ≡ x
unfolding symbol_at
finds s.True = refl
finds s.False = refl
finds s.Static = refl
finds s.Const = refl
finds s.Volatile = refl
finds s.Int8 = refl
finds s.Int16 = refl
finds s.Int32 = refl
finds s.Uint8 = refl
finds s.Uint16 = refl
finds s.Uint32 = refl
finds s.Bool = refl
finds s.UnderscoreBool = refl
finds s.Int = refl
finds s.Unsigned = refl
finds s.Void = refl
finds s.Task = refl
finds s.Isr = refl
finds s.DeclareTask = refl
finds s.DeclareResource = refl
finds s.If = refl
finds s.Else = refl
finds s.While = refl
finds s.For = refl
finds s.Return = refl
finds s.Assert = refl
finds s.LeftParenthesis = refl
finds s.RightParenthesis = refl
finds s.LeftBracket = refl
finds s.RightBracket = refl
finds s.LeftBrace = refl
finds s.RightBrace = refl
finds s.Semicolon = refl
finds s.Comma = refl
finds s.Question = refl
finds s.Colon = refl
finds s.Assign = refl
finds s.PlusAssign = refl
finds s.MinusAssign = refl
finds s.StarAssign = refl
finds s.SlashAssign = refl
finds s.PercentAssign = refl
finds s.AmpersandAssign = refl
finds s.BarAssign = refl
finds s.CaretAssign = refl
finds s.LeftShiftAssign = refl
finds s.RightShiftAssign = refl
finds s.PlusPlus = refl
finds s.MinusMinus = refl
finds s.BarBar = refl
finds s.AmpersandAmpersand = refl
finds s.Bar = refl
finds s.Caret = refl
finds s.Ampersand = refl
finds s.Equal = refl
finds s.NotEqual = refl
finds s.Less = refl
finds s.LessEqual = refl
finds s.Greater = refl
finds s.GreaterEqual = refl
finds s.LeftShift = refl
finds s.RightShift = refl
finds s.Plus = refl
finds s.Minus = refl
finds s.Star = refl
finds s.Slash = refl
finds s.Percent = refl
finds s.Exclamation = refl
finds s.Tilde = refl

same_class : (x y : Symbol) → class_of_symbol x ≡ class_of_symbol y → x ≡ y
same_class x y e = sym (finds x) ∙ ap symbol_at e ∙ finds y

not_other : (x : Symbol) → other_class ≡ class_of_symbol x → ⊥
not_other s.True h = cc
not_other s.False h = cc
not_other s.Static h = cc
not_other s.Const h = cc
not_other s.Volatile h = cc
not_other s.Int8 h = cc
not_other s.Int16 h = cc
not_other s.Int32 h = cc
not_other s.Uint8 h = cc
not_other s.Uint16 h = cc
not_other s.Uint32 h = cc
not_other s.Bool h = cc
not_other s.UnderscoreBool h = cc
not_other s.Int h = cc
not_other s.Unsigned h = cc
not_other s.Void h = cc
not_other s.Task h = cc
not_other s.Isr h = cc
not_other s.DeclareTask h = cc
not_other s.DeclareResource h = cc
not_other s.If h = cc
not_other s.Else h = cc
not_other s.While h = cc
not_other s.For h = cc
not_other s.Return h = cc
not_other s.Assert h = cc
not_other s.LeftParenthesis h = cc
not_other s.RightParenthesis h = cc
not_other s.LeftBracket h = cc
not_other s.RightBracket h = cc
not_other s.LeftBrace h = cc
not_other s.RightBrace h = cc
not_other s.Semicolon h = cc
not_other s.Comma h = cc
not_other s.Question h = cc
not_other s.Colon h = cc
not_other s.Assign h = cc
not_other s.PlusAssign h = cc
not_other s.MinusAssign h = cc
not_other s.StarAssign h = cc
not_other s.SlashAssign h = cc
not_other s.PercentAssign h = cc
not_other s.AmpersandAssign h = cc
not_other s.BarAssign h = cc
not_other s.CaretAssign h = cc
not_other s.LeftShiftAssign h = cc
not_other s.RightShiftAssign h = cc
not_other s.PlusPlus h = cc
not_other s.MinusMinus h = cc
not_other s.BarBar h = cc
not_other s.AmpersandAmpersand h = cc
not_other s.Bar h = cc
not_other s.Caret h = cc
not_other s.Ampersand h = cc
not_other s.Equal h = cc
not_other s.NotEqual h = cc
not_other s.Less h = cc
not_other s.LessEqual h = cc
not_other s.Greater h = cc
not_other s.GreaterEqual h = cc
not_other s.LeftShift h = cc
not_other s.RightShift h = cc
not_other s.Plus h = cc
not_other s.Minus h = cc
not_other s.Star h = cc
not_other s.Slash h = cc
not_other s.Percent h = cc
not_other s.Exclamation h = cc
not_other s.Tilde h = cc

own_class : (x : Symbol) → class_among symbols (text_of x) ≡ class_of_symbol x
own_class s.True = refl
own_class s.False = refl
own_class s.Static = refl
own_class s.Const = refl
own_class s.Volatile = refl
own_class s.Int8 = refl
own_class s.Int16 = refl
own_class s.Int32 = refl
own_class s.Uint8 = refl
own_class s.Uint16 = refl
own_class s.Uint32 = refl
own_class s.Bool = refl
own_class s.UnderscoreBool = refl
own_class s.Int = refl
own_class s.Unsigned = refl
own_class s.Void = refl
own_class s.Task = refl
own_class s.Isr = refl
own_class s.DeclareTask = refl
own_class s.DeclareResource = refl
own_class s.If = refl
own_class s.Else = refl
own_class s.While = refl
own_class s.For = refl
own_class s.Return = refl
own_class s.Assert = refl
own_class s.LeftParenthesis = refl
own_class s.RightParenthesis = refl
own_class s.LeftBracket = refl
own_class s.RightBracket = refl
own_class s.LeftBrace = refl
own_class s.RightBrace = refl
own_class s.Semicolon = refl
own_class s.Comma = refl
own_class s.Question = refl
own_class s.Colon = refl
own_class s.Assign = refl
own_class s.PlusAssign = refl
own_class s.MinusAssign = refl
own_class s.StarAssign = refl
own_class s.SlashAssign = refl
own_class s.PercentAssign = refl
own_class s.AmpersandAssign = refl
own_class s.BarAssign = refl
own_class s.CaretAssign = refl
own_class s.LeftShiftAssign = refl
own_class s.RightShiftAssign = refl
own_class s.PlusPlus = refl
own_class s.MinusMinus = refl
own_class s.BarBar = refl
own_class s.AmpersandAmpersand = refl
own_class s.Bar = refl
own_class s.Caret = refl
own_class s.Ampersand = refl
own_class s.Equal = refl
own_class s.NotEqual = refl
own_class s.Less = refl
own_class s.LessEqual = refl
own_class s.Greater = refl
own_class s.GreaterEqual = refl
own_class s.LeftShift = refl
own_class s.RightShift = refl
own_class s.Plus = refl
own_class s.Minus = refl
own_class s.Star = refl
own_class s.Slash = refl
own_class s.Percent = refl
own_class s.Exclamation = refl
own_class s.Tilde = refl

pub not_name : (x : Symbol) → eqb (class_of_symbol x) 0 ≡ false
not_name s.True = refl
not_name s.False = refl
not_name s.Static = refl
not_name s.Const = refl
not_name s.Volatile = refl
not_name s.Int8 = refl
not_name s.Int16 = refl
not_name s.Int32 = refl
not_name s.Uint8 = refl
not_name s.Uint16 = refl
not_name s.Uint32 = refl
not_name s.Bool = refl
not_name s.UnderscoreBool = refl
not_name s.Int = refl
not_name s.Unsigned = refl
not_name s.Void = refl
not_name s.Task = refl
not_name s.Isr = refl
not_name s.DeclareTask = refl
not_name s.DeclareResource = refl
not_name s.If = refl
not_name s.Else = refl
not_name s.While = refl
not_name s.For = refl
not_name s.Return = refl
not_name s.Assert = refl
not_name s.LeftParenthesis = refl
not_name s.RightParenthesis = refl
not_name s.LeftBracket = refl
not_name s.RightBracket = refl
not_name s.LeftBrace = refl
not_name s.RightBrace = refl
not_name s.Semicolon = refl
not_name s.Comma = refl
not_name s.Question = refl
not_name s.Colon = refl
not_name s.Assign = refl
not_name s.PlusAssign = refl
not_name s.MinusAssign = refl
not_name s.StarAssign = refl
not_name s.SlashAssign = refl
not_name s.PercentAssign = refl
not_name s.AmpersandAssign = refl
not_name s.BarAssign = refl
not_name s.CaretAssign = refl
not_name s.LeftShiftAssign = refl
not_name s.RightShiftAssign = refl
not_name s.PlusPlus = refl
not_name s.MinusMinus = refl
not_name s.BarBar = refl
not_name s.AmpersandAmpersand = refl
not_name s.Bar = refl
not_name s.Caret = refl
not_name s.Ampersand = refl
not_name s.Equal = refl
not_name s.NotEqual = refl
not_name s.Less = refl
not_name s.LessEqual = refl
not_name s.Greater = refl
not_name s.GreaterEqual = refl
not_name s.LeftShift = refl
not_name s.RightShift = refl
not_name s.Plus = refl
not_name s.Minus = refl
not_name s.Star = refl
not_name s.Slash = refl
not_name s.Percent = refl
not_name s.Exclamation = refl
not_name s.Tilde = refl

pub not_number : (x : Symbol) → eqb (class_of_symbol x) 1 ≡ false
not_number s.True = refl
not_number s.False = refl
not_number s.Static = refl
not_number s.Const = refl
not_number s.Volatile = refl
not_number s.Int8 = refl
not_number s.Int16 = refl
not_number s.Int32 = refl
not_number s.Uint8 = refl
not_number s.Uint16 = refl
not_number s.Uint32 = refl
not_number s.Bool = refl
not_number s.UnderscoreBool = refl
not_number s.Int = refl
not_number s.Unsigned = refl
not_number s.Void = refl
not_number s.Task = refl
not_number s.Isr = refl
not_number s.DeclareTask = refl
not_number s.DeclareResource = refl
not_number s.If = refl
not_number s.Else = refl
not_number s.While = refl
not_number s.For = refl
not_number s.Return = refl
not_number s.Assert = refl
not_number s.LeftParenthesis = refl
not_number s.RightParenthesis = refl
not_number s.LeftBracket = refl
not_number s.RightBracket = refl
not_number s.LeftBrace = refl
not_number s.RightBrace = refl
not_number s.Semicolon = refl
not_number s.Comma = refl
not_number s.Question = refl
not_number s.Colon = refl
not_number s.Assign = refl
not_number s.PlusAssign = refl
not_number s.MinusAssign = refl
not_number s.StarAssign = refl
not_number s.SlashAssign = refl
not_number s.PercentAssign = refl
not_number s.AmpersandAssign = refl
not_number s.BarAssign = refl
not_number s.CaretAssign = refl
not_number s.LeftShiftAssign = refl
not_number s.RightShiftAssign = refl
not_number s.PlusPlus = refl
not_number s.MinusMinus = refl
not_number s.BarBar = refl
not_number s.AmpersandAmpersand = refl
not_number s.Bar = refl
not_number s.Caret = refl
not_number s.Ampersand = refl
not_number s.Equal = refl
not_number s.NotEqual = refl
not_number s.Less = refl
not_number s.LessEqual = refl
not_number s.Greater = refl
not_number s.GreaterEqual = refl
not_number s.LeftShift = refl
not_number s.RightShift = refl
not_number s.Plus = refl
not_number s.Minus = refl
not_number s.Star = refl
not_number s.Slash = refl
not_number s.Percent = refl
not_number s.Exclamation = refl
not_number s.Tilde = refl

-- a text in the class of a symbol spells it
spells : (xs : List Symbol) (text : List ℕ) (x : Symbol) → class_among xs text ≡ class_of_symbol x → text ≡ text_of x
spells [] text x e = absurd (not_other x e)
spells (y ∷ ys) text x e = by_test (bytes_eq text (text_of y)) refl e (λ g. spells ys text x g)
  where
    by_test : (b : Bool) → bytes_eq text (text_of y) ≡ b → cond b (class_of_symbol y) (class_among ys text) ≡ class_of_symbol x → (class_among ys text ≡ class_of_symbol x → text ≡ text_of x) → text ≡ text_of x
    by_test true f g again = (bytes_eq-Decides text (text_of y)).0 f ∙ ap text_of (same_class y x g)
    by_test false f g again = again g

is_equal : (a b : ℕ) → eqb a b ≡ true → a ≡ b
is_equal a b h = grind (arith, h)

pub spelled_is : (x : Symbol) (text : List ℕ) → bytes_eq text (text_of x) ≡ eqb (class_of_symbol x) (class_among symbols text)
spelled_is x text = by_test (bytes_eq text (text_of x)) refl (eqb (class_of_symbol x) (class_among symbols text)) refl
  where
    by_test : (b : Bool) → bytes_eq text (text_of x) ≡ b → (c : Bool) → eqb (class_of_symbol x) (class_among symbols text) ≡ c → b ≡ c
    by_test true f true g = refl
    by_test false f false g = refl
    by_test true f false g =
        let same : text ≡ text_of x = (bytes_eq-Decides text (text_of x)).0 f in
        let own : class_among symbols text ≡ class_of_symbol x = ap (class_among symbols) same ∙ own_class x in
        sym (eq-eqb (class_of_symbol x) (class_among symbols text) (sym own)) ∙ g
    by_test false f true g =
        let own = is_equal (class_of_symbol x) (class_among symbols text) g in
        sym f ∙ (bytes_eq-Decides text (text_of x)).1 (spells symbols text x (sym own))

flipped : (a b : ℕ) → eqb b a ≡ false → eqb a b ≡ false
flipped a b h = grind (arith, h)

-- the class of a word or mark is that of no name and of no number
above_one : (xs : List Symbol) (text : List ℕ) → (eqb 0 (class_among xs text) ≡ false) × (eqb 1 (class_among xs text) ≡ false)
above_one [] text = (refl, refl)
above_one (y ∷ ys) text = by_test (bytes_eq text (text_of y)) (above_one ys text)
  where
    by_test : (b : Bool) → (eqb 0 (class_among ys text) ≡ false) × (eqb 1 (class_among ys text) ≡ false) → (eqb 0 (cond b (class_of_symbol y) (class_among ys text)) ≡ false) × (eqb 1 (cond b (class_of_symbol y) (class_among ys text)) ≡ false)
    by_test true again = (flipped 0 (class_of_symbol y) (not_name y), flipped 1 (class_of_symbol y) (not_number y))
    by_test false again = again

pub no_name : (text : List ℕ) → eqb 0 (class_among symbols text) ≡ false
no_name text = (above_one symbols text).0

pub no_number : (text : List ℕ) → eqb 1 (class_among symbols text) ≡ false
no_number text = (above_one symbols text).1
