-- How deep a text is nested, and where it is nested too deep.
use Rattle.std.specs.Prelude.{◌≡◌, ℕ, suc, ◌-◌, Bool, true, false, ◌||◌, cond, nat_le, not, List, [], ◌∷◌, ◌++◌, map}
use Rattle.std.specs.List.{fold}
use Rattle.grammar.specs.Grammar.{has}
use Rattle.c_lex.specs.declared.token.Token.{Token}
use Rattle.c_grammar.specs.declared.symbol.Symbol.{Symbol}
use Rattle.c_grammar.specs.declared.symbol.Symbol.TheVariants.{LeftParenthesis, LeftBracket, LeftBrace, RightBrace, Semicolon, Question, Assign, PlusAssign, MinusAssign, StarAssign, SlashAssign, PercentAssign, AmpersandAssign, BarAssign, CaretAssign, LeftShiftAssign, RightShiftAssign, PlusPlus, MinusMinus, BarBar, AmpersandAmpersand, Bar, Caret, Ampersand, Equal, NotEqual, Less, LessEqual, Greater, GreaterEqual, LeftShift, RightShift, Plus, Minus, Star, Slash, Percent, Exclamation, Tilde}
use Rattle.c_grammar.specs.Symbols.{class_of, class_of_symbol}

-- Is the token one of these words and marks?
abbrev pub is_one : List Symbol → Token → Bool
is_one xs t = has (map class_of_symbol xs) (class_of t)

-- The marks that deepen an expression: "(", "[", "?" and the marks of operators, assignments among them.
abbrev pub deepening : List Symbol
deepening = LeftParenthesis ∷ LeftBracket ∷ Question ∷ Assign ∷ PlusAssign ∷ MinusAssign ∷ StarAssign ∷ SlashAssign ∷ PercentAssign ∷ AmpersandAssign ∷ BarAssign ∷ CaretAssign ∷ LeftShiftAssign ∷ RightShiftAssign ∷ PlusPlus ∷ MinusMinus ∷ BarBar ∷ AmpersandAmpersand ∷ Bar ∷ Caret ∷ Ampersand ∷ Equal ∷ NotEqual ∷ Less ∷ LessEqual ∷ Greater ∷ GreaterEqual ∷ LeftShift ∷ RightShift ∷ Plus ∷ Minus ∷ Star ∷ Slash ∷ Percent ∷ Exclamation ∷ Tilde ∷ []

-- The marks after which an expression begins anew.
abbrev pub ending : List Symbol
ending = Semicolon ∷ LeftBrace ∷ RightBrace ∷ []

-- How many "{" are open after one more token; a "}" where none is open changes nothing.
abbrev pub more_open : ℕ → Token → ℕ
more_open n t = cond (is_one (LeftBrace ∷ []) t) (suc n) (cond (is_one (RightBrace ∷ []) t) (n - 1) n)

-- How many deepening marks stand since the last ending one, after one more token.
abbrev pub more_marks : ℕ → Token → ℕ
more_marks n t = cond (is_one ending t) 0 (cond (is_one deepening t) (suc n) n)

-- How many "{" are open after these tokens.
abbrev pub open_braces : List Token → ℕ
open_braces ts = fold more_open 0 ts

-- How many deepening marks stand in these tokens since the last ending one, or the start.
abbrev pub open_marks : List Token → ℕ
open_marks ts = fold more_marks 0 ts

-- One of the two is above 64.
abbrev pub is_deep : List Token → Bool
is_deep ts = not (nat_le (open_braces ts) 64) || not (nat_le (open_marks ts) 64)

-- No front of the text is too deep.
abbrev pub IsShallow : List Token → Type 0
IsShallow text = (front more : List Token) → text ≡ front ++ more → is_deep front ≡ false

-- The text up to the bad token is the shortest front that is too deep.
pub record IsDepthFault (text : List Token) (bad : Token) (rest : List Token) : Type 0 where
  pub before : List Token
  pub parts : text ≡ before ++ bad ∷ rest
  pub shallow : IsShallow before
  pub deep : is_deep (before ++ bad ∷ []) ≡ true
