-- What the next token decides in the factored grammar: with which tokens each rule begins, and with which a whole text of it may go on.
use Rattle.std.specs.Prelude.{ℕ, zero, suc, false, List, [], ◌∷◌, ◌++◌, map, get_or}
use Rattle.grammar.specs.Lookahead.{Lookahead}
use Rattle.grammar.specs.Sample.{sample_of}
use Rattle.c_lex.specs.declared.token.Token.{Token}
use Rattle.c_lex.specs.declared.token.TokenKind.TheVariants as kinds
use Rattle.c_grammar.specs.declared.symbol.Symbol.{Symbol}
use Rattle.c_grammar.specs.declared.symbol.Symbol.TheVariants as s
use Rattle.c_grammar.specs.Symbols.{name_class, number_class, class_of_symbol, class_of, symbols, text_of}
use Rattle.c_grammar.specs.Written.{assignments, signs, operators}
use Rattle.c_grammar.specs.Factored.{Part, TheExternal, TheFunction, TheVariables, TheVariable, TheBounds, TheTail, TheBlock, TheStatement, TheIf, TheBranch, TheElse, TheWhile, TheFor, TheReturn, TheLocal, TheSimple, TheChange, TheRight, TheExpression, TheLevel, TheUnary, TheNameless, TheParenthesis, factored_rule, factored}

abbrev pub classes : List Symbol → List ℕ
classes xs = map class_of_symbol xs

-- ---- with which tokens a rule begins

abbrev pub type_firsts : List ℕ
type_firsts = classes (s.Int8 ∷ s.Int16 ∷ s.Int32 ∷ s.Uint8 ∷ s.Uint16 ∷ s.Uint32 ∷ s.Bool ∷ s.UnderscoreBool ∷ s.Int ∷ s.Unsigned ∷ [])

abbrev pub local_firsts : List ℕ
local_firsts = classes (s.Const ∷ s.Volatile ∷ []) ++ type_firsts

abbrev pub simple_firsts : List ℕ
simple_firsts = name_class ∷ classes (s.PlusPlus ∷ s.MinusMinus ∷ s.Assert ∷ [])

abbrev pub nameless_firsts : List ℕ
nameless_firsts = classes signs ++ classes (s.LeftParenthesis ∷ []) ++ number_class ∷ classes (s.True ∷ s.False ∷ [])

abbrev pub expression_firsts : List ℕ
expression_firsts = name_class ∷ nameless_firsts

abbrev pub part_firsts : Part → List ℕ
part_firsts TheExternal = classes (s.DeclareTask ∷ s.DeclareResource ∷ s.Task ∷ s.Isr ∷ s.Static ∷ s.Const ∷ s.Volatile ∷ s.Void ∷ []) ++ type_firsts
part_firsts TheFunction = classes (s.LeftParenthesis ∷ [])
part_firsts TheVariables = classes (s.Assign ∷ s.LeftBracket ∷ s.Comma ∷ s.Semicolon ∷ [])
part_firsts TheVariable = name_class ∷ []
part_firsts TheBounds = classes (s.LeftBracket ∷ [])
part_firsts TheTail = classes (s.Comma ∷ [])
part_firsts TheBlock = classes (s.LeftBrace ∷ [])
part_firsts TheStatement = classes (s.Semicolon ∷ s.LeftBrace ∷ s.If ∷ s.While ∷ s.For ∷ s.Return ∷ []) ++ simple_firsts ++ local_firsts
part_firsts TheIf = classes (s.If ∷ [])
part_firsts TheBranch = classes (s.If ∷ [])
part_firsts TheElse = classes (s.Else ∷ [])
part_firsts TheWhile = classes (s.While ∷ [])
part_firsts TheFor = classes (s.For ∷ [])
part_firsts TheReturn = classes (s.Return ∷ [])
part_firsts TheLocal = local_firsts
part_firsts TheSimple = simple_firsts
part_firsts TheChange = classes (s.Assign ∷ s.LeftBracket ∷ s.PlusPlus ∷ s.MinusMinus ∷ s.LeftParenthesis ∷ []) ++ classes assignments
part_firsts TheNameless = nameless_firsts
part_firsts TheParenthesis = type_firsts ++ expression_firsts
part_firsts _ = expression_firsts

-- ---- with which tokens a whole text of a rule may go on

-- the operators of the levels below this number
abbrev pub joining : ℕ → List ℕ
joining zero = []
joining (suc level) = classes (operators level) ++ joining level

abbrev pub expression_lasts : List ℕ
expression_lasts = classes (s.LeftBracket ∷ s.Question ∷ []) ++ joining 10

abbrev pub part_lasts : Part → List ℕ
part_lasts TheVariable = classes (s.Assign ∷ s.LeftBracket ∷ [])
part_lasts TheBounds = classes (s.Assign ∷ [])
part_lasts TheTail = number_class ∷ classes (s.Comma ∷ s.Minus ∷ s.True ∷ s.False ∷ [])
part_lasts TheStatement = classes (s.Else ∷ [])
part_lasts TheIf = classes (s.Else ∷ [])
part_lasts TheElse = classes (s.Else ∷ [])
part_lasts TheLocal = classes (s.Assign ∷ s.Comma ∷ s.LeftParenthesis ∷ []) ++ expression_lasts
part_lasts TheSimple = classes (s.LeftParenthesis ∷ []) ++ expression_lasts
part_lasts TheChange = classes (s.LeftParenthesis ∷ []) ++ expression_lasts
part_lasts TheRight = classes (s.LeftParenthesis ∷ []) ++ expression_lasts
part_lasts TheExpression = expression_lasts
part_lasts (TheLevel level) = classes (s.LeftBracket ∷ []) ++ joining level
part_lasts TheUnary = classes (s.LeftBracket ∷ [])
part_lasts TheNameless = classes (s.LeftBracket ∷ [])
part_lasts TheParenthesis = classes (s.LeftBracket ∷ [])
part_lasts _ = []

-- ---- which rule may begin with which

abbrev pub part_rank : Part → ℕ
part_rank TheVariables = 1
part_rank TheStatement = 2
part_rank TheIf = 1
part_rank TheUnary = 1
part_rank TheRight = 1
part_rank TheExpression = 2
part_rank (TheLevel level) = 2
part_rank TheParenthesis = 3
part_rank _ = 0

-- ---- samples

-- A token of the class.
abbrev pub token_of : ℕ → Token
token_of zero = record { kind = kinds.Name; place = record { line = 1; column = 1; offset = 0 }; text = [] }
token_of (suc zero) = record { kind = kinds.Number 0 false; place = record { line = 1; column = 1; offset = 0 }; text = [] }
token_of (suc (suc zero)) = record { kind = kinds.Mark; place = record { line = 1; column = 1; offset = 0 }; text = [] }
token_of (suc (suc (suc class))) = record { kind = kinds.Mark; place = record { line = 1; column = 1; offset = 0 }; text = text_of (get_or symbols class s.True) }

unfoldable pub lookahead : Lookahead Part Token
lookahead = record {
  grammar = factored class_of;
  firsts = part_firsts;
  lasts = part_lasts;
  rank = part_rank;
  limit = 4;
  token = token_of;
  sample = sample_of token_of factored_rule 6;
}
