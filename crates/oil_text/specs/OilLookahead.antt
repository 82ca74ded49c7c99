-- What the next token decides in the grammar, for reading from left to right.
use Rattle.std.specs.Prelude.{ℕ, List, [], ◌∷◌, get_or}
use Rattle.grammar.specs.Lookahead.{Lookahead}
use Rattle.grammar.specs.Sample.{sample_of}
use Rattle.oil_text.specs.declared.token.Mark.TheVariants.{Equals, Semicolon, OpeningBrace, ClosingBrace, Colon, OpeningBracket, ClosingBracket, Comma, Dot, Less, Greater, Plus, Minus}
use Rattle.oil_text.specs.declared.token.Kind.{Kind}
use Rattle.oil_text.specs.declared.token.Kind.TheVariants as kinds
use Rattle.oil_text.specs.declared.token.Token.{Token}
use Rattle.oil_text.specs.OilMeaning.{nowhere}
use Rattle.oil_text.specs.OilGrammar.{Part, File, Version, Implementation, Cpu, Object, Attribute, Value, Braced, names, rule, oil}

abbrev pub firsts : Part → List ℕ
firsts File = 1 ∷ []
firsts Version = 1 ∷ []
firsts Implementation = 2 ∷ []
firsts Cpu = 3 ∷ []
firsts Object = names
firsts (Attribute below) = names
firsts Value = 6 ∷ 19 ∷ 20 ∷ 4 ∷ 5 ∷ names
firsts Braced = 10 ∷ []

abbrev rank : Part → ℕ
rank File = 1
rank _ = 0

abbrev pub kinds_of : List Kind
kinds_of =
    kinds.OtherName ∷ kinds.Version ∷ kinds.Implementation ∷ kinds.Cpu ∷ kinds.Integer ∷ kinds.Point ∷ kinds.Quoted ∷ kinds.Include ∷ kinds.Mark Equals ∷ kinds.Mark Semicolon
    ∷ kinds.Mark OpeningBrace ∷ kinds.Mark ClosingBrace ∷ kinds.Mark Colon ∷ kinds.Mark OpeningBracket ∷ kinds.Mark ClosingBracket ∷ kinds.Mark Comma ∷ kinds.Mark Dot ∷ kinds.Mark Less
    ∷ kinds.Mark Greater ∷ kinds.Mark Plus ∷ kinds.Mark Minus ∷ []

abbrev token : ℕ → Token
token class = record { kind = get_or kinds_of class kinds.OtherName; text = []; place = nowhere }

unfoldable pub lookahead : Lookahead Part Token
lookahead = record {
  grammar = oil;
  firsts = firsts;
  lasts = λ part. [];
  rank = rank;
  limit = 2;
  token = token;
  sample = sample_of token rule 3;
}
