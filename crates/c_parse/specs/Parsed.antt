-- What tokens are read as, and why they are refused.
use Rattle.std.specs.Prelude.{◌≡◌, List, [], ◌∷◌}
use Rattle.grammar.specs.Grammar.{IsSentence}
use Rattle.grammar.specs.FirstFault.{IsFirstFault, IsCutOff, IsReadAs}
use Rattle.c_lex.specs.PlainTokens.{PlainTokens}
use Rattle.c_lex.specs.declared.token.Token.{Token}
use Rattle.c_grammar.specs.Symbols.{class_of}
use Rattle.c_grammar.specs.Written.{written, unit}
use Rattle.c_parse.specs.declared.fault.ParseFault.{ParseFault}
use Rattle.c_parse.specs.declared.fault.ParseFault.TheVariants as faults
use Rattle.c_unit.specs.declared.unit.Unit as units
use Rattle.c_parse.specs.Depth.{IsShallow, IsDepthFault}
use Rattle.c_parse.specs.Units.{externals_of}

-- The whole texts: the sentences of the written grammar.
abbrev pub IsUnit : List Token → Type 0
IsUnit text = IsSentence (written class_of) unit text

-- The tokens are nested no deeper than is read, they have exactly one tree of the written grammar, and the unit is what it means, with the
-- place of the text's end.
pub record IsUnitOf (tokens : PlainTokens) (parsed : units.Unit) : Type 0 where
  pub shallow : IsShallow tokens.items
  pub read : IsReadAs (written class_of) unit externals_of tokens.items parsed.externals
  pub end : parsed.end ≡ tokens.end

-- The fault where these tokens are left.
abbrev pub fault_at : PlainTokens → List Token → ParseFault
fault_at tokens [] = faults.EndOfText tokens.end
fault_at tokens (bad ∷ rest) = faults.Token bad.place

-- What a fault says of the tokens.
abbrev pub Refuses : PlainTokens → ParseFault → Type 0
Refuses tokens (faults.Token place) = IsShallow tokens.items × ((bad : Token) × (rest : List Token) × (bad.place ≡ place) × IsFirstFault IsUnit tokens.items bad rest)
Refuses tokens (faults.EndOfText place) = IsShallow tokens.items × IsCutOff IsUnit tokens.items × (place ≡ tokens.end)
Refuses tokens (faults.Depth place) = (bad : Token) × (rest : List Token) × (bad.place ≡ place) × IsDepthFault tokens.items bad rest
Refuses tokens faults.Memory = Unit {0}
