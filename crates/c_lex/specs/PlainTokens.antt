-- The tokens of a text, as plain data.
use Rattle.std.specs.Prelude.{List}
use Rattle.chk_base.specs.declared.place.Place.{Place}
use Rattle.c_lex.specs.declared.token.Token.{Token}

-- tokens in order, and the place of the text's end
pub record PlainTokens : Type 0 where
  pub items : List Token
  pub end : Place
