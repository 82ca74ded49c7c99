-- How a text is read on from within it.
use Rattle.std.specs.Prelude.{◌≡◌, ℕ, ◌≤◌, List, [], length, take, Ok, Err}
use Rattle.chk_base.specs.Places.{place_after}
use Rattle.c_lex.specs.declared.fault.LexFault.{LexFault}
use Rattle.c_lex.specs.declared.fault.LexFault.TheVariants as fault
use Rattle.c_lex.specs.declared.lexing.Lexer.{Lexer}
use Rattle.c_lex.specs.declared.token.Token.{Token}
use Rattle.c_lex.specs.Cursor.{cursor_after}
use Rattle.c_lex.specs.CText.{Reading, prepend, Reads}
use Rattle.c_lex.specs.Known.{plain_known}
use Rattle.c_lex.specs.Pieces.{Known}

-- what is known after the first pieces of a text: the names that are defined, the tokens so far, and how many bytes the pieces have
pub record State : Type 0 where
  pub known : Known
  pub tokens : List Token
  pub at : ℕ

abbrev pub state_of : Lexer → State
state_of lexer = record { known = plain_known lexer.known.entries; tokens = lexer.tokens.items; at = lexer.cursor.place.offset }

-- the next piece begins within the text, where the cursor stands
pub record IsAt (text : List ℕ) (lexer : Lexer) : Type 0 where
  pub cursor : lexer.cursor ≡ cursor_after (take lexer.cursor.place.offset text)
  pub within : lexer.cursor.place.offset ≤ length text

-- the tokens so far, and then what the rest of the text gives
pub record ReadsOn (text : List ℕ) (state : State) (whole : Reading) : Type 0 where
  pub rest : Reading
  pub reads : Reads text state.known state.at rest
  pub joined : prepend state.tokens rest ≡ whole

-- no piece is left, so the tokens are those of the text
pub record IsEndOn (text : List ℕ) (before after : Lexer) : Type 0 where
  pub reads : ReadsOn text (state_of before) (Ok after.tokens.items)
  pub place : after.cursor.place ≡ place_after text

-- the rest of the text has this as its first fault; memory may run out at any text
abbrev pub IsFaultOn : List ℕ → State → LexFault → Type 0
IsFaultOn text state fault.Memory = Unit {0}
IsFaultOn text state other = ReadsOn text state (Err other)
