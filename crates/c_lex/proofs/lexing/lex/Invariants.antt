use Rattle.std.proofs.Common.{◌≡◌, ◌-◌, length}
use Rattle.c_lex.specs.CText.{Reading, IsReading}
use Rattle.c_lex.specs.Steps.{state_of, IsAt, ReadsOn}
use Rattle.c_lex.proofs.lexing.lex.Given as goal

abbrev pub invariant-loop-lexer : goal.invariant-loop-lexer
invariant-loop-lexer l = record {
  at : IsAt l.bytes l.lexer;
  goes : (whole : Reading) → ReadsOn l.bytes (state_of l.lexer) whole → IsReading l.bytes whole;
}

abbrev pub decreases-loop-lexer : goal.decreases-loop-lexer
decreases-loop-lexer l = length l.bytes - l.lexer.cursor.place.offset
