use Rattle.std.proofs.Common.{◌≡◌, take}
use Rattle.c_lex.specs.Cursor.{cursor_after}
use Rattle.c_lex.proofs.cursor.Cursor.advance.Given as goal

abbrev pub invariant-loop-at : goal.invariant-loop-at
invariant-loop-at l = l.cursor ≡ cursor_after (take l.at l.text)
