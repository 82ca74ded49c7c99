use Rattle.std.proofs.Common.{◌≡◌, ◌==◌, false, true, sym, ◌∙◌, arith}
use Rattle.c_lex.specs.Blanks.{is_blank}
use Rattle.c_lex.proofs.Cursors.{after_line_feed, after_blank, after_mark}
use Rattle.c_lex.proofs.cursor.Cursor.after.Goals as goal

pub returns-then-byte-eq10 : goal.returns-then-byte-eq10
returns-then-byte-eq10 c before e = rw c.if-byte-eq10.true (after_line_feed c.args.self before e)

pub returns-then-is_blank : goal.returns-then-is_blank
returns-then-is_blank c before e =
    let other : (c.args.byte == 10) ≡ false = grind arith in
    after_blank c.args.self before c.args.byte e other (sym c.is_blank.ensures ∙ c.if-is_blank.true)

pub returns-else-is_blank : goal.returns-else-is_blank
returns-else-is_blank c before e =
    let other : (c.args.byte == 10) ≡ false = grind arith in
    rw c.if-is_blank.false (after_mark c.args.self before c.args.byte e other (sym c.is_blank.ensures ∙ c.if-is_blank.false))
