-- The start, one token more, a token that is too deep, and the end.
use Rattle.std.proofs.Common.{◌∙◌, suc, drop, get_or, sym, ap, arith}
use Rattle.c_lex.specs.declared.token.Token.{Token}
use Rattle.c_parse.specs.Depth.{more_open, more_marks}
use Rattle.c_parse.proofs.Depths
use Rattle.c_parse.proofs.depth.too_deep.Goals as goal

pub each-init : goal.each-init
each-init c = Depths.starts

pub each-preserved : goal.each-preserved
each-preserved c =
    let xs = c.args.tokens.now in
    let i = c.each.token-index in
    Depths.goes_on xs i c.token-item.result c.each.braces c.each.marks c.more_open-braces.result c.more_marks-marks.result c.each-test.true (c.more_open-braces.ensures ∙ ap (λ (t : Token). more_open c.each.braces t) c.token-item.is) (c.more_marks-marks.ensures ∙ ap (λ (t : Token). more_marks c.each.marks t) c.token-item.is) (sym c.is_deep.ensures ∙ c.if-is_deep.false) c.each.invariant

pub returns-then-is_deep-clause-some : goal.returns-then-is_deep-clause-some
returns-then-is_deep-clause-some c =
    let xs = c.args.tokens.now in
    let i = c.each.token-index in
    let d = c.token-item.result in
    (get_or xs i d, drop (suc i) xs, ap (λ (t : Token). t.place) (sym c.token-item.is), Depths.stops xs i d c.each.braces c.each.marks c.more_open-braces.result c.more_marks-marks.result c.each-test.true (c.more_open-braces.ensures ∙ ap (λ (t : Token). more_open c.each.braces t) c.token-item.is) (c.more_marks-marks.ensures ∙ ap (λ (t : Token). more_marks c.each.marks t) c.token-item.is) (sym c.is_deep.ensures ∙ c.if-is_deep.true) c.each.invariant)

pub returns-clause-none : goal.returns-clause-none
returns-clause-none c = Depths.ends c.args.tokens.now c.each.token-index c.each.braces c.each.marks (omega (arith, c.each-test.false)) c.each.invariant
