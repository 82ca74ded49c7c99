use Rattle.std.proofs.Common.{◌≡◌, decimal, sym, ap, ◌∙◌, arith}
use Rattle.std.proofs.lemmas.Fmt.{parse-decimal}
use Rattle.std.proofs.lemmas.Slice.Eq.{bytes_eq-Decides}
use Rattle.command_words.proofs.number.number_of.Goals as goal

pub returns-in_default-clause-none : goal.returns-in_default-clause-none
returns-in_default-clause-none c n small is =
    c.in_default.not-Ok n (parse-decimal 64 n c.args.text.now c.parse.result small (omega arith) is c.parse.ensures.value.0)

pub returns-else-eq-clause-none : goal.returns-else-eq-clause-none
returns-else-eq-clause-none c n small is =
    let parsed = parse-decimal 64 n c.args.text.now c.parse.result small (omega arith) is c.parse.ensures.value.0 in
    let same : c.in-Ok.number ≡ n = cc (parsed, c.in-Ok.is) in
    let text : c.format.result.now ≡ c.args.text.now = c.format.ensures.text ∙ (ap decimal same ∙ sym is) in
    let equal = (bytes_eq-Decides c.format.result.now c.args.text.now).1 text in
    cc (equal, c.if-eq.ensures)
