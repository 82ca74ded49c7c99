use Rattle.std.proofs.Common.{◌≡◌, IsUtf8, w64, sym, ap, ◌∙◌, subst}
use Rattle.std.specs.Fmt.{signed_decimal}
use Rattle.std.proofs.lemmas.Fmt.{IsAscii-signed, parse-signed_decimal}
use Rattle.std.proofs.lemmas.Int.{to_z-of_z}
use Rattle.std.proofs.lemmas.Str.{IsUtf8-from_ascii}
use Rattle.std.proofs.lemmas.Slice.Eq.{bytes_eq-Decides}
use Rattle.replay.proofs.value.number_of.Goals as goal

pub returns-in_default-clause-none : goal.returns-in_default-clause-none
returns-in_default-clause-none c z small is =
    c.in_default.ensures.cases.0 (subst IsUtf8 (sym is) (IsUtf8-from_ascii (signed_decimal z) (IsAscii-signed z small)))

pub returns-in_default-parse-clause-none : goal.returns-in_default-parse-clause-none
returns-in_default-parse-clause-none c z small is =
    c.in_default-parse.not-Ok z (parse-signed_decimal w64 z c.in-Ok.digits.now c.parse.result (record { sfits = small }) small (c.in-Ok.ensures.cases.0 ∙ is) c.parse.ensures.value.0)

pub returns-else-eq-clause-none : goal.returns-else-eq-clause-none
returns-else-eq-clause-none c z small is =
    let parsed = parse-signed_decimal w64 z c.in-Ok.digits.now c.parse.result (record { sfits = small }) small (c.in-Ok.ensures.cases.0 ∙ is) c.parse.ensures.value.0 in
    let same : c.in-Ok-parse.number ≡ z = cc (parsed, c.in-Ok-parse.is) in
    let text : c.as_bytes.result.now ≡ c.args.text.now = c.as_bytes.ensures.value ∙ (c.format.ensures.text ∙ (ap signed_decimal (to_z-of_z w64 c.in-Ok-parse.number (rw same (record { sfits = small })) ∙ same) ∙ sym is)) in
    let equal = (bytes_eq-Decides c.as_bytes.result.now c.args.text.now).1 text in
    cc (equal, c.if-eq.ensures)
