use Rattle.std.proofs.Common.{◌≡◌, ◌<◌, length, arith}
use Rattle.std.proofs.lemmas.Bool.Decides.{nat_tests}
use Rattle.format.specs.Format.{Stuck}
use Rattle.cert_form.specs.Texts.{tokens}
use Rattle.cert_form.specs.Parts.{certificate_read}
use Rattle.cert_form.proofs.Outcomes.{stuck_at, left_at, cut_at, is_read, left_within, stuck_within}
use Rattle.cert_form.proofs.reading.read.Goals as goal

pub overflow_sub-result : goal.overflow_sub-result
overflow_sub-result c = left_within c.args.text.now c.in-Ok.rest.now _ c.in-Ok.ensures.gives

pub overflow_sub-result-else-is_empty-2 : goal.overflow_sub-result-else-is_empty-2
overflow_sub-result-else-is_empty-2 c =
    let e : certificate_read (tokens c.args.text.now) ≡ Stuck (tokens c.in-Err-At.rest.now) = rw c.in-Err-At.field-0-is at c.in-Err-At.ensures.gives in
    stuck_within c.args.text.now c.in-Err-At.rest.now e

pub returns-then-is_empty-clause-whole : goal.returns-then-is_empty-clause-whole
returns-then-is_empty-clause-whole c =
    let a = c.if-is_empty.true in
    let b = c.is_empty.ensures in
    let none : length c.in-Ok.rest.now ≡ 0 = grind (arith, nat_tests, a, b) in
    is_read c.args.text.now c.in-Ok.rest.now c.in-Ok.parts c.in-Ok.ensures.gives none

pub returns-else-is_empty-clause-stop : goal.returns-else-is_empty-clause-stop
returns-else-is_empty-clause-stop c =
    let a = c.if-is_empty.false in
    let b = c.is_empty.ensures in
    let some : 0 < length c.in-Ok.rest.now = grind (arith, nat_tests, a, b) in
    left_at c.args.text.now c.in-Ok.rest.now _ c.in-Ok.ensures.gives some

pub returns-then-is_empty-2-clause-stop : goal.returns-then-is_empty-2-clause-stop
returns-then-is_empty-2-clause-stop c =
    let a = c.if-is_empty-2.true in
    let b = c.is_empty-in-Err-At.ensures in
    let none : length c.in-Err-At.rest.now ≡ 0 = grind (arith, nat_tests, a, b) in
    let e : certificate_read (tokens c.args.text.now) ≡ Stuck (tokens c.in-Err-At.rest.now) = rw c.in-Err-At.field-0-is at c.in-Err-At.ensures.gives in
    cut_at c.args.text.now c.in-Err-At.rest.now e none

pub returns-else-is_empty-2-clause-stop : goal.returns-else-is_empty-2-clause-stop
returns-else-is_empty-2-clause-stop c =
    let a = c.if-is_empty-2.false in
    let b = c.is_empty-in-Err-At.ensures in
    let some : 0 < length c.in-Err-At.rest.now = grind (arith, nat_tests, a, b) in
    let e : certificate_read (tokens c.args.text.now) ≡ Stuck (tokens c.in-Err-At.rest.now) = rw c.in-Err-At.field-0-is at c.in-Err-At.ensures.gives in
    stuck_at c.args.text.now c.in-Err-At.rest.now e some
