use Rattle.std.proofs.lemmas.Result.{err_from_is_err_and}
use denote.Ref.{Bor}
use Rattle.std.proofs.Common.{ℕ, List}
use Rattle.cert_form.specs.Texts.{tokens}
use Rattle.cert_form.proofs.Readers.{err_by}
use Rattle.std.proofs.Common.{◌+◌}
use Rattle.cert_form.specs.Parts.{row_read, line_read}
use Rattle.cert_form.proofs.TableParts.{row_stuck}
use Rattle.cert_form.proofs.tables.row.Goals as goal

pub returns-in_err-rest-clause-gives : goal.returns-in_err-rest-clause-gives
returns-in_err-rest-clause-gives c =
    let p = err_from_is_err_and c.from_residual.result c.from_residual.ensures.1 in
    rw (p.1, p.2) (err_by {V = Bor (List ℕ)} {W = Bor (List ℕ)} c.in_err-rest.field-0.0 (row_read c.args.table.now c.args.variables c.args.turn c.args.first c.args.count) (line_read c.args.table.now c.args.variables c.args.turn c.loop-number.number) c.args.text.now c.loop-number.rest.now (λ _. tt) (λ r. r.now) (λ _. tt) (λ r. r.now) (λ left e. row_stuck c.args.table.now c.args.variables c.args.turn (row_read c.args.table.now c.args.variables c.args.turn c.args.first c.args.count (tokens c.args.text.now)) c.loop-number.number (c.args.first + c.args.count) (tokens c.loop-number.rest.now) left c.loop-number-test.true c.loop-number.invariant.same e) c.in_err-rest.ensures.gives)
