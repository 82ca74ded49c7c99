use Rattle.std.proofs.lemmas.Result.{err_from_is_err_and}
use denote.Ref.{Bor}
use Rattle.std.proofs.Common.{◌≡◌, ℕ, Bool, false, List, arith}
use Rattle.format.specs.Format.{Got}
use Rattle.cert_form.specs.Texts.{tokens}
use Rattle.cert_form.proofs.Readers.{err_by}
use Rattle.cert_form.specs.Parts.{first_row_read, first_turn}
use Rattle.cert_form.proofs.TableParts.{first_rest_stop, first_rest_stuck}
use Rattle.cert_form.proofs.tables.first_row.Goals as goal

pub returns-in_err-item-clause-gives : goal.returns-in_err-item-clause-gives
returns-in_err-item-clause-gives c =
    let p = err_from_is_err_and c.from_residual-in_err-item.result c.from_residual-in_err-item.ensures.1 in
    rw (p.1, p.2) (err_by {V = ℕ × Bor (List ℕ)} {W = Bool × Bor (List ℕ)} c.in_err-item.field-0.0 (first_row_read c.args.more c.args.variables) (first_turn c.args.more c.args.variables c.items.number) c.args.text.now c.items.rest.now (λ x. x.0) (λ x. x.1.now) (λ x. x.0) (λ x. x.1.now) (λ left e. first_rest_stuck c.args.more c.args.variables c.requires.known c.requires.few (first_row_read c.args.more c.args.variables (tokens c.args.text.now)) c.items.number (tokens c.items.rest.now) left e c.items.invariant.same) c.in_err-item.ensures.gives)

pub returns-then-not-item-clause-gives : goal.returns-then-not-item-clause-gives
returns-then-not-item-clause-gives c =
    let stop : c.in_ok-item.item ≡ false = grind (arith, c.if-not-item.true) in
    let e : first_turn c.args.more c.args.variables c.items.number (tokens c.items.rest.now) ≡ Got false (tokens c.in_ok-item.after.now) = rw stop at c.in_ok-item.ensures.gives in
    first_rest_stop c.args.more c.args.variables c.requires.known c.requires.few (first_row_read c.args.more c.args.variables (tokens c.args.text.now)) c.items.number (tokens c.items.rest.now) (tokens c.in_ok-item.after.now) e c.items.invariant.same
