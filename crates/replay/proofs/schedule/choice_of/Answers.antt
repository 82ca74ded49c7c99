use Rattle.std.proofs.Common.{sym, ◌∙◌}
use Rattle.std.proofs.lemmas.Slice.Eq.{bytes_eq-Decides}
use Rattle.replay.proofs.Choosing.{if_none, no_choice}
use Rattle.replay.proofs.schedule.choice_of.Goals as goal

pub returns-in_err-routine_of-clause-none : goal.returns-in_err-routine_of-clause-none
returns-in_err-routine_of-clause-none c =
    if_none c.from_residual-in_err-routine_of.result
    (no_choice
    c.args.app.now
    c.args.input
    c.args.line.now
    (λ same.
    let equal = (bytes_eq-Decides c.args.line.now c.as_slice.result.now).1 (same ∙ sym c.as_slice.ensures) in
    cc (equal, c.eq.ensures, c.if-eq.false))
    c.in_default.ensures
    c.in_ok-name.name.now
    c.in_ok-name.ensures
    c.in_err-routine_of.ensures.none)
