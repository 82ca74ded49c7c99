use Rattle.std.proofs.Common.{ap, not, ◌∙◌}
use Rattle.one_run.specs.OneRun.{steps}
use Rattle.decided_run.proofs.Deciding.{is_failing_one}
use Rattle.decided_run.proofs.decide.by_one_run.Goals as goal

pub returns-clause-means : goal.returns-clause-means
returns-clause-means c =
    let run = c.in_ok-replayed.replayed in
    is_failing_one c.args.app.now c.args.code.now c.args.turns c.in_ok-choices.choices run.events run.failure
    c.in_ok-replayed.ensures
    (c.is_none.ensures ∙ ap not c.if-is_none.false)
    (c.in_ok-choices.ensures ∙ ap steps c.len.ensures)
