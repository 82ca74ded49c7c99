use Rattle.std.proofs.Common.{subst}
use Rattle.replay.specs.Replaying.{IsCause}
use Rattle.decided_run.proofs.Permitted.{none_refused}
use Rattle.decided_run.proofs.decide.failing_run.Goals as goal

pub unreachable-requires : goal.unreachable-requires
unreachable-requires c =
    let refused = subst (IsCause c.args.app.now c.args.code.now c.args.choices) c.in-Err-NotPermitted.field-0-is c.in-Err-NotPermitted.ensures.refused in
    none_refused c.args.app.now c.args.code.now c.args.bounds.turns c.args.bounds.arrivals c.args.choices _ _ _ c.requires.fails refused
