use Rattle.std.proofs.Common.{subst}
use Rattle.osek_machine.proofs.Effects.{level_low}
use Rattle.osek_machine.proofs.Serving.{leaving_runs}
use Rattle.osek_machine.proofs.machine.Machine.schedule.Goals as goal
use Rattle.osek_machine.specs.Inside.{kept_of}
use Rattle.osek_machine.specs.Kept.{IsKept}

pub put_back-requires-clause-runs : goal.put_back-requires-clause-runs
put_back-requires-clause-runs c = leaving_runs c.served_services.ensures.left c.args.self.now c.args.e _ (subst IsKept c.self.view_is c.self.invariant.kept) c.requires.acts c.requires.no_fault

pub put_back-requires-clause-low : goal.put_back-requires-clause-low
put_back-requires-clause-low c = level_low (kept_of c.self.inside) c.args.e c.level_at-level.result c.self.invariant.kept c.level_at-level.ensures
