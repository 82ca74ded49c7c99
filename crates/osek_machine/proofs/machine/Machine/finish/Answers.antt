use Rattle.std.proofs.Common.{subst}
use Rattle.osek_machine.proofs.Serving.{actor_within}
use Rattle.osek_machine.proofs.machine.Machine.finish.Goals as goal
use Rattle.osek_machine.specs.Kept.{IsKept}

pub moves-requires-clause-known : goal.moves-requires-clause-known
moves-requires-clause-known c = actor_within c.args.self.now c.args.e (subst IsKept c.self.view_is c.self.invariant.kept) c.requires.acts
