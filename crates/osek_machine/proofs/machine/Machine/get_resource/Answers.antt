use Rattle.std.proofs.Common.{subst}
use Rattle.osek_machine.proofs.Serving.{actor_within, get_free}
use Rattle.osek_machine.proofs.machine.Machine.get_resource.Goals as goal
use Rattle.osek_machine.specs.Kept.{IsKept}

pub hold-requires-clause-known : goal.hold-requires-clause-known
hold-requires-clause-known c = actor_within c.args.self.now c.args.e (subst IsKept c.self.view_is c.self.invariant.kept) c.requires.acts

pub hold-requires-clause-free : goal.hold-requires-clause-free
hold-requires-clause-free c = get_free c.args.self.now c.args.e c.args.r c.requires
