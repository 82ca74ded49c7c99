use Rattle.std.proofs.Common.{subst}
use Rattle.osek_machine.proofs.Deeds.{left}
use Rattle.osek_machine.proofs.machine.Machine.leave.Goals as goal
use Rattle.osek_machine.specs.Kept.{IsKept}

pub returns : goal.returns
returns c = left c.args.self.now c.drop_first.new.self _ c.args.e (subst IsKept c.self.view_is c.self.invariant.kept) c.requires.acts c.requires.routine c.drop_first.ensures c.after_routine.ensures
