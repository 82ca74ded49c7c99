use Rattle.std.proofs.Common.{subst}
use Rattle.osek_machine.proofs.Deeds.{moved}
use Rattle.osek_machine.proofs.machine.Machine.moves.Goals as goal
use Rattle.osek_machine.specs.Kept.{IsKept}

pub returns : goal.returns
returns c = moved c.args.self.now _ c.args.e c.args.next c.args.action c.args.place c.told.result (subst IsKept c.self.view_is c.self.invariant.kept) c.requires.up c.requires.known c.advance.ensures c.told.ensures
