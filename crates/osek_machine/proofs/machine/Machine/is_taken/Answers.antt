use Rattle.osek_machine.proofs.Actors.{taken_is}
use Rattle.osek_machine.proofs.machine.Machine.is_taken.Goals as goal
use Rattle.osek_machine.specs.Inside.{kept_of}

pub returns : goal.returns
returns c = taken_is (kept_of c.self.inside) _ c.args.r _ c.as_slice.result.now c.self.invariant.kept c.self.view_is c.as_slice.ensures.value c.is_held.ensures
