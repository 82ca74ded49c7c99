use Rattle.osek_machine.proofs.Actors.{actor_is}
use Rattle.osek_machine.proofs.machine.Machine.actor.Goals as goal
use Rattle.osek_machine.specs.Inside.{kept_of}

pub returns : goal.returns
returns c = actor_is (kept_of c.self.inside) _ _ c.as_slice.result.now c.self.invariant.kept c.self.view_is c.as_slice.ensures.value c.actor_of.ensures
