use Rattle.std.proofs.Common.{arith}
use Rattle.osek_machine.proofs.Deeds.{dropped_kept}
use Rattle.osek_machine.proofs.machine.Machine.drop_first.Goals as goal
use Rattle.osek_machine.specs.Inside.{kept_of}

pub invariant_of-self : goal.invariant_of-self
invariant_of-self c =
    record {
      kept = dropped_kept (kept_of c.self.inside) _ c.drop_routine.ensures.items c.self.invariant.kept;
      ready_room = c.self.invariant.ready_room;
      held_room = c.self.invariant.held_room;
      active_room = omega (arith, c.self.invariant.active_room, c.drop_routine.ensures.capacity);
      section_room = c.self.invariant.section_room;
      value_room = c.self.invariant.value_room;
    }
