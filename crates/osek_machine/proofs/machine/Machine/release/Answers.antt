use Rattle.std.proofs.Common.{arith}
use Rattle.osek_machine.proofs.Effects.{releasing, release_kept, release_changes}
use Rattle.osek_machine.proofs.machine.Machine.release.Goals as goal
use Rattle.osek_machine.specs.Inside.{kept_of}

pub invariant_of-self : goal.invariant_of-self
invariant_of-self c =
    record {
      kept = release_kept (kept_of c.self.inside) c.release_last.result c.args.e _ (releasing c.release_last.result _ _ c.args.e c.release_last.ensures.none c.release_last.ensures.kept c.release_last.ensures.some) c.self.invariant.kept;
      ready_room = c.self.invariant.ready_room;
      held_room = omega (arith, c.self.invariant.held_room, c.release_last.ensures.capacity);
      active_room = c.self.invariant.active_room;
      section_room = c.self.invariant.section_room;
      value_room = c.self.invariant.value_room;
    }

pub returns : goal.returns
returns c =
    release_changes (kept_of c.self.inside) _ c.release_last.result c.args.e _ c.self.view_is (releasing c.release_last.result _ _ c.args.e c.release_last.ensures.none c.release_last.ensures.kept c.release_last.ensures.some)
