use Rattle.std.proofs.Common.{arith}
use Rattle.osek_machine.proofs.Arriving.{arrival, arrival_room, arrival_within, begun_kept, begun_changes}
use Rattle.osek_machine.proofs.machine.Machine.begin.Goals as goal
use Rattle.osek_machine.specs.Inside.{kept_of}

pub put_routine-requires : goal.put_routine-requires
put_routine-requires c =
    omega (arith, arrival_room (kept_of c.self.inside) c.args.r c.self.invariant.kept (arrival (kept_of c.self.inside) _ c.args.r c.self.invariant.kept c.self.view_is c.requires.may), c.self.invariant.active_room, c.self.inside.active.ok.0)

pub restart_point-requires : goal.restart_point-requires
restart_point-requires c =
    omega (arith, arrival_within (kept_of c.self.inside) c.args.r c.self.invariant.kept (arrival (kept_of c.self.inside) _ c.args.r c.self.invariant.kept c.self.view_is c.requires.may), c.self.inside.points.ok.0)

pub invariant_of-self : goal.invariant_of-self
invariant_of-self c =
    record {
      kept = begun_kept (kept_of c.self.inside) c.args.r _ _ _ (arrival (kept_of c.self.inside) _ c.args.r c.self.invariant.kept c.self.view_is c.requires.may) c.restart_point.ensures c.release_all.ensures.held c.put_routine.ensures.items c.self.invariant.kept;
      ready_room = c.self.invariant.ready_room;
      held_room = omega (arith, c.self.invariant.held_room, c.release_all.ensures.capacity);
      active_room = omega (arith, c.self.invariant.active_room, c.put_routine.ensures.capacity);
      section_room = c.self.invariant.section_room;
      value_room = c.self.invariant.value_room;
    }

pub returns : goal.returns
returns c =
    begun_changes (kept_of c.self.inside) _ c.args.r _ _ _ c.self.invariant.kept c.self.view_is (arrival (kept_of c.self.inside) _ c.args.r c.self.invariant.kept c.self.view_is c.requires.may) c.restart_point.ensures c.release_all.ensures.held c.put_routine.ensures.items
