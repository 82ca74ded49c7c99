use Rattle.std.proofs.Common.{◌<◌, ◌∙◌, length, ap, arith}
use Rattle.osek_machine.proofs.States.{dispatched_changes, dispatched_kept}
use Rattle.osek_machine.proofs.machine.Machine.dispatch.Goals as goal
use Rattle.osek_machine.specs.Inside.{kept_of}
use Rattle.osek_machine.specs.Kept.{Kept}

pub restart-requires : goal.restart-requires
restart-requires c =
    let below = c.in-Some.ensures.some.below (length c.self.inside.app.now.tasks) c.self.invariant.kept.queued.waits in
    omega (arith, below.0, c.self.invariant.kept.points, c.self.inside.points.ok.0)

pub invariant_of-self : goal.invariant_of-self
invariant_of-self c =
    record {
      kept = dispatched_kept (kept_of c.self.inside) c.in-Some.w _ _ _ c.self.invariant.kept (ap (λ (k : Kept). k.running) c.self.view_is ∙ c.requires) c.in-Some.ensures.some c.restart.ensures.points c.restart.ensures.held;
      ready_room = omega (arith, c.self.invariant.ready_room, c.take_highest.ensures.capacity);
      held_room = omega (arith, c.self.invariant.held_room, c.restart.ensures.capacity);
      active_room = c.self.invariant.active_room;
      section_room = c.self.invariant.section_room;
      value_room = c.self.invariant.value_room;
    }

pub returns-in-Some : goal.returns-in-Some
returns-in-Some c =
    let below = c.in-Some.ensures.some.below (length c.self.inside.app.now.tasks) c.self.invariant.kept.queued.waits in
    let within : c.in-Some.w.task < length c.self.inside.points.items = omega (arith, below.0, c.self.invariant.kept.points) in
    dispatched_changes c.first_entries.ensures.highest (kept_of c.self.inside) _ c.in-Some.w _ _ _ c.self.view_is within below.1 c.in-Some.ensures.some c.restart.ensures.points c.restart.ensures.held
