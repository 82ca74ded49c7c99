use Rattle.std.proofs.Common.{◌∙◌, ap, arith}
use Rattle.osek_machine.proofs.Back.{has_room_back, back_kept, back_changes}
use Rattle.osek_machine.proofs.machine.Machine.put_back.Goals as goal
use Rattle.osek_machine.specs.Inside.{kept_of}
use Rattle.osek_machine.specs.Kept.{Kept}

pub put_first-requires : goal.put_first-requires
put_first-requires c =
    omega (arith, has_room_back c.few_numbers.ensures (kept_of c.self.inside) c.args.e c.self.invariant.kept (ap (λ (k : Kept). k.running) c.self.view_is ∙ c.requires.runs), c.self.invariant.ready_room, c.self.inside.ready.ok.0)

pub invariant_of-self : goal.invariant_of-self
invariant_of-self c =
    record {
      kept = back_kept (kept_of c.self.inside) c.args.level c.args.e _ c.put_first.ensures.items c.requires.low (ap (λ (k : Kept). k.running) c.self.view_is ∙ c.requires.runs) c.self.invariant.kept;
      ready_room = omega (arith, c.self.invariant.ready_room, c.put_first.ensures.capacity);
      held_room = c.self.invariant.held_room;
      active_room = c.self.invariant.active_room;
      section_room = c.self.invariant.section_room;
      value_room = c.self.invariant.value_room;
    }

pub returns-clause-state : goal.returns-clause-state
returns-clause-state c = back_changes (kept_of c.self.inside) _ c.args.level c.args.e _ c.self.view_is c.put_first.ensures.items
