use Rattle.std.proofs.Common.{◌≡◌, ◌<◌, arith, length, slice_index, subst, sym}
use Rattle.osek_machine.proofs.Queueing.{has_room, queued_fields_kept, queued_fields_change}
use Rattle.osek_machine.proofs.machine.Machine.queue.Goals as goal
use Rattle.osek_machine.specs.Inside.{kept_of}
use Rattle.osek_machine.specs.Kept.{Kept}

known_here : (k old : Kept) (t : _) → k ≡ old → t < length old.app.tasks → t < length k.app.tasks
known_here k old t same h = subst (λ (n : Kept). t < length n.app.tasks) (sym same) h

free_here : (k old : Kept) (t : _) → k ≡ old → slice_index old.requests t < 8 → slice_index k.requests t < 8
free_here k old t same h = subst (λ (n : Kept). slice_index n.requests t < 8) (sym same) h

pub push_reserved-requires : goal.push_reserved-requires
push_reserved-requires c =
    omega (arith, has_room c.few_numbers.ensures (kept_of c.self.inside) c.args.t c.self.invariant.kept (known_here _ _ c.args.t c.self.view_is c.requires.known) (free_here _ _ c.args.t c.self.view_is c.requires.room), c.self.invariant.ready_room, c.self.inside.ready.ok.0)

pub invariant_of-self : goal.invariant_of-self
invariant_of-self c =
    record {
      kept = queued_fields_kept (kept_of c.self.inside) c.args.t c.level_at-level.result _ _ c.push_reserved.ensures.items c.one_more.ensures c.self.invariant.kept (known_here _ _ c.args.t c.self.view_is c.requires.known) (free_here _ _ c.args.t c.self.view_is c.requires.room) c.level_at-level.ensures;
      ready_room = omega (arith, c.self.invariant.ready_room, c.push_reserved.ensures.capacity);
      held_room = c.self.invariant.held_room;
      active_room = c.self.invariant.active_room;
      section_room = c.self.invariant.section_room;
      value_room = c.self.invariant.value_room;
    }

pub returns-clause-state : goal.returns-clause-state
returns-clause-state c =
    queued_fields_change (kept_of c.self.inside) _ c.args.t c.level_at-level.result _ _ c.self.view_is c.push_reserved.ensures.items c.one_more.ensures c.self.invariant.kept (known_here _ _ c.args.t c.self.view_is c.requires.known) c.level_at-level.ensures
