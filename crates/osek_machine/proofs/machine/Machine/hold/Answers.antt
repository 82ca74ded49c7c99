use Rattle.std.proofs.Common.{◌<◌, sym, subst, arith}
use Rattle.osek_machine.proofs.Effects.{hold_room, hold_kept, free_in, hold_changes}
use Rattle.osek_machine.proofs.machine.Machine.hold.Goals as goal
use Rattle.osek_machine.specs.Inside.{kept_of}
use Rattle.osek_machine.specs.Kept.{Kept, entities_of}

pub put_holding-requires : goal.put_holding-requires
put_holding-requires c =
    let free = free_in (kept_of c.self.inside) _ c.args.e c.args.r c.self.invariant.kept c.self.view_is c.requires.free in
    let small : c.args.r < 256 = omega arith in
    omega (arith, hold_room c.few_numbers.ensures (entities_of c.self.inside.app.now) c.args.r c.self.inside.held.items c.self.invariant.kept.held free small, c.self.invariant.held_room, c.self.inside.held.ok.0)

pub invariant_of-self : goal.invariant_of-self
invariant_of-self c =
    let free = free_in (kept_of c.self.inside) _ c.args.e c.args.r c.self.invariant.kept c.self.view_is c.requires.free in
    let small : c.args.r < 256 = omega arith in
    let known = subst (λ (n : Kept). c.args.e < entities_of n.app) (sym c.self.view_is) c.requires.known in
    record {
      kept = hold_kept (kept_of c.self.inside) c.args.e c.args.r _ c.put_holding.ensures.items known small free c.self.invariant.kept;
      ready_room = c.self.invariant.ready_room;
      held_room = omega (arith, c.self.invariant.held_room, c.put_holding.ensures.capacity);
      active_room = c.self.invariant.active_room;
      section_room = c.self.invariant.section_room;
      value_room = c.self.invariant.value_room;
    }

pub returns : goal.returns
returns c = hold_changes (kept_of c.self.inside) _ c.args.e c.args.r _ c.self.view_is c.put_holding.ensures.items
