use Rattle.std.proofs.Common.{rules, sym, ap, ◌∙◌}
use Rattle.turn_unroll.proofs.Making.{slot_there, slot_none}
use Rattle.turn_unroll.proofs.stack.slot_place.Goals as goal

pub returns-in-Some : goal.returns-in-Some
returns-in-Some c = slot_there _ c.args.slots.now c.args.d c.args.i _ (search rules) c.place.ensures

pub returns-in-None : goal.returns-in-None
returns-in-None c = slot_none c.args.slots.now c.args.d c.args.i (search rules)
