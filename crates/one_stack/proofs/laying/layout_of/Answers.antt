use Rattle.one_stack.proofs.Tabling.{laid}
use Rattle.one_stack.proofs.laying.layout_of.Goals as goal

pub returns : goal.returns
returns c = laid c.args.app.now c.args.code.now c.requires.order (c.sound_levels.ensures.sound _ c.requires.order) _ _ c.in_ok-layout.ensures c.in_ok-put_slot_widths.ensures
