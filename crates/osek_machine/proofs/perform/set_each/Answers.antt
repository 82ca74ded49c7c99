use Rattle.std.proofs.Common.{refl, arith}
use Rattle.osek_machine.proofs.CallSets.{setting_next}
use Rattle.osek_machine.proofs.perform.set_each.Goals as goal

pub loop-i-preserved : goal.loop-i-preserved
loop-i-preserved c =
    setting_next c.args.cells.now c.loop-i.cells _ c.args.sets.now c.args.values.now c.loop-i.i _ c.index-sets-i.result c.loop-i-test.true (omega (arith, c.requires.same, c.loop-i-test.true)) c.index-sets-i.is refl c.set_one.ensures.cells c.set_one.ensures.length c.loop-i.invariant
