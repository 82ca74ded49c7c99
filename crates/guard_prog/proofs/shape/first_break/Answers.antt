use Rattle.std.proofs.Common.{arith}
use Rattle.guard_prog.proofs.Shapes.{well_shaped_below}
use Rattle.guard_prog.proofs.shape.first_break.Goals as goal

pub returns-clause-none : goal.returns-clause-none
returns-clause-none c =
    well_shaped_below c.args.draft.now c.loop-i.i (omega arith) (omega arith) c.loop-i.invariant
