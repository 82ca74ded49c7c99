use Rattle.std.proofs.Common.{arith}
use Rattle.c_types.proofs.Parts.{all_locals}
use Rattle.c_types.proofs.units.locals_of.Goals as goal

pub returns : goal.returns
returns c =
    all_locals c.locals-d-items.result.now c.loop-d.d-index c.loop-d.locals c.args.scope.now (omega arith) c.loop-d.invariant c.locals-d-items.ensures
