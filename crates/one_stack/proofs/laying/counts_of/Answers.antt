use Rattle.std.proofs.Common.{arith, ap}
use Rattle.one_stack.proofs.Tabling.{count_at}
use Rattle.step_ir.specs.Fits.{point_count}
use Rattle.one_stack.proofs.laying.counts_of.Goals as goal

pub overflow_cast-len : goal.overflow_cast-len
overflow_cast-len c =
    let few = count_at c.items-entities.result.now c.loop-entity.entity-index c.entity-item.result c.loop-entity-test.true c.entity-item.is in
    omega (arith, few, ap point_count c.items-entities.ensures, c.requires, c.len.ensures)
