use Rattle.step_ir.specs.declared.code.CellName.{CellName}
use Rattle.one_stack.proofs.Stepping.{cells_more}
use Rattle.one_stack.proofs.widths.code_widths.Goals as goal

pub loop-entity-preserved : goal.loop-entity-preserved
loop-entity-preserved c =
    cells_more (λ (n : CellName). n.width) _ _ c.args.code.now.globals _ c.items-entities.result.now c.loop-entity.entity-index c.entity-item.result c.loop-entity-test.true c.entity-item.is c.items-in-loop-entity.ensures c.loop-entity.invariant c.in_ok-put_name_widths-2.ensures
