use Rattle.std.proofs.Common.{◌≡◌, ◌++◌, map, take}
use Rattle.step_ir.specs.declared.code.CellName.{CellName}
use Rattle.step_ir.specs.Points.{own_cells}
use Rattle.one_stack.proofs.widths.code_widths.Given as goal

abbrev pub invariant-loop-entity : goal.invariant-loop-entity
invariant-loop-entity l =
    l.widths ≡ map (λ (n : CellName). n.width) (l.fn.code.globals ++ own_cells (take l.entity-index l.entities))
