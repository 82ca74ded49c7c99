use Rattle.std.proofs.Common.{◌≡◌, ◌++◌, map, take}
use Rattle.step_ir.specs.declared.code.CellName.{CellName}
use Rattle.one_stack.proofs.widths.put_name_widths.Given as goal

abbrev pub invariant-loop-name : goal.invariant-loop-name
invariant-loop-name l = l.widths ≡ l.initial.widths ++ map (λ (n : CellName). n.width) (take l.name-index l.names)
