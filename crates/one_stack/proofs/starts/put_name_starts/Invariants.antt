use Rattle.std.proofs.Common.{◌≡◌, ◌++◌, map, take}
use Rattle.step_ir.specs.declared.code.CellName.{CellName}
use Rattle.one_stack.proofs.starts.put_name_starts.Given as goal

abbrev pub invariant-loop-name : goal.invariant-loop-name
invariant-loop-name l = l.starts ≡ l.initial.starts ++ map (λ (n : CellName). n.start) (take l.name-index l.names)
