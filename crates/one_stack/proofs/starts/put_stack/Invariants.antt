use Rattle.std.proofs.Common.{◌≡◌, ◌++◌}
use Rattle.one_stack.specs.Built.{table}
use Rattle.one_stack.specs.Starting.{stack_of}
use Rattle.step_ir.specs.Numbers.{times}
use Rattle.step_ir.specs.OneStackMachine.{whos}
use Rattle.one_stack.proofs.starts.put_stack.Given as goal

abbrev pub invariant-loop-x : goal.invariant-loop-x
invariant-loop-x l = l.starts ≡ l.initial.starts ++ table l.x (λ k. times k (whos (stack_of l.start.top)))
