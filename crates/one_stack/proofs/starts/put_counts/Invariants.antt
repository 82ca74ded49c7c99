use Rattle.std.proofs.Common.{◌≡◌, ◌+◌, ◌++◌}
use Rattle.one_stack.specs.Built.{table}
use Rattle.one_stack.specs.Starting.{stack_of}
use Rattle.step_ir.specs.Numbers.{times}
use Rattle.step_ir.specs.OneStackMachine.{whos}
use Rattle.one_stack.proofs.starts.put_counts.Given as goal

abbrev pub invariant-loop-t : goal.invariant-loop-t
invariant-loop-t l = l.starts ≡ l.initial.starts ++ table l.t (λ k. times k (whos (stack_of l.start.top)) + times k l.start.fresh.items)
