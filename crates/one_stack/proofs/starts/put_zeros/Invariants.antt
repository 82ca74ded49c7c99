use Rattle.std.proofs.Common.{◌≡◌, ◌++◌}
use Rattle.one_stack.specs.Built.{table}
use Rattle.one_stack.proofs.starts.put_zeros.Given as goal

abbrev pub invariant-loop-q : goal.invariant-loop-q
invariant-loop-q l = l.starts ≡ l.initial.starts ++ table l._q (λ k. 0)
