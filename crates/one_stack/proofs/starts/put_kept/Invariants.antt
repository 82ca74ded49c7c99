use Rattle.std.proofs.Common.{◌≡◌, ◌++◌}
use Rattle.one_stack.specs.Built.{concat_below, table}
use Rattle.one_stack.proofs.starts.put_kept.Given as goal

abbrev pub invariant-loop-e : goal.invariant-loop-e
invariant-loop-e l = l.starts ≡ l.initial.starts ++ concat_below l._e (λ k. table l.layout.resources (λ q. 0))
