use Rattle.std.proofs.Common.{◌≡◌, ◌++◌}
use Rattle.one_stack.specs.Built.{table}
use Rattle.one_stack.proofs.widths.put_widths.Given as goal

abbrev pub invariant-loop-q : goal.invariant-loop-q
invariant-loop-q l = l.widths ≡ l.initial.widths ++ table l._q (λ q. l.width)
