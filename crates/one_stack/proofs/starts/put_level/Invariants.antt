use Rattle.std.proofs.Common.{◌≡◌, ◌++◌}
use Rattle.one_stack.specs.Built.{mark_at, table}
use Rattle.one_stack.specs.Tables.{plan_in, seen}
use Rattle.step_ir.specs.Agreement.{fresh_at}
use Rattle.one_stack.proofs.starts.put_level.Given as goal

abbrev pub invariant-loop-i : goal.invariant-loop-i
invariant-loop-i l = l.starts ≡ l.initial.starts ++ table l.i (λ k. mark_at (plan_in l.layout).mark (fresh_at (seen l.layout) l.l l.start.fresh.items) k)
