use Rattle.std.proofs.Common.{◌≡◌, ◌++◌}
use Rattle.one_stack.specs.Built.{concat_below, mark_at, table}
use Rattle.one_stack.specs.Tables.{plan_in, room_in, seen}
use Rattle.step_ir.specs.Agreement.{fresh_at}
use Rattle.one_stack.proofs.starts.put_requests.Given as goal

abbrev pub invariant-loop-l : goal.invariant-loop-l
invariant-loop-l l = l.starts ≡ l.initial.starts ++ concat_below l.l (λ k. table (room_in l.layout k) (λ i. mark_at (plan_in l.layout).mark (fresh_at (seen l.layout) k l.start.fresh.items) i))
