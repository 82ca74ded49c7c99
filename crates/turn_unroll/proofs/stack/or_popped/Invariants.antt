use Rattle.std.proofs.Common.{◌||◌, length}
use Rattle.turn_law.specs.Symbol.{row_true}
use Rattle.turn_unroll.specs.Rows.{GivesRow, found_below}
use Rattle.turn_unroll.proofs.stack.or_popped.Given as goal

abbrev pub invariant-loop-i : goal.invariant-loop-i
invariant-loop-i l = GivesRow l.fn.circuit l.circuit l.row l.i (λ v i. row_true v l.lead i || found_below v l.from l.slots i (length l.from))
