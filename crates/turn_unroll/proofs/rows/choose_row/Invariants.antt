use Rattle.turn_unroll.specs.Rows.{GivesRow, row_chosen}
use Rattle.turn_unroll.proofs.rows.choose_row.Given as goal

abbrev pub invariant-loop-i : goal.invariant-loop-i
invariant-loop-i l = GivesRow l.fn.circuit l.circuit l.row l.i (λ v i. row_chosen v l.choice l.kept l.new i)
