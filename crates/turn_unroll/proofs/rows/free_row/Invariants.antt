use Rattle.std.proofs.Common.{take}
use Rattle.turn_unroll.specs.Rows.{IsFreeRow}
use Rattle.turn_unroll.proofs.rows.free_row.Given as goal

abbrev pub invariant-loop-i : goal.invariant-loop-i
invariant-loop-i l = IsFreeRow l.fn.circuit l.circuit (take l.i l.places) l.row
