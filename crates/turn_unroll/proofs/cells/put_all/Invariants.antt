use Rattle.std.proofs.Common.{take}
use Rattle.bit_circuit.specs.BusValue.{number}
use Rattle.turn_unroll.specs.Cells.{SetsCells, cell_after_ways, cell_in}
use Rattle.turn_unroll.proofs.cells.put_all.Given as goal

abbrev pub invariant-loop-i : goal.invariant-loop-i
invariant-loop-i l = SetsCells l.fn.circuit l.circuit l.fn.next l.next (λ v q. cell_after_ways v l.widths l.cells (number v l.word.lits) (take l.i l.ways) q (cell_in v l.fn.next q))
