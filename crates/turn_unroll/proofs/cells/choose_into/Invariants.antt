use Rattle.std.proofs.Common.{◌*◌}
use Rattle.bit_circuit.specs.BusValue.{MakesEach, choice}
use Rattle.turn_unroll.proofs.cells.choose_into.Given as goal

abbrev pub invariant-loop-i : goal.invariant-loop-i
invariant-loop-i l = MakesEach l.initial.circuit l.circuit (choice l.c) l.initial.lits l.lits l.b l.i (1 * l.i)
