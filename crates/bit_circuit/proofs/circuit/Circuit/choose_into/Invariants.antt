use Rattle.std.proofs.Common.{◌*◌}
use Rattle.bit_circuit.specs.BusValue.{MakesEach, choice}
use Rattle.bit_circuit.proofs.circuit.Circuit.choose_into.Given as goal

abbrev pub invariant-loop-i : goal.invariant-loop-i
invariant-loop-i l = MakesEach l.initial.self l.self (choice l.c) l.initial.lits l.lits l.b l.i (1 * l.i)
