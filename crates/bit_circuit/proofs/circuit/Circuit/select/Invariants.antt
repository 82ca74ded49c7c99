use Rattle.std.proofs.Common.{◌*◌}
use Rattle.bit_circuit.specs.BusValue.{MakesBus}
use Rattle.bit_circuit.proofs.LoopInvariants.{number_below}
use Rattle.bit_circuit.proofs.circuit.Circuit.select.Given as goal

abbrev pub invariant-loop-i : goal.invariant-loop-i
invariant-loop-i l = MakesBus l.initial.self l.self l.chosen.lits (number_below l.i l.items l.index) (96 * l.i)
