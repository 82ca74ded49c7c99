use Rattle.std.proofs.Common.{take}
use Rattle.bit_circuit.specs.Extension.{Makes}
use Rattle.bit_circuit.specs.BusValue.{any_true}
use Rattle.bit_circuit.proofs.circuit.Circuit.any.Given as goal

abbrev pub invariant-loop-i : goal.invariant-loop-i
invariant-loop-i l = Makes l.initial.self l.self l.some (any_true (take l.i l.lits)) l.i
