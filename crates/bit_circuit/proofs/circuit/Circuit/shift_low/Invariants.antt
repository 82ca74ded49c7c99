use Rattle.std.proofs.Common.{◌*◌}
use Rattle.bit_circuit.specs.BusValue.{MakesBus, moved_by}
use Rattle.bit_circuit.proofs.circuit.Circuit.shift_low.Given as goal

abbrev pub invariant-loop-i : goal.invariant-loop-i
invariant-loop-i l = MakesBus l.initial.self l.self l.result.lits (moved_by l.way l.initial.result.lits l.amount.lits l.i) (32 * l.i)
