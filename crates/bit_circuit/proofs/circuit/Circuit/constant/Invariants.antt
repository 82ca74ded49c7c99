use Rattle.bit_circuit.proofs.LoopInvariants.{IsConstant}
use Rattle.bit_circuit.proofs.circuit.Circuit.constant.Given as goal

abbrev pub invariant-loop-i : goal.invariant-loop-i
invariant-loop-i l = IsConstant l.self l.n l.i l.rest l.lits
