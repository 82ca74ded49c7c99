use Rattle.bit_circuit.proofs.LoopInvariants.{IsMultiplying}
use Rattle.bit_circuit.proofs.circuit.Circuit.product.Given as goal

abbrev pub invariant-loop-i : goal.invariant-loop-i
invariant-loop-i l = IsMultiplying l.initial.self l.self l.fn.a.lits l.b.lits l.i l.low.lits l.sum
