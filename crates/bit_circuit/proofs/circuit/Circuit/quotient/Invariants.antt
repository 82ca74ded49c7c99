use Rattle.bit_circuit.proofs.LoopInvariants.{IsDividing}
use Rattle.bit_circuit.proofs.circuit.Circuit.quotient.Given as goal

abbrev pub invariant-loop-i : goal.invariant-loop-i
invariant-loop-i l = IsDividing l.initial.self l.self l.a.lits l.fn.b.lits l.i l.quotient.lits l.rest

abbrev pub decreases-loop-i : goal.decreases-loop-i
decreases-loop-i l = l.i
