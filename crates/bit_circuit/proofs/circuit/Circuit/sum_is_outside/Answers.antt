use Rattle.bit_circuit.proofs.Signing.{sum_outside_made}
use Rattle.bit_circuit.proofs.circuit.Circuit.sum_is_outside.Goals as goal

pub returns : goal.returns
returns c = sum_outside_made _ _ _ _ _ _ _ _ _ _ _ _ _ c.turn.ensures c.turn-2.ensures c.no.ensures c.in_ok-sum.ensures c.sign.ensures c.in_ok-xor.ensures c.negated.ensures.negation
