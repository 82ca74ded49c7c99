use Rattle.bit_circuit.proofs.Signing.{difference_outside_made}
use Rattle.bit_circuit.proofs.circuit.Circuit.difference_is_outside.Goals as goal

pub returns : goal.returns
returns c = difference_outside_made _ _ _ _ _ _ _ _ _ _ _ _ c.turn.ensures c.turn-2.ensures c.in_ok-difference.ensures c.sign.ensures c.in_ok-xor.ensures c.negated.ensures.negation
