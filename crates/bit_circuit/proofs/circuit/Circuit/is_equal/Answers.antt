use Rattle.bit_circuit.proofs.Comparing.{equal_made}
use Rattle.bit_circuit.proofs.circuit.Circuit.is_equal.Goals as goal

pub returns : goal.returns
returns c = equal_made _ _ _ _ _ _ _ _ c.in_ok-differences.ensures c.in_ok-is_nonzero.ensures c.negated.ensures.negation
