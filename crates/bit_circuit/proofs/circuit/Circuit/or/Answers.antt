use Rattle.bit_circuit.proofs.Composition.{or_made_by}
use Rattle.bit_circuit.proofs.circuit.Circuit.or.Goals as goal

pub returns : goal.returns
returns c = or_made_by _ _ _ _ _ _ _ _ c.negated.ensures.negation c.negated-2.ensures.negation c.negated-3.ensures.negation c.in_ok-and.ensures
