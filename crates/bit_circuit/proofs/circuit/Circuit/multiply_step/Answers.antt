use Rattle.clause_form.proofs.Rising.{AreOf-more}
use Rattle.bit_circuit.proofs.Multiplying.{multiply_step_made}
use Rattle.bit_circuit.proofs.circuit.Circuit.multiply_step.Goals as goal

pub add_into-requires-clause-sum : goal.add_into-requires-clause-sum
add_into-requires-clause-sum c = AreOf-more _ _ _ c.in_ok-choose_into.ensures.extends.grows c.requires.sum

pub returns : goal.returns
returns c = multiply_step_made _ _ _ _ _ _ _ _ _ _ _ _ _ _ c.requires.sum_width c.requires.width c.no-row.ensures c.in_ok-choose_into.ensures c.no.ensures c.in_ok-add_into.ensures c.no-2.ensures c.move_down.ensures
