use Rattle.std.proofs.Common.{ap, ◌∙◌}
use Rattle.clause_form.specs.Literals.{negation}
use Rattle.bit_circuit.proofs.Buses.{no_made}
use Rattle.bit_circuit.proofs.circuit.Circuit.no.Goals as goal

pub returns : goal.returns
returns c = no_made _ _ c.truth.ensures.circuit (c.negated.ensures.negation ∙ ap negation c.truth.ensures.literal)
