use Rattle.std.proofs.Common.{sym, ◌∙◌}
use Rattle.bit_circuit.proofs.Folding.{and_opposite}
use Rattle.bit_circuit.proofs.circuit.Circuit.and.Goals as goal

pub returns-else-eq : goal.returns-else-eq
returns-else-eq c = and_opposite _ c.args.a c.args.b _ (sym c.variable.ensures ∙ c.if-variable.true ∙ c.variable-2.ensures) (sym c.eq.ensures ∙ c.if-eq.false) c.no.ensures
