use Rattle.std.proofs.Common.{sym, ◌∙◌}
use Rattle.bit_circuit.proofs.Folding.{known_true}
use Rattle.bit_circuit.proofs.circuit.Circuit.known.Goals as goal

pub returns-then-variable-eq1 : goal.returns-then-variable-eq1
returns-then-variable-eq1 c v m = known_true _ c.args.a v c.truth.ensures.circuit (sym c.variable.ensures ∙ c.if-variable-eq1.true) m ∙ sym c.is_positive.ensures
