use Rattle.std.proofs.lemmas.Result.{IfOk-weaker}
use Rattle.bit_circuit.proofs.Signing.{absolute_made}
use Rattle.bit_circuit.proofs.circuit.Circuit.absolute.Goals as goal

pub returns : goal.returns
returns c = IfOk-weaker _ _ _ (λ r p. absolute_made _ _ c.args.a.lits _ _ c.sign.ensures p) c.negate_if.ensures
