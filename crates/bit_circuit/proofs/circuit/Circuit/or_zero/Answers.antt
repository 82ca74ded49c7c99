use Rattle.std.proofs.lemmas.Result.{IfOk-weaker}
use Rattle.clause_form.proofs.Rising.{AreOf-more}
use Rattle.bit_circuit.proofs.Operating.{or_zero_made}
use Rattle.bit_circuit.proofs.circuit.Circuit.or_zero.Goals as goal

pub pick-requires-clause-b : goal.pick-requires-clause-b
pick-requires-clause-b c = AreOf-more _ _ c.args.a.lits c.in_ok-is_nonzero.ensures.extends.grows c.requires.a

pub returns : goal.returns
returns c = IfOk-weaker _ _ _ (λ r p. or_zero_made _ _ _ c.args.divisor.lits c.args.a.lits _ _ _ c.in_ok-is_nonzero.ensures c.constant-zero.ensures p) c.pick.ensures
