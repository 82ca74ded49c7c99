use Rattle.std.proofs.lemmas.Result.{IfOk-weaker}
use Rattle.clause_form.proofs.Rising.{AreOf-more}
use Rattle.bit_circuit.proofs.Operating.{division_made}
use Rattle.bit_circuit.proofs.circuit.Circuit.division.Goals as goal

pub or_zero-requires-clause-divisor : goal.or_zero-requires-clause-divisor
or_zero-requires-clause-divisor c = AreOf-more _ _ c.args.b.lits c.in_ok-result.ensures.extends.grows c.requires.b

pub returns : goal.returns
returns c = IfOk-weaker _ _ _ (λ r p. division_made _ _ _ c.args.op c.args.a.lits c.args.b.lits c.in_ok-result.result.lits _ c.requires.op c.in_ok-result.ensures p) c.or_zero.ensures
