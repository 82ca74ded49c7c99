use Rattle.std.proofs.Common.{arith}
use Rattle.clause_form.proofs.Negations.{variable-literal}
use Rattle.bit_circuit.proofs.Growth.{new_is}
use Rattle.bit_circuit.proofs.Free.{start_extends}
use Rattle.bit_circuit.proofs.circuit.Circuit.new.Goals as goal

pub unit-requires : goal.unit-requires
unit-requires c = omega (arith, variable-literal 1)

pub invariant_of-result : goal.invariant_of-result
invariant_of-result c = new_is _ _ _ c.in_ok-push.ensures.ok c.new-clauses.ensures c.in_ok-unit.ensures

pub returns-clause-one : goal.returns-clause-one
returns-clause-one c = rw (c.in_ok-push.ensures.ok, c.new-clauses.ensures, c.in_ok-unit.ensures) start_extends
