use Rattle.std.proofs.Common.{◌+◌, refl, arith}
use Rattle.bit_circuit.specs.Extension.{formula}
use Rattle.bit_circuit.proofs.Growth.{circuit_input}
use Rattle.bit_circuit.proofs.Free.{input_free}
use Rattle.bit_circuit.proofs.circuit.Circuit.input.Goals as goal

pub invariant_of-self : goal.invariant_of-self
invariant_of-self c = circuit_input (formula c.self.inside.variables c.self.inside.clauses) (omega (arith, c.self.invariant.room)) c.self.invariant

pub returns-clause-free : goal.returns-clause-free
returns-clause-free c = input_free (formula c.self.inside.variables c.self.inside.clauses) _ (c.self.inside.variables + 1) _ c.self.view_is c.self.invariant.circuit refl refl
