use Rattle.std.proofs.Common.{sym, ◌∙◌}
use Rattle.bit_circuit.proofs.Folding.{xor_left, xor_right, xor_variable}
use Rattle.bit_circuit.proofs.circuit.Circuit.xor.Goals as goal

pub returns-then-value : goal.returns-then-value
returns-then-value c = xor_left _ c.args.a c.args.b _ _ c.requires.b c.if-value.true c.in-Some.ensures c.negated.ensures.negation

pub returns-then-value-2 : goal.returns-then-value-2
returns-then-value-2 c = xor_right _ c.args.a c.args.b _ _ c.requires.a c.if-value-2.true c.in-Some-known.ensures c.negated-then-value-2.ensures.negation

pub returns-then-variable : goal.returns-then-variable
returns-then-variable c = xor_variable _ c.args.a c.args.b _ _ (sym c.variable.ensures ∙ c.if-variable.true ∙ c.variable-2.ensures) c.ne.ensures c.literal_of.ensures
