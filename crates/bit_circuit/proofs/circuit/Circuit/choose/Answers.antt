use Rattle.std.proofs.Common.{sym, ◌∙◌}
use Rattle.std.proofs.lemmas.Result.{IfOk-weaker}
use Rattle.bit_circuit.proofs.Folding.{choose_opposite, choose_or, choose_and, choose_or_else, choose_and_else, apart_from}
use Rattle.bit_circuit.proofs.circuit.Circuit.choose.Goals as goal

pub returns-else-eq : goal.returns-else-eq
returns-else-eq c = IfOk-weaker _ _ _ (λ r m. choose_opposite _ _ c.args.c c.args.a c.args.b r (sym c.variable.ensures ∙ c.if-variable.true ∙ c.variable-2.ensures) (sym c.eq.ensures ∙ c.if-eq.false) m) c.xor.ensures

pub returns-then-value-2 : goal.returns-then-value-2
returns-then-value-2 c = IfOk-weaker _ _ _ (λ r m. choose_or _ _ c.args.c c.args.a c.args.b r _ c.if-value-2.true c.in-Some-known_where.ensures.known m) c.or.ensures

pub returns-else-value-2 : goal.returns-else-value-2
returns-else-value-2 c = IfOk-weaker _ _ _ (λ r m. choose_and _ _ c.args.c _ c.args.a c.args.b r _ c.if-value-2.false c.negated-not_c.ensures.negation c.in-Some-known_where.ensures.known m) c.and.ensures

pub returns-then-value-3 : goal.returns-then-value-3
returns-then-value-3 c = IfOk-weaker _ _ _ (λ r m. choose_or_else _ _ c.args.c _ c.args.a c.args.b r _ c.if-value-3.true c.negated-not_c.ensures.negation c.in-Some-known_where-2.ensures.known m) c.or-then-value-3.ensures

pub returns-else-value-3 : goal.returns-else-value-3
returns-else-value-3 c = IfOk-weaker _ _ _ (λ r m. choose_and_else _ _ c.args.c _ c.args.a c.args.b r _ c.if-value-3.false c.negated-not_c.ensures.negation c.in-Some-known_where-2.ensures.known m) c.and-else-value-3.ensures

pub either-requires-clause-b_apart : goal.either-requires-clause-b_apart
either-requires-clause-b_apart c = apart_from c.args.b c.args.c _ c.negated-not_c.ensures.negation c.in_default-known_where-2.ensures.apart
