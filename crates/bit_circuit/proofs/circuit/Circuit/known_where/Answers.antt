use Rattle.std.proofs.Common.{sym, ◌∙◌}
use Rattle.bit_circuit.proofs.Folding.{same_true}
use Rattle.bit_circuit.proofs.circuit.Circuit.known_where.Goals as goal

pub returns-then-variable-clause-known : goal.returns-then-variable-clause-known
returns-then-variable-clause-known c v m t = same_true v c.args.c c.args.a (sym c.variable.ensures ∙ c.if-variable.true ∙ c.variable-2.ensures) t ∙ sym c.eq.ensures
