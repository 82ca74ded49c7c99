use Rattle.bit_circuit.proofs.GateClauses.{xor_made_by}
use Rattle.bit_circuit.proofs.circuit.Circuit.one.Goals as goal

pub returns : goal.returns
returns c =
    xor_made_by _ _ _ _ _ _ _ _ _ _ _ _ c.truth.ensures.circuit c.requires.a c.requires.b c.in_ok-r.ensures.new c.in_ok-r.ensures.only
    c.negated-not_r.ensures.negation c.negated-not_a.ensures.negation c.negated-not_b.ensures.negation
    c.in_ok-require_any.ensures c.in_ok-require_any-2.ensures c.in_ok-require_any-3.ensures c.in_ok-require_any-4.ensures
