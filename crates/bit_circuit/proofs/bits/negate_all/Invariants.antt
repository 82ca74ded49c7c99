use Rattle.std.proofs.Common.{◌≡◌, map, take, drop, ◌++◌}
use Rattle.clause_form.specs.Literals.{negation}
use Rattle.bit_circuit.proofs.bits.negate_all.Given as goal

abbrev pub invariant-loop-lit : goal.invariant-loop-lit
invariant-loop-lit l = l.lits ≡ map negation (take l.lit-index l.initial.lits) ++ drop l.lit-index l.initial.lits
