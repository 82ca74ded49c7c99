use Rattle.std.proofs.Common.{[], ◌∷◌}
use Rattle.clause_form.specs.Literals.{literal}
use Rattle.bit_circuit.specs.Extension.{formula}
use Rattle.bit_circuit.proofs.LoopInvariants.{IsConstant}
use Rattle.turn_unroll.proofs.start.constant.Given as goal

abbrev pub invariant-loop-i : goal.invariant-loop-i
invariant-loop-i l = IsConstant (formula 1 ((literal 1 ∷ []) ∷ [])) l.number l.i l.rest l.lits
