use Rattle.std.proofs.Common.{◌≡◌, drop}
use Rattle.clause_form.specs.Literals.{has}
use Rattle.turn_law.specs.Symbol.{no}
use Rattle.turn_unroll.proofs.goal.has_no.Given as goal

abbrev pub invariant-loop-i : goal.invariant-loop-i
invariant-loop-i l = has (drop l.i l.lits) no ≡ has l.lits no
