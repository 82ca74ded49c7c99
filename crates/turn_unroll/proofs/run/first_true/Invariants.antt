use Rattle.std.proofs.Common.{◌≡◌, ◌+◌, drop}
use Rattle.clause_form.specs.ClauseTruth.{values_of}
use Rattle.turn_law.specs.Symbol.{first_true}
use Rattle.turn_unroll.proofs.run.first_true.Given as goal

abbrev pub invariant-loop-i : goal.invariant-loop-i
invariant-loop-i l = first_true (values_of l.values) l.row ≡ l.i + first_true (values_of l.values) (drop l.i l.row)
