use Rattle.std.proofs.Common.{◌≡◌, drop}
use Rattle.clause_form.specs.ClauseTruth.{values_of}
use Rattle.bit_circuit.specs.BusValue.{number}
use Rattle.turn_unroll.proofs.run.number.Given as goal

abbrev pub invariant-loop-i : goal.invariant-loop-i
invariant-loop-i l = l.sum ≡ number (values_of l.values) (drop l.i l.row)
