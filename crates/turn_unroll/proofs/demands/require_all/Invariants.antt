use Rattle.std.proofs.Common.{◌≡◌, take}
use Rattle.bit_circuit.specs.Extension.{with_clauses}
use Rattle.turn_law.specs.Building.{units}
use Rattle.turn_unroll.proofs.demands.require_all.Given as goal

abbrev pub invariant-loop-i : goal.invariant-loop-i
invariant-loop-i l = l.circuit ≡ with_clauses l.fn.circuit (units (take l.i l.demands))
