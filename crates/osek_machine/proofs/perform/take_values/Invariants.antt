use Rattle.std.proofs.Common.{◌≡◌, length, vec_capacity}
use Rattle.osek_machine.proofs.CallSets.{IsTaking}
use Rattle.osek_machine.proofs.perform.take_values.Given as goal
use Rattle.osek_machine.specs.CellWords.{widths, bits}
use Rattle.step_ir.specs.PointStep.{val}

abbrev pub invariant-loop-set : goal.invariant-loop-set
invariant-loop-set l =
    record {
      taking : IsTaking (length l.cells) (val (widths l.cells) (bits l.cells)) l.sets l.set-index l.values.items;
      capacity : vec_capacity l.values ≡ vec_capacity l.fn.values;
    }
