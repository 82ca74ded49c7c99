use Rattle.std.proofs.Common.{◌∙◌, length, map, ap}
use Rattle.std.proofs.lemmas.List.{length-map}
use Rattle.osek_machine.proofs.CallSets.{called, length-values_of}
use Rattle.osek_machine.proofs.perform.call.Goals as goal
use Rattle.osek_machine.specs.CellWords.{widths, bits}
use Rattle.step_ir.specs.PointStep.{val}
use Rattle.step_ir.specs.Points.{set_of}

pub set_each-requires-clause-same : goal.set_each-requires-clause-same
set_each-requires-clause-same c =
    ap length c.as_slice.ensures.value ∙ ap length c.take_values.ensures.values ∙ length-values_of (val (widths c.args.cells.now) (bits c.args.cells.now)) (map set_of c.args.sets.now) ∙ length-map c.args.sets.now set_of

pub returns-clause-done : goal.returns-clause-done
returns-clause-done c =
    called c.args.function c.args.sets.now c.as_slice.result.now c.args.cells.now _ (c.as_slice.ensures.value ∙ c.take_values.ensures.values) c.set_each.ensures.bits c.set_each.ensures.widths c.set_each.ensures.length
