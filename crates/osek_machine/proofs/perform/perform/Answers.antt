use Rattle.std.proofs.Common.{◌∙◌, ap, map, sym}
use Rattle.osek_machine.proofs.Inputs.{performed_input, performed_act}
use Rattle.osek_machine.proofs.perform.perform.Goals as goal
use Rattle.osek_machine.specs.CellWords.{widths, bits}
use Rattle.step_ir.specs.PointStep.{first, val}
use Rattle.step_ir.specs.Points.{plain_of, item_of}

pub returns-in-Some-Some-clause-performed : goal.returns-in-Some-Some-clause-performed
returns-in-Some-Some-clause-performed c =
    performed_input (widths c.args.cells.now) (plain_of c.args.point.now) c.in-Some-Some.cell c.trap_in-trap.result _ _ _ _ (bits c.args.cells.now) c.args.cells.now _ _ (sym c.input_of.ensures ∙ c.in-Some-Some.is-0) (c.trap_in-trap.ensures ∙ ap (λ ts. first (val (widths c.args.cells.now) (bits c.args.cells.now)) (map item_of ts)) c.items.ensures) c.in-Some-Some.is-1 (ap (map item_of) c.items-nexts.ensures) c.input.ensures.performed

pub returns-in-None-clause-performed : goal.returns-in-None-clause-performed
returns-in-None-clause-performed c =
    performed_act (widths c.args.cells.now) (plain_of c.args.point.now) c.trap_in-trap.result _ _ _ (bits c.args.cells.now) c.args.cells.now _ _ (c.trap_in-trap.ensures ∙ ap (λ ts. first (val (widths c.args.cells.now) (bits c.args.cells.now)) (map item_of ts)) c.items.ensures) c.in-None.is c.in-None-None.is-1 (ap (map item_of) c.items-nexts.ensures) c.act.ensures.performed
